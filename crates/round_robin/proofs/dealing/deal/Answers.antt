use Rattle.std.proofs.Common.{◌≡◌, ℕ, ◌+◌, ◌/◌, ◌%◌, ◌<◌, ◌≤◌, [], ◌∷◌, ◌++◌, length, map, reverse, length-set}
use Rattle.std.proofs.Common.{length-append, refl, sym, ap, ◌∙◌, subst, arith, vec_capacity}
use Rattle.std.proofs.lemmas.List.{length-reverse, reverse-reverse}
use Rattle.round_robin.specs.Dealing.{IsDealtInTurn, hand_of}
use Rattle.round_robin.proofs.Steps.{hand_is_there, empty_dealt, goes_to_hand, hand_has_room, none_held, one_more_held}
use Rattle.round_robin.proofs.Turned.{one_more_turned, one_is_left, all_set}
use Rattle.round_robin.proofs.dealing.deal.Goals as goal

pub loop-item-init : goal.loop-item-init
loop-item-init g c =
    let n : ℕ = length c.args.hands.now.items in
    let count : n ≡ c.len-count.result = sym (c.len-count.ensures ∙ c.args.hands.now.ok.0) in
    record {
      dealt = (
        [],
        refl,
        ap reverse c.reverse.ensures.items ∙ reverse-reverse c.args.items.now.items,
        subst (λ m. IsDealtInTurn [] c.args.first m (map (λ v. v.items) c.args.hands.now.items)) count
            (empty_dealt (λ v. v.items) c.args.first n c.args.hands.now.items
            (λ v. length c.args.items.now.items / n + 1 ≤ vec_capacity v) c.requires.some refl c.requires.room),
      );
      total =
          let none = none_held (λ v. v.items) c.args.hands.now.items
          (λ v. length c.args.items.now.items / n + 1 ≤ vec_capacity v) c.requires.room in
          let turned = ap length c.reverse.ensures.items ∙ length-reverse c.args.items.now.items in
          omega arith;
      room = λ k d lt. (
          let z = (c.requires.room k d lt).1 in
          let e : length c.args.items.now.items / n ≡ length c.args.items.now.items / c.len-count.result =
          ap (λ m. length c.args.items.now.items / m) count in
          omega arith);
      capacity = c.reverse.ensures.capacity;
      long = refl;
      hands_capacity = refl;
    }

pub push_reserved-requires : goal.push_reserved-requires
push_reserved-requires g c =
    let i = c.loop-item.invariant in
    let d = i.dealt in
    let n : ℕ = c.len-count.result in
    let v = c.index_mut.result.now in
    let vs = c.loop-item.hands.items in
    let value = c.index_mut.ensures.value in
    let all : ℕ = length c.args.items.now.items in
    let below : c.loop-item.at < all =
    one_is_left d.0 c.loop-item.items.items c.pop.new.self.items c.in-Some.item c.args.items.now.items
    c.loop-item.at c.in-Some.ensures.items d.2 d.1 in
    let has = hand_has_room (λ v. v.items) d.0 c.args.first n vs c.loop-item.at all v d.3 d.1 value below in
    let there = hand_is_there (λ v. v.items) c.loop-item.at c.args.first n vs d.3.some d.3.count in
    let room : all / n < vec_capacity v =
    subst (λ z. all / n < vec_capacity z) (sym value)
    (i.room (hand_of c.args.first n (c.loop-item.at % n)) v there) in
    let long = v.ok.0 in
    omega arith

pub loop-item-preserved : goal.loop-item-preserved
loop-item-preserved g c =
    let i = c.loop-item.invariant in
    let d = i.dealt in
    let n : ℕ = c.len-count.result in
    let v = c.index_mut.result.now in
    let vs = c.loop-item.hands.items in
    let value = c.index_mut.ensures.value in
    let all : ℕ = length c.args.items.now.items in
    let at : ℕ = hand_of c.args.first n (c.loop-item.at % n) in
    let there = hand_is_there (λ v. v.items) c.loop-item.at c.args.first n vs d.3.some d.3.count in
    let room : all / n < vec_capacity v = subst (λ z. all / n < vec_capacity z) (sym value) (i.room at v there) in
    let kept = c.push_reserved.ensures.capacity in
    record {
      dealt = (
        d.0 ++ c.in-Some.item ∷ [],
        length-append d.0 (c.in-Some.item ∷ []) ∙ ap (λ m. m + 1) d.1,
        one_more_turned d.0 c.loop-item.items.items c.pop.new.self.items c.in-Some.item c.args.items.now.items
            c.in-Some.ensures.items d.2,
        goes_to_hand (λ v. v.items) d.0 c.args.first n vs c.loop-item.at v c.push_reserved.new.self c.in-Some.item d.3
            d.1 value c.push_reserved.ensures.items,
      );
      total =
          let more = one_more_held (λ v. v.items) vs at v c.push_reserved.new.self c.in-Some.item there value
          c.push_reserved.ensures.items in
          let fewer = ap length c.in-Some.ensures.items
          ∙ length-append c.pop.new.self.items (c.in-Some.item ∷ []) in
          let before = i.total in
          omega arith;
      room = all_set (λ z. all / n < vec_capacity z) vs at c.push_reserved.new.self i.room (omega arith);
      capacity = c.pop.ensures.capacity ∙ i.capacity;
      long = length-set vs at c.push_reserved.new.self ∙ i.long;
      hands_capacity = i.hands_capacity;
    }
