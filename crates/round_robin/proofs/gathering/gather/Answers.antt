use Rattle.std.proofs.Common.{◌≡◌, ℕ, ◌+◌, ◌-◌, ◌%◌, [], ◌∷◌, ◌++◌, length, map, reverse}
use Rattle.std.proofs.Common.{length-append, refl, sym, ap, ◌∙◌, subst, arith, vec_capacity}
use Rattle.std.proofs.Math.ListN.{set}
use Rattle.round_robin.specs.Dealing.{IsDealtInTurn, HasLengths, hand_of}
use Rattle.round_robin.proofs.Deals.{none_dealt}
use Rattle.round_robin.proofs.Turned.{one_more_turned}
use Rattle.round_robin.proofs.Steps.{hand_is_there, last_hand_has_one, comes_from_hand, is_dealt_with_last}
use Rattle.round_robin.proofs.gathering.gather.Goals as goal
use Rattle.round_robin.proofs.gathering.gather.Goals.{in-Some, in_default}

pub loop-i-preserved : goal.loop-i-preserved
loop-i-preserved g c =
    let i = c.loop-i.invariant in
    let m : ℕ = c.args.count - 1 - c.loop-i.i in
    let left : c.args.count - c.loop-i.i ≡ m + 1 = omega arith in
    let less : c.args.count - (c.loop-i.i + 1) ≡ m = omega arith in
    let n : ℕ = c.len-hands.result in
    let vs = c.loop-i.dealt.items in
    let v = c.index_mut.result.now in
    let value = c.index_mut.ensures.value in
    let lengths : HasLengths (m + 1) c.args.first n (map (λ v. v.items) vs) =
    subst (λ z. HasLengths z c.args.first n (map (λ v. v.items) vs)) left i.lengths in
    let there = hand_is_there (λ v. v.items) m c.args.first n vs lengths.some lengths.count in
    elim c.match-pop.branch [
      | in-Some w ↦ (
          let x = w.in-Some.item in
          let rest = c.pop.new.self in
          let items = w.in-Some.ensures.items in
          let now : c.match-pop.items.items ≡ c.loop-i.items.items ++ x ∷ [] =
          ap (λ v. v.items) w.items-is ∙ w.push_reserved.ensures.items in
          record {
            lengths = subst (λ z. HasLengths z c.args.first n
                (map (λ v. v.items) (set vs (hand_of c.args.first n (m % n)) rest))) (sym less)
                (comes_from_hand (λ v. v.items) m c.args.first n vs v rest x lengths value items);
            dealt = λ front long d.
                subst (λ z. IsDealtInTurn z c.args.first n (map (λ v. v.items) c.args.dealt.items))
                (one_more_turned front c.match-pop.items.items c.loop-i.items.items x
                (front ++ reverse c.match-pop.items.items) now refl)
                (i.dealt (front ++ x ∷ []) (length-append front (x ∷ []) ∙ ap (λ z. z + 1) (long ∙ less) ∙ sym left)
                (is_dealt_with_last (λ v. v.items) m c.args.first n vs v rest x front d there (long ∙ less) value
                items));
            gathered = ap length now ∙ length-append c.loop-i.items.items (x ∷ []) ∙ ap (λ z. z + 1) i.gathered;
            capacity = ap vec_capacity w.items-is ∙ w.push_reserved.ensures.capacity ∙ i.capacity;
          })
      | in_default w ↦ (
          let has = last_hand_has_one (λ v. v.items) m c.args.first n vs v lengths value in
          let long = v.ok.0 in
          let none = w.in_default.ensures.cases in
          absurd (omega arith))
    ]

pub returns-clause-dealt : goal.returns-clause-dealt
returns-clause-dealt g c =
    let i = c.loop-i.invariant in
    let none : c.args.count - c.loop-i.i ≡ 0 = omega arith in
    let n : ℕ = c.len-hands.result in
    let long : n ≡ length c.args.dealt.items = c.len-hands.ensures ∙ c.args.dealt.ok.0 in
    let first = map (λ v. v.items) c.args.dealt.items in
    let now = map (λ v. v.items) c.loop-i.dealt.items in
    let lengths : HasLengths 0 c.args.first n now = subst (λ m. HasLengths m c.args.first n now) none i.lengths in
    let whole : IsDealtInTurn (reverse c.loop-i.items.items) c.args.first n first = i.dealt [] (sym none)
    (none_dealt c.args.first n now lengths) in
    let sized : IsDealtInTurn (reverse c.loop-i.items.items) c.args.first (length c.args.dealt.items) first =
    subst (λ m. IsDealtInTurn (reverse c.loop-i.items.items) c.args.first m first) long whole in
    subst (λ xs. IsDealtInTurn xs c.args.first (length c.args.dealt.items) first) (sym c.reverse.ensures.items) sized
