-- Lists that are dealt to hands, one item after another.
use Rattle.std.proofs.Common.{◌≡◌, ℕ, ◌+◌, ◌*◌, ◌/◌, ◌%◌, ◌<◌, List, [], ◌∷◌, ◌++◌, length, Some, get_or, sym, ap, ◌∙◌}
use Rattle.std.proofs.Common.{arith, length-append, get_or-set_same, get_or-set_other}
use Rattle.std.specs.Prelude.{slice_get}
use Rattle.std.proofs.Math.ListN.{set, length-set}
use Rattle.std.proofs.lemmas.Bool.{cases_eq}
use Rattle.std.proofs.lemmas.Nat.{mod_below}
use Rattle.round_robin.specs.Dealing.{IsDealtInTurn, HasLengths, hand_of}
use Rattle.round_robin.proofs.Places.{hand_there, same_hand, same_place, split_place, turn_of, lower_place, lower_row}
use Rattle.round_robin.proofs.Places.{snoc_here, snoc_there, same_by_get, within_both, nothing_at}

module _ {A : Type 0} where
  -- the hands of a dealt list have the lengths of its items
  pub lengths_of : (all : List A) (first n : ℕ) (lists : List (List A)) → IsDealtInTurn all first n lists →
      HasLengths (length all) first n lists
  lengths_of all first n lists d = record {
    some = d.some;
    count = d.count;
    at = λ h k hn. (
      λ lt. within_both (get_or lists (hand_of first n h) []) all k (n * k + h) (d.at h k hn) lt,
      λ lt. within_both all (get_or lists (hand_of first n h) []) (n * k + h) k (sym (d.at h k hn)) lt,
    );
  }

  -- the length of the hand that gets the next item
  pub next_length : (items first n : ℕ) (lists : List (List A)) (q r : ℕ) → HasLengths items first n lists →
      items ≡ n * q + r → r < n → length (get_or lists (hand_of first n r) []) ≡ q
  next_length items first n lists q r d e rn =
      let l = length (get_or lists (hand_of first n r) []) in let low = lower_place n l q r d.some in
      let within = (d.at r l rn).1 in let there = (d.at r q rn).0 in grind arith

  -- one more item is dealt
  pub one_more : (front : List A) (first n : ℕ) (lists : List (List A)) (q r : ℕ) (x : A) → IsDealtInTurn front
      first n lists →
      length front ≡ n * q + r → r < n →
      IsDealtInTurn (front ++ x ∷ []) first n (set lists (hand_of first n r) (get_or lists (hand_of first n r)
      [] ++ x ∷ []))
  one_more front first n lists q r x d e rn =
      let l = get_or lists (hand_of first n r) [] in
      let long : length l ≡ q = next_length (length front) first n lists q r (lengths_of front first n lists d) e rn in
      let below = mod_below (first + r) n d.some in
      let inside : hand_of first n r < length lists = omega (arith, d.count) in
      record {
        some = d.some;
        count = length-set lists (hand_of first n r) (l ++ x ∷ []) ∙ d.count;
        at = λ h k hn.
            let turn = cases_eq h r in let row = cases_eq k q in let hand = same_hand first n h r hn rn in
            let place = same_place n k h q r hn rn in let was = d.at h k hn in
            let put = get_or-set_same lists (hand_of first n r) (l ++ x ∷ []) [] inside in
            let other = get_or-set_other lists (hand_of first n r) (hand_of first n h) (l ++ x ∷ []) [] in
            let here = snoc_here l x k in let there = snoc_there l x k in let last = snoc_here front x (n * k + h) in
            let before = snoc_there front x (n * k + h) in grind arith;
      }

  -- the hand that got the last item has one more than it had
  pub last_length : (items first n : ℕ) (lists : List (List A)) (q r : ℕ) → HasLengths (items + 1) first n lists →
      items ≡ n * q + r → r < n → length (get_or lists (hand_of first n r) []) ≡ q + 1
  last_length items first n lists q r d e rn =
      let has : q < length (get_or lists (hand_of first n r) []) = (d.at r q rn).1 (omega arith) in
      let there = (d.at r (q + 1) rn).0 in let some = d.some in grind arith

  -- the last item is taken back
  pub one_less : (items first n : ℕ) (lists : List (List A)) (q r : ℕ) (l : List A) (x : A) →
      HasLengths (items + 1) first n lists → items ≡ n * q + r → r < n →
      get_or lists (hand_of first n r) [] ≡ l ++ x ∷ [] → HasLengths items first n (set lists (hand_of first n r) l)
  one_less items first n lists q r l x d e rn ends =
      let below = mod_below (first + r) n d.some in
      let inside : hand_of first n r < length lists = omega (arith, d.count) in
      let long : length l ≡ q =
      (let a = last_length items first n lists q r d e rn in
      let b : length (get_or lists (hand_of first n r) []) ≡ length l + 1 = ap length ends ∙ length-append l (x ∷ [])
      in
      omega arith) in
      let some : 0 < n = d.some in
      record {
        some = d.some;
        count = length-set lists (hand_of first n r) l ∙ d.count;
        at = λ h k hn.
            let turn = cases_eq h r in let hand = same_hand first n h r hn rn in
            let place = same_place n k h q r hn rn in let was = d.at h k hn in
            let put = get_or-set_same lists (hand_of first n r) l [] inside in
            let other = get_or-set_other lists (hand_of first n r) (hand_of first n h) l [] in
            let up = lower_place n k q r some in let down = lower_row n k q r in
            (λ lt. grind arith, λ lt. grind arith);
      }

  -- hands of no items are those of the empty list
  pub none_dealt : (first n : ℕ) (lists : List (List A)) → HasLengths 0 first n lists → IsDealtInTurn [] first n lists
  none_dealt first n lists d = record {
    some = d.some;
    count = d.count;
    at = λ h k hn. nothing_at (get_or lists (hand_of first n h) []) k
        (λ lt. (let z = (d.at h k hn).0 lt in omega arith));
  }

  -- the hand and the place at which an item is
  pub item_at : (all : List A) (first n : ℕ) (lists : List (List A)) → IsDealtInTurn all first n lists → (i : ℕ) →
      slice_get all i ≡ slice_get (get_or lists (hand_of first n (i % n)) []) (i / n)
  item_at all first n lists d i =
      ap (slice_get all) (split_place n i) ∙ sym (d.at (i % n) (i / n) (mod_below i n d.some))

  -- each item of a hand is one of the list
  pub item_of : (all : List A) (first n : ℕ) (lists : List (List A)) → IsDealtInTurn all first n lists →
      (i k : ℕ) (x : A) →
      slice_get (get_or lists i []) k ≡ Some x → (j : ℕ) × (slice_get all j ≡ Some x)
  item_of all first n lists d i k x e =
      let there = hand_there lists i k x e in
      let count = d.count in
      let h = turn_of first n i (omega arith) in
      (n * k + h.0, sym (d.at h.0 k h.1) ∙ ap (λ z. slice_get (get_or lists z []) k) h.2 ∙ e)

  -- the list that was dealt is known by its hands
  pub same_list : (all others : List A) (first n : ℕ) (lists : List (List A)) → IsDealtInTurn all first n lists →
      IsDealtInTurn others first n lists → all ≡ others
  same_list all others first n lists d e =
      same_by_get all others (λ i. item_at all first n lists d i ∙ sym (item_at others first n lists e i))

module _ {A B : Type 0} where
  -- hands of which each is as long as before have the lengths of as many items
  pub same_lengths : (items first n : ℕ) (before : List (List A)) (after : List (List B)) → HasLengths items first n
      before →
      length after ≡ n → ((h : ℕ) → h < n → length (get_or after (hand_of first n h) []) ≡ length
      (get_or before (hand_of first n h) [])) →
      HasLengths items first n after
  same_lengths items first n before after d long e = record {
    some = d.some;
    count = long;
    at = λ h k hn. (let z = e h hn in (
      λ lt. (d.at h k hn).0 (omega arith),
      λ lt. (let below = (d.at h k hn).1 lt in omega arith),
    ));
  }
