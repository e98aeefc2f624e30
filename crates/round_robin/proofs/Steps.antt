-- One item that goes to a hand or comes from one. A hand is whatever has a list f, as a Vec has its items.
use Rattle.std.specs.Prelude.{slice_get}
use Rattle.std.proofs.Common.{None, ◌≡◌, ℕ, zero, suc, ◌+◌, ◌*◌, ◌/◌, ◌%◌, ◌<◌, ◌≤◌, List, [], ◌∷◌, ◌++◌, length, All}
use Rattle.std.proofs.Common.{get_or, map, sym, refl, ap, ◌∙◌, subst, arith, get_or-set_same, length-append}
use Rattle.std.proofs.Math.ListN.{set}
use Rattle.std.proofs.Math.Nat.{div-mul-le_self}
use Rattle.std.proofs.lemmas.List.{get_or-map, map-set, set-set, set-get_or, length-map}
use Rattle.std.proofs.lemmas.Nat.{le-div, mod_below}
use Rattle.round_robin.specs.Dealing.{IsDealtInTurn, HasLengths, hand_of, total_length}
use Rattle.round_robin.proofs.Places.{split_place}
use Rattle.round_robin.proofs.Deals.{lengths_of, next_length, last_length, one_more, one_less}

module _ {A V : Type 0} (f : V → List A) where
  -- the hand of an item is one of the hands
  pub hand_is_there : (m first n : ℕ) (vs : List V) → 0 < n → length (map f vs) ≡ n →
      hand_of first n (m % n) < length vs
  hand_is_there m first n vs some count =
      let r = mod_below (first + m % n) n some in
      let long = length-map vs f in
      omega arith

  -- the list of a hand that was read
  pub hand_read : (vs : List V) (h : ℕ) (v : V) → h < length vs → v ≡ get_or vs h v → get_or (map f vs) h [] ≡ f v
  hand_read vs h v lt e = get_or-map f vs h v [] lt ∙ ap f (sym e)

  -- hands that are all empty have no item
  hands_empty : (vs : List V) (P : V → Type 0) → All (λ v. (f v ≡ []) × P v) vs → (h k : ℕ) →
      slice_get (get_or (map f vs) h []) k ≡ None
  hands_empty [] P a h k = refl
  hands_empty (v ∷ vs) P a zero k = ap (λ z. slice_get z k) (a 0 v (omega arith)).0
  hands_empty (v ∷ vs) P a (suc h) k = hands_empty vs P (λ i d lt. a (suc i) d (omega arith)) h k

  -- empty hands are those of the empty list
  pub empty_dealt : (first n : ℕ) (vs : List V) (P : V → Type 0) → 0 < n → length vs ≡ n →
      All (λ v. (f v ≡ []) × P v) vs → IsDealtInTurn [] first n (map f vs)
  empty_dealt first n vs P some long a = record {
    some = some;
    count = length-map vs f ∙ long;
    at = λ h k hn. hands_empty vs P a (hand_of first n h) k;
  }

  -- the lists after one hand has changed
  hand_put : (vs : List V) (h : ℕ) (v w : V) (x : A) → h < length vs → v ≡ get_or vs h v → f w ≡ f v ++ x ∷ [] →
      map f (set vs h w) ≡ set (map f vs) h (get_or (map f vs) h [] ++ x ∷ [])
  hand_put vs h v w x lt e more =
      map-set f vs h w ∙ ap (set (map f vs) h) (more ∙ ap (λ z. z ++ x ∷ []) (sym (hand_read vs h v lt e)))

  -- empty hands have no items together
  pub none_held : (vs : List V) (P : V → Type 0) → All (λ v. (f v ≡ []) × P v) vs → total_length (map f vs) ≡ 0
  none_held [] P a = refl
  none_held (v ∷ vs) P a =
      let here = ap length (a 0 v (omega arith)).0 in
      let rest = none_held vs P (λ i d lt. a (suc i) d (omega arith)) in
      omega arith

  -- one item more
  pub one_more_held : (vs : List V) (h : ℕ) (v w : V) (x : A) → h < length vs → v ≡ get_or vs h v →
      f w ≡ f v ++ x ∷ [] → total_length (map f (set vs h w)) ≡ total_length (map f vs) + 1
  one_more_held [] h v w x lt e more = absurd (omega (arith, lt))
  one_more_held (u ∷ vs) zero v w x lt e more =
      let here = ap length more ∙ length-append (f v) (x ∷ []) in
      let same = ap (λ z. length (f z)) e in
      omega arith
  one_more_held (u ∷ vs) (suc h) v w x lt e more =
      let rest = one_more_held vs h v w x (omega (arith, lt)) e more in
      omega arith

  -- the next item goes to its hand
  pub goes_to_hand : (front : List A) (first n : ℕ) (vs : List V) (m : ℕ) (v w : V) (x : A) → IsDealtInTurn front first
      n (map f vs) →
      length front ≡ m → v ≡ get_or vs (hand_of first n (m % n)) v → f w ≡ f v ++ x ∷ [] →
      IsDealtInTurn (front ++ x ∷ []) first n (map f (set vs (hand_of first n (m % n)) w))
  goes_to_hand front first n vs m v w x d long e more =
      let r = mod_below m n d.some in
      let inside = hand_is_there m first n vs d.some d.count in
      subst (IsDealtInTurn (front ++ x ∷ []) first n) (sym (hand_put vs (hand_of first n (m % n)) v w x inside e more))
      (one_more front first n (map f vs) (m / n) (m % n) x d (long ∙ split_place n m) r)

  -- the hand of the next item has so many items that it has room for one more
  pub hand_has_room : (front : List A) (first n : ℕ) (vs : List V) (m all : ℕ) (v : V) → IsDealtInTurn front first
      n (map f vs) →
      length front ≡ m → v ≡ get_or vs (hand_of first n (m % n)) v → m < all → length (f v) ≤ all / n
  hand_has_room front first n vs m all v d long e below =
      let r = mod_below m n d.some in
      let inside = hand_is_there m first n vs d.some d.count in
      let has : length (get_or (map f vs) (hand_of first n (m % n)) []) ≡ m / n =
      next_length (length front) first n (map f vs) (m / n) (m % n) (lengths_of front first n (map f vs) d)
      (long ∙ split_place n m) r in
      let same : length (get_or (map f vs) (hand_of first n (m % n)) []) ≡ length (f v) =
      ap length (hand_read vs (hand_of first n (m % n)) v inside e) in
      let some : 0 < n = d.some in
      let low : m / n * n ≤ m = div-mul-le_self m n in
      let up : m / n ≤ all / n = le-div (m / n) all n some (omega arith) in
      omega arith

  -- the hand of the last item has an item
  pub last_hand_has_one : (m first n : ℕ) (vs : List V) (v : V) → HasLengths (m + 1) first n (map f vs) →
      v ≡ get_or vs (hand_of first n (m % n)) v → 0 < length (f v)
  last_hand_has_one m first n vs v d e =
      let r = mod_below m n d.some in
      let inside = hand_is_there m first n vs d.some d.count in
      let has : length (get_or (map f vs) (hand_of first n (m % n)) []) ≡ m / n + 1 =
      last_length m first n (map f vs) (m / n) (m % n) d (split_place n m) r in
      let same : length (get_or (map f vs) (hand_of first n (m % n)) []) ≡ length (f v) =
      ap length (hand_read vs (hand_of first n (m % n)) v inside e) in
      omega arith

  -- the last item comes from its hand: the lengths that are left
  pub comes_from_hand : (m first n : ℕ) (vs : List V) (v w : V) (x : A) → HasLengths (m + 1) first n (map f vs) →
      v ≡ get_or vs (hand_of first n (m % n)) v → f v ≡ f w ++ x ∷ [] →
      HasLengths m first n (map f (set vs (hand_of first n (m % n)) w))
  comes_from_hand m first n vs v w x d e less =
      let r = mod_below m n d.some in
      let inside = hand_is_there m first n vs d.some d.count in
      subst (HasLengths m first n) (sym (map-set f vs (hand_of first n (m % n)) w))
      (one_less m first n (map f vs) (m / n) (m % n) (f w) x d (split_place n m) r
      (hand_read vs (hand_of first n (m % n)) v inside e ∙ less))

  -- the last item comes from its hand: what is left, and this item, are what there was
  pub is_dealt_with_last : (m first n : ℕ) (vs : List V) (v w : V) (x : A) (front : List A) →
      IsDealtInTurn front first n (map f (set vs (hand_of first n (m % n)) w)) → hand_of first n (m % n) < length vs →
      length front ≡ m → v ≡ get_or vs (hand_of first n (m % n)) v →
      f v ≡ f w ++ x ∷ [] → IsDealtInTurn (front ++ x ∷ []) first n (map f vs)
  is_dealt_with_last m first n vs v w x front d inside long e less =
      let r = mod_below m n d.some in
      let h : ℕ = hand_of first n (m % n) in
      let lists : List (List A) = map f vs in
      let put : map f (set vs h w) ≡ set lists h (f w) = map-set f vs h w in
      let within : h < length lists = (let a = length-map vs f in omega arith) in
      let back : set (set lists h (f w)) h (get_or (set lists h (f w)) h [] ++ x ∷ []) ≡ lists =
      set-set lists h (f w) (get_or (set lists h (f w)) h [] ++ x ∷ [])
      ∙ ap (λ z. set lists h (z ++ x ∷ [])) (get_or-set_same lists h (f w) [] within)
      ∙ ap (set lists h) (sym less ∙ sym (hand_read vs h v inside e))
      ∙ set-get_or lists h [] in
      subst (IsDealtInTurn (front ++ x ∷ []) first n) back
      (one_more front first n (set lists h (f w)) (m / n) (m % n) x (subst (IsDealtInTurn front first n) put d)
      (long ∙ split_place n m) r)
