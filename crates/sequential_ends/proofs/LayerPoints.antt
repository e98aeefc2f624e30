-- What is in the layers of a test: the points that turns reach, and no others.
use Rattle.std.proofs.Common.{◌≡◌, ℕ, zero, suc, ◌+◌, ◌*◌, ◌<◌, ◌≤◌, Bool, true, false, ◌||◌, if◌then◌else◌, List, []}
use Rattle.std.proofs.Common.{◌∷◌, ◌++◌}
use Rattle.std.proofs.Common.{length, fold, take, Option, Some, None, refl, sym, ap, ◌∙◌, subst, arith, length-append}
use Rattle.std.proofs.Common.{◌⊎◌, inl, inr, is_some}
use Rattle.std.specs.Prelude.{option_map}
use Rattle.std.specs.Cmp.{IsEquivalence}
use Rattle.std.proofs.lemmas.Cmp.{on_equiv, nat_list_eq_equiv}
use Rattle.std.specs.List.{list_any, Contains, IsDistinct, AllByRecursion as Each}
use Rattle.std.proofs.lemmas.List.Elements.{All-from_recursion, All-contains, Contains-append_right}
use Rattle.std.proofs.lemmas.Map.Keys.{IsDistinct-push}
use Rattle.std.specs.Str.{bytes_eq}
use Rattle.std.proofs.lemmas.Bool.{cond_both, cases_eq, cases_lt, cases_Bool}
use Rattle.std.proofs.lemmas.List.Folds.{list_any-append}
use Rattle.std.proofs.lemmas.Slice.Eq.{bytes_eq-Decides}
use Rattle.std.proofs.Math.Nat.{suc-mul, mul-suc}
use Rattle.physiological_order.specs.declared.operation.Op.{Op}
use Rattle.litmus_reader.specs.Litmus.{Litmus}
use Rattle.sequential_machine.specs.Turns.{Point, operation_at, turned, point_opened, Reached, opened, turn}
use Rattle.sequential_machine.specs.Turns.{values_at, IsEnd}
use Rattle.litmus_reader.proofs.Lemmas.{each_behind}
use Rattle.sequential_machine.proofs.Lemmas.{lists_count}
use Rattle.sequential_ends.specs.Packed.{packed}
use Rattle.sequential_ends.specs.Rows.{with_row}
use Rattle.sequential_ends.specs.Layers.{same_row}
use Rattle.sequential_ends.specs.Layers.{with_some, with_turns, has_turn, behind, with_end, layer, ends_before}
use Rattle.sequential_ends.proofs.Packing.{or_true, same_point}

-- ---- lists that something is added to, if a test of their members by it finds none

module _ {X : Type 0} (same : X → X → Bool) (itself : (x : X) → same x x ≡ true) where
  abbrev pub In : X → List X → Type 0
  In x xs = list_any (same x) xs ≡ true

  abbrev Added : List X → X → List X
  Added xs x = if list_any (same x) xs then xs else xs ++ x ∷ []

  in_longer : (x : X) (xs ys : List X) → In x xs → In x (xs ++ ys)
  in_longer x xs ys h = list_any-append (same x) xs ys ∙ rw h refl

  in_last : (x : X) (xs : List X) → In x (xs ++ x ∷ [])
  in_last x xs = list_any-append (same x) xs (x ∷ []) ∙ rw (itself x) (sym (or_true (list_any (same x) xs)))

  pub still_in : (x y : X) (xs : List X) → In x xs → In x (Added xs y)
  still_in x y xs h =
      cond_both (list_any (same y) xs) xs (xs ++ y ∷ []) (In x) (λ _. h) (λ _. in_longer x xs (y ∷ []) h)

  pub added_in : (x : X) (xs : List X) → In x (Added xs x)
  added_in x xs = cond_both (list_any (same x) xs) xs (xs ++ x ∷ []) (In x) (λ e. e) (λ _. in_last x xs)

  pub each_added : (P : X → Type 0) (xs : List X) (x : X) → Each P xs → P x → Each P (Added xs x)
  each_added P xs x h p =
      cond_both (list_any (same x) xs) xs (xs ++ x ∷ []) (Each P) (λ _. h) (λ _. each_behind P xs x h p)

  pub no_shorter : (xs : List X) (x : X) → length xs ≤ length (Added xs x)
  no_shorter xs x =
      cond_both (list_any (same x) xs) xs (xs ++ x ∷ []) (λ (ys : List X). length xs ≤ length ys) (λ _. omega arith)
      (λ _. let e = length-append xs (x ∷ []) in omega (arith, e))

  one_more : (xs : List X) (x : X) → length (Added xs x) ≤ length xs + 1
  one_more xs x =
      cond_both (list_any (same x) xs) xs (xs ++ x ∷ []) (λ (ys : List X). length ys ≤ length xs + 1)
      (λ _. omega arith) (λ _. let e = length-append xs (x ∷ []) in omega (arith, e))

-- ---- points

itself : (p : Point) → same_row p p ≡ true
itself p = (bytes_eq-Decides (packed p) (packed p)).1 refl

abbrev pub Among : Point → List Point → Type 0
Among p points = list_any (same_row p) points ≡ true

rows_alike : IsEquivalence same_row
rows_alike = on_equiv packed nat_list_eq_equiv

module _ (test : Litmus) (p : Point) where
  some_keep : (q : Point) (points : List Point) (o : Option Point) → Among q points → Among q (with_some points o)
  some_keep q points None h = h
  some_keep q points (Some x) h = still_in same_row itself q x points h

  turns_keep : (q : Point) (n : ℕ) (points : List Point) → Among q points → Among q (with_turns test p n points)
  turns_keep q zero points h = h
  turns_keep q (suc n) points h = some_keep q (with_turns test p n points) _ (turns_keep q n points h)

  turns_have : (n t : ℕ) (x : Op) (points : List Point) → t < n → operation_at test p t ≡ Some x →
      Among (turned p t x) (with_turns test p n points)
  turns_have zero t x points lt e = absurd (omega (arith, lt))
  turns_have (suc n) t x points lt e =
      let before = with_turns test p n points in
      elim (cases_eq t n) [
        | inl same ↦ rw (← same) (subst (λ (o : Option Op). Among (turned p t x) (with_some (with_turns test p t points)
            (option_map (turned p t) o))) (sym e) (added_in same_row itself (turned p t x) _))
        | inr ne ↦ some_keep (turned p t x) before _ (turns_have n t x points (omega (arith, lt, ne)) e)
      ]

  some_each : (P : Point → Type 0) (points : List Point) (t : ℕ) (o : Option Op) → Each P points →
      ((x : Op) → o ≡ Some x → P (turned p t x)) → Each P (with_some points (option_map (turned p t) o))
  some_each P points t None h f = h
  some_each P points t (Some x) h f = each_added same_row itself P points (turned p t x) h (f x refl)

  turns_each : (P : Point → Type 0) (n : ℕ) (points : List Point) → Each P points →
      ((t : ℕ) (x : Op) → t < n → operation_at test p t ≡ Some x → P (turned p t x)) →
      Each P (with_turns test p n points)
  turns_each P zero points h f = h
  turns_each P (suc n) points h f =
      some_each P (with_turns test p n points) n (operation_at test p n)
      (turns_each P n points h (λ t x lt e. f t x (omega (arith, lt)) e)) (λ x e. f n x (omega arith) e)

  some_grow : (points : List Point) (o : Option Point) → length points ≤ length (with_some points o)
  some_grow points None = omega arith
  some_grow points (Some x) = no_shorter same_row itself points x

  some_few : (points : List Point) (o : Option Point) → length (with_some points o) ≤ length points + 1
  some_few points None = omega arith
  some_few points (Some x) = one_more same_row itself points x

  turns_few : (n : ℕ) (points : List Point) → length (with_turns test p n points) ≤ length points + n
  turns_few zero points = omega arith
  turns_few (suc n) points =
      let before = turns_few n points in
      let more = some_few (with_turns test p n points) (option_map (turned p n) (operation_at test p n)) in
      omega (arith, before, more)

  pub turns_grow : (m n : ℕ) (points : List Point) → m ≤ n → length (with_turns test p m points) ≤
      length (with_turns test p n points)
  turns_grow m zero points le = let none : m ≡ 0 = omega (arith, le) in rw none (omega arith)
  turns_grow m (suc n) points le = elim (cases_eq m (suc n)) [
    | inl e ↦ rw e (omega arith)
    | inr ne ↦
        let before = turns_grow m n points (omega (arith, le, ne)) in
        let more = some_grow (with_turns test p n points) (option_map (turned p n) (operation_at test p n)) in
        omega (arith, before, more)
  ]

  pub turn_over : (n : ℕ) → has_turn test p n ≡ false → (t : ℕ) → t < n → operation_at test p t ≡ None
  turn_over zero e t lt = absurd (omega (arith, lt))
  turn_over (suc n) e t lt =
      by (has_turn test p n) (operation_at test p n) refl refl e (λ h below. turn_over n h t below)
    where
      by : (b : Bool) (o : Option Op) → has_turn test p n ≡ b → operation_at test p n ≡ o → (b || is_some o) ≡ false →
          (has_turn test p n ≡ false → t < n → operation_at test p t ≡ None) → operation_at test p t ≡ None
      by true o h g f before = absurd cc
      by false (Some x) h g f before = absurd cc
      by false None h g f before = elim (cases_eq t n) [
        | inl same ↦ ap (operation_at test p) same ∙ g
        | inr ne ↦ before h (omega (arith, lt, ne))
      ]

  turns_over : (n : ℕ) → ((t : ℕ) → t < n → operation_at test p t ≡ None) → has_turn test p n ≡ false
  turns_over zero none = refl
  turns_over (suc n) none =
      let before = turns_over n (λ t lt. none t (omega (arith, lt))) in
      let last = none n (omega arith) in
      rw (before, last) refl

-- ---- from layer to layer

module _ (test : Litmus) where
  abbrev pub HasLists : Point → Type 0
  HasLists p = length p.received ≡ test.threads

  abbrev Next : List Point → Point → List Point
  Next next p = with_turns test p test.threads next

  next_keep : (q : Point) (points next : List Point) → Among q next → Among q (fold Next next points)
  next_keep q [] next h = h
  next_keep q (p ∷ points) next h =
      next_keep q points (Next next p) (turns_keep test p q test.threads next h)

  -- a point that is among points is one of them
  is_first : (q p : Point) → HasLists q → HasLists p → same_row q p ≡ true → p ≡ q
  is_first q p a b e = same_point p q (b ∙ sym a) (sym ((bytes_eq-Decides (packed q) (packed p)).0 e))

  first_or : (q p : Point) (points : List Point) → HasLists q → HasLists p → Among q (p ∷ points) →
      (p ≡ q) ⊎ Among q points
  first_or q p points a b h = elim (cases_Bool (same_row q p)) [
    | inl same ↦ inl (is_first q p a b same)
    | inr other ↦ inr (rw other at h)
  ]

  next_have : (q : Point) (t : ℕ) (x : Op) → HasLists q → t < test.threads → operation_at test q t ≡ Some x →
      (points next : List Point) → Each HasLists points → Among q points → Among (turned q t x) (fold Next next points)
  next_have q t x has lt e [] next each h = absurd cc
  next_have q t x has lt e (p ∷ points) next each h = elim (first_or q p points has each.0 h) [
    | inl same ↦
        next_keep (turned q t x) points (Next next p)
        (rw same (turns_have test q test.threads t x next lt e))
    | inr there ↦ next_have q t x has lt e points (Next next p) each.1 there
  ]

  next_each : (P : Point → Type 0) (Q : Point → Type 0) →
      ((p : Point) (t : ℕ) (x : Op) → Q p → t < test.threads → operation_at test p t ≡ Some x → P (turned p t x)) →
      (points next : List Point) → Each Q points → Each P next → Each P (fold Next next points)
  next_each P Q f [] next each h = h
  next_each P Q f (p ∷ points) next each h =
      next_each P Q f points (Next next p) each.1
      (turns_each test p P test.threads next h (λ t x lt e. f p t x each.0 lt e))

  next_grow : (points next : List Point) → length next ≤ length (fold Next next points)
  next_grow [] next = omega arith
  next_grow (p ∷ points) next =
      let one = turns_grow test p 0 test.threads next (omega arith) in
      let more = next_grow points (Next next p) in omega (arith, one, more)

  next_few : (points next : List Point) →
      length (fold Next next points) ≤ length next + length points * test.threads
  next_few [] next = omega arith
  next_few (p ∷ points) next =
      let one = turns_few test p test.threads next in
      let more = next_few points (Next next p) in
      let product = suc-mul (length points) test.threads in omega (arith, one, more, product)

  -- a layer and the next have so many points at most
  pub behind_few : (points : List Point) →
      length points + length (behind test points) ≤ length points * (1 + test.threads)
  behind_few points =
      let few = next_few points [] in
      let product = mul-suc (length points) test.threads in omega (arith, few, product)

  pub behind_grows : (points : List Point) (i : ℕ) → length (behind test (take i points)) ≤ length (behind test points)
  behind_grows points i = from [] points i
    where
      from : (next points : List Point) (i : ℕ) →
          length (fold Next next (take i points)) ≤ length (fold Next next points)
      from next points zero = next_grow points next
      from next [] (suc i) = omega arith
      from next (p ∷ points) (suc i) = from (Next next p) points i

  -- each is reached
  pub sound : (k : ℕ) → Each (Reached test k) (layer test k)
  sound zero = (opened, tt)
  sound (suc k) =
      next_each (Reached test (suc k)) (Reached test k) (λ p t x r lt e. turn t x r lt e) (layer test k) [] (sound k) tt

  each_lists : (k : ℕ) (points : List Point) → Each (Reached test k) points → Each HasLists points
  each_lists k [] h = tt
  each_lists k (p ∷ points) h = (lists_count test k p h.0, each_lists k points h.1)

  pub lists_in : (k : ℕ) → Each HasLists (layer test k)
  lists_in k = each_lists k (layer test k) (sound k)

  -- and what is reached is there
  pub complete : (k : ℕ) (p : Point) → Reached test k p → Among p (layer test k)
  complete _ _ opened = ap (λ (b : Bool). b || false) (itself (point_opened test))
  complete _ _ (turn {k = k} {p = p} t x r lt e) =
      next_have p t x (lists_count test k p r) lt e (layer test k) [] (lists_in k) (complete k p r)

  find_in : (p : Point) → HasLists p → (points : List Point) → Each HasLists points → Among p points → Contains points p
  find_in p has [] each h = absurd cc
  find_in p has (q ∷ points) each h = elim (first_or p q points has each.0 h) [
    | inl same ↦ (0, omega arith, same)
    | inr there ↦ Contains-append_right (q ∷ []) points p (find_in p has points each.1 there)
  ]

  pub contains : (k : ℕ) (p : Point) → Reached test k p → Contains (layer test k) p
  contains k p r = find_in p (lists_count test k p r) (layer test k) (lists_in k) (complete k p r)

  pub reached : (k : ℕ) (p : Point) → Contains (layer test k) p → Reached test k p
  reached k p there =
      All-contains (Reached test k) (layer test k) p (All-from_recursion (Reached test k) (layer test k) (sound k))
      there

  once_some : (points : List Point) (o : Option Point) → IsDistinct same_row points →
      IsDistinct same_row (with_some points o)
  once_some points None h = h
  once_some points (Some p) h =
      cond_both (list_any (same_row p) points) points (points ++ p ∷ []) (IsDistinct same_row) (λ _. h)
      (λ e. IsDistinct-push rows_alike points p h e)

  once_turns : (p : Point) (n : ℕ) (points : List Point) → IsDistinct same_row points →
      IsDistinct same_row (with_turns test p n points)
  once_turns p zero points h = h
  once_turns p (suc n) points h = once_some (with_turns test p n points) _ (once_turns p n points h)

  once_next : (points next : List Point) → IsDistinct same_row next → IsDistinct same_row (fold Next next points)
  once_next [] next h = h
  once_next (p ∷ points) next h = once_next points (Next next p) (once_turns p test.threads next h)

  pub each_once : (k : ℕ) → IsDistinct same_row (layer test k)
  unfolding IsDistinct
  each_once zero = (tt, tt)
  each_once (suc k) = once_next (layer test k) [] tt

  -- ---- ends

  abbrev WithEnd : List (List ℕ) → Point → List (List ℕ)
  WithEnd = with_end test

  row_itself : (row : List ℕ) → bytes_eq row row ≡ true
  row_itself row = (bytes_eq-Decides row row).1 refl

  end_keep : (v : List ℕ) (ends : List (List ℕ)) (p : Point) → In bytes_eq row_itself v ends →
      In bytes_eq row_itself v (WithEnd ends p)
  end_keep v ends p h =
      cond_both (has_turn test p test.threads) ends (with_row ends (values_at test p)) (In bytes_eq row_itself v)
      (λ _. h) (λ _. still_in bytes_eq row_itself v (values_at test p) ends h)

  ends_keep : (v : List ℕ) (points : List Point) (ends : List (List ℕ)) → In bytes_eq row_itself v ends →
      In bytes_eq row_itself v (fold WithEnd ends points)
  ends_keep v [] ends h = h
  ends_keep v (p ∷ points) ends h = ends_keep v points (WithEnd ends p) (end_keep v ends p h)

  ends_have : (q : Point) → HasLists q → has_turn test q test.threads ≡ false → (points : List Point)
      (ends : List (List ℕ)) → Each HasLists points → Among q points →
      In bytes_eq row_itself (values_at test q) (fold WithEnd ends points)
  ends_have q has over [] ends each h = absurd cc
  ends_have q has over (p ∷ points) ends each h = elim (first_or q p points has each.0 h) [
    | inl same ↦
        ends_keep (values_at test q) points (WithEnd ends p)
        (rw (same, over) (added_in bytes_eq row_itself (values_at test q) ends))
    | inr there ↦ ends_have q has over points (WithEnd ends p) each.1 there
  ]

  ends_each : (P : List ℕ → Type 0) (k : ℕ) →
      ((p : Point) → Reached test k p → has_turn test p test.threads ≡ false → P (values_at test p)) →
      (points : List Point) (ends : List (List ℕ)) → Each (Reached test k) points → Each P ends →
      Each P (fold WithEnd ends points)
  ends_each P k f [] ends each h = h
  ends_each P k f (p ∷ points) ends each h =
      ends_each P k f points (WithEnd ends p) each.1
      (cond_both (has_turn test p test.threads) ends (with_row ends (values_at test p)) (Each P) (λ _. h)
      (λ over. each_added bytes_eq row_itself P ends (values_at test p) h (f p each.0 over)))

  pub ends_sound : (k : ℕ) → Each (IsEnd test) (ends_before test k)
  ends_sound zero = tt
  ends_sound (suc k) =
      ends_each (IsEnd test) k (λ p r over. record {
        turns = k;
        point = p;
        reached = r;
        finished = turn_over test p test.threads over;
        values_are = refl;
      }) (layer test k) (ends_before test k) (sound k) (ends_sound k)

  -- an end is there behind its layer
  ends_there : (k : ℕ) (e : (values : List ℕ) × IsEnd test values) → e.1.turns < k →
      In bytes_eq row_itself e.0 (ends_before test k)
  ends_there zero e lt = absurd (omega (arith, lt))
  ends_there (suc k) e lt =
      elim (cases_eq e.1.turns k) [
        | inl same ↦
            rw e.1.values_are (ends_have e.1.point (lists_count test e.1.turns e.1.point e.1.reached)
            (turns_over test e.1.point test.threads e.1.finished) (layer test k) (ends_before test k) (lists_in k)
            (subst (λ (j : ℕ). Among e.1.point (layer test j)) same (complete e.1.turns e.1.point e.1.reached)))
        | inr ne ↦
            ends_keep e.0 (layer test k) (ends_before test k) (ends_there k e (omega (arith, lt, ne)))
      ]

  -- behind an empty layer all are empty
  pub empty_from : (k j : ℕ) → layer test k ≡ [] → k ≤ j → layer test j ≡ []
  empty_from k zero none le = let e : k ≡ 0 = omega (arith, le) in rw e at none
  empty_from k (suc j) none le = elim (cases_eq k (suc j)) [
    | inl e ↦ rw e at none
    | inr ne ↦ ap (behind test) (empty_from k j none (omega (arith, le, ne)))
  ]

  pub every_end : (k : ℕ) (values : List ℕ) → layer test k ≡ [] → IsEnd test values →
      list_any (bytes_eq values) (ends_before test k) ≡ true
  every_end k values none e = ends_there k (values, e) (before (cases_lt e.turns k))
    where
      before : (e.turns < k) ⊎ (k ≤ e.turns) → e.turns < k
      before (inl lt) = lt
      before (inr le) = absurd (nothing (empty_from k e.turns none le) (complete e.turns e.point e.reached))
        where
          nothing : layer test e.turns ≡ [] → Among e.point (layer test e.turns) → ⊥
          nothing empty h = let h2 : Among e.point [] = subst (Among e.point) empty h in absurd cc
