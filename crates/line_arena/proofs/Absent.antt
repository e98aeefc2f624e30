-- The free cells are those that occur nowhere.
use Rattle.std.proofs.Common.{◌≡◌, ℕ, ◌+◌, ◌<◌, zero, suc, Bool, true, false, cond, not, is_some, List, []}
use Rattle.std.proofs.Common.{◌∷◌, length, get_or, sum_by, nat_eq, if◌then◌else◌, Option, Some, refl, ap}
use Rattle.std.proofs.Common.{◌∙◌}
use Rattle.std.proofs.Common.{arith, ne_eqb}
use Rattle.std.proofs.lemmas.List.Sums.{sum_by-cons}
use Rattle.line_arena.specs.CellLists.{find_cell, or_else, look_up}
use Rattle.line_arena.specs.Arenas.{Lists, cell_in, IsOnce, AreCells, count_below, free_cells, absent_cells}
use Rattle.line_arena.proofs.Finds.{look_none, nowhere}

both : (p : ℕ → Bool) (n : ℕ) → count_below p n + count_below (λ x. not (p x)) n ≡ n
both p zero = refl
both p (suc n) = let rest = both p n in grind arith

never_below : (n : ℕ) → count_below (λ _. false) n ≡ 0
never_below zero = refl
never_below (suc n) = let rest = never_below n in omega (arith, rest)

same_below : (p q : ℕ → Bool) (n : ℕ) → ((x : ℕ) → x < n → p x ≡ q x) → count_below p n ≡ count_below q n
same_below p q zero h = refl
same_below p q (suc n) h = λ i. cond (h n (omega arith) i) 1 0 + same_below p q n (λ x lt. h x (omega arith)) i

-- a test that one more number passes
one_more : (a : ℕ) (q : ℕ → Bool) (n : ℕ) → a < n → q a ≡ false → count_below (λ x. if nat_eq a x then true else q x)
    n ≡ 1 + count_below q n
one_more a q zero lt no_a = absurd (omega (arith, lt))
one_more a q (suc n) lt no_a =
    let below : a ≡ n → count_below (λ x. if nat_eq a x then true else q x) n ≡ count_below q n =
    λ e. same_below (λ x. if nat_eq a x then true else q x) q n (λ x xl. ap (λ b. if b then true else q x)
    (ne_eqb a x (λ i. absurd (omega arith)))) in
    let rest = one_more a q n in let same : a ≡ n → q a ≡ q n = ap q in grind arith

module _ {X : Type 0} where
  -- all cells are below n
  abbrev Below : ℕ → List (List (ℕ × X)) → Type 0
  Below n ls = (l i x : ℕ) → cell_in (get_or ls l []) i ≡ Some x → x < n

  abbrev Counted : ℕ → List (List (ℕ × X)) → Type 0
  Counted n ls = count_below (λ x. is_some (look_up x ls)) n ≡ sum_by length ls

  abbrev Once : List (List (ℕ × X)) → Type 0
  Once ls = (l m i j x : ℕ) → cell_in (get_or ls l []) i ≡ Some x → cell_in (get_or ls m []) j ≡ Some x → (l ≡ m) ×
      (i ≡ j)

  once_tail : (a : ℕ × X) (r : List (ℕ × X)) (ls : List (List (ℕ × X))) → Once ((a ∷ r) ∷ ls) → Once (r ∷ ls)
  once_tail a r ls o zero zero i j x e f = let q = o 0 0 (suc i) (suc j) x e f in (refl, omega (arith, q.1))
  once_tail a r ls o zero (suc m) i j x e f = let q = o 0 (suc m) (suc i) j x e f in absurd (omega (arith, q.0))
  once_tail a r ls o (suc l) zero i j x e f = let q = o (suc l) 0 i (suc j) x e f in absurd (omega (arith, q.0))
  once_tail a r ls o (suc l) (suc m) i j x e f = o (suc l) (suc m) i j x e f

  below_tail : (n : ℕ) (a : ℕ × X) (r : List (ℕ × X)) (ls : List (List (ℕ × X))) →
      Below n ((a ∷ r) ∷ ls) → Below n (r ∷ ls)
  below_tail n a r ls b zero i x e = b 0 (suc i) x e
  below_tail n a r ls b (suc l) i x e = b (suc l) i x e

  alone : (a : ℕ × X) (r : List (ℕ × X)) (ls : List (List (ℕ × X))) → Once ((a ∷ r) ∷ ls) →
      is_some (look_up a.0 (r ∷ ls)) ≡ false
  alone a r ls o = ap is_some (look_none a.0 (r ∷ ls) (λ l lt. nowhere a.0 (get_or (r ∷ ls) l [])
      (elim l as (λ l. (i : ℕ) → cell_in (get_or (r ∷ ls) l []) i ≡ Some a.0 → ⊥) [
        | zero ↦ λ i e. let w = o 0 0 0 (suc i) a.0 refl e in absurd (omega (arith, w.1))
        | suc l ↦ λ i e. let w = o 0 (suc l) 0 i a.0 refl e in absurd (omega (arith, w.0))
      ])))

  first_or : (a : ℕ × X) (x : ℕ) (r : List (ℕ × X)) (o : Option X) → is_some (or_else (find_cell x (a ∷ r)) o) ≡
      (if nat_eq a.0 x then true else is_some (or_else (find_cell x r) o))
  first_or a x r o = grind arith

  count_list : (n : ℕ) (r : List (ℕ × X)) (ls : List (List (ℕ × X))) → Counted n ls → Once (r ∷ ls) →
      Below n (r ∷ ls) → Counted n (r ∷ ls)
  count_list n [] ls h o b = h ∙ (let one = sum_by-cons length [] ls in omega (arith, one))
  count_list n (a ∷ r) ls h o b =
      let rest = count_list n r ls h (once_tail a r ls o) (below_tail n a r ls b) in
      let q : ℕ → Bool = λ x. is_some (look_up x (r ∷ ls)) in
      let step : count_below (λ x. is_some (look_up x ((a ∷ r) ∷ ls))) n ≡ count_below
      (λ x. if nat_eq a.0 x then true else q x) n = same_below _ (λ x. if nat_eq a.0 x then true else q x) n
      (λ x lt. first_or a x r (look_up x ls)) in
      let more = one_more a.0 q n (b 0 0 a.0 refl) (alone a r ls o) in
      let one = sum_by-cons length (a ∷ r) ls in let two =
      sum_by-cons length r ls in omega (arith, rest, step, more, one, two)

  once_rest : (r : List (ℕ × X)) (ls : List (List (ℕ × X))) → Once (r ∷ ls) → Once ls
  once_rest r ls o l m i j x e f = let q = o (suc l) (suc m) i j x e f in (omega (arith, q.0), q.1)

  counted_all : (n : ℕ) (ls : List (List (ℕ × X))) → Once ls → Below n ls → Counted n ls
  counted_all n [] o b = never_below n
  counted_all n (r ∷ ls) o b =
      count_list n r ls (counted_all n ls (once_rest r ls o) (λ l i x e. b (suc l) i x e)) o b

  pub free_is_absent : (a : Lists X) → IsOnce a.lists → AreCells a → free_cells a ≡ absent_cells a
  unfolding absent_cells
  free_is_absent a o b =
      let all = both (λ x. is_some (look_up x a.lists)) a.cells in
      let n = counted_all a.cells a.lists o.once b.below in omega (arith, all, n)
