-- Laws of a table of sets: look-ups and lengths after each change.
use Rattle.std.proofs.Common.{◌≡◌, ◌≢◌, ℕ, zero, suc, ◌<◌, Bool, true, List, [], ◌∷◌, ◌++◌, length, set, take}
use Rattle.std.proofs.Common.{Some, None, arith, refl, ap}
use Rattle.std.proofs.Common.{get_or-set_same, get_or-set_other, length-set}
use Rattle.std.proofs.lemmas.Bool.{cases_eq}
use Rattle.std.proofs.lemmas.List.{length-append, take_all}
use Rattle.line_sets.specs.Order.{find, is_there, lines_passing, put_last, put_in_place, without}
use Rattle.line_sets.specs.SetTable.{all_listed, set_at, look, put, put_within, drop_line}
use Rattle.line_sets.proofs.OrderLaws.{find-put_last_same, find-put_last_other, find-put_in_place_same}
use Rattle.line_sets.proofs.OrderLaws.{find-put_in_place_other, find-without_same, find-without_other}

module _ {X : Type 0} (sets : List (List (ℕ × X))) (i : ℕ) where
  -- a set that is written, and the others
  pub set_at-set_same : (ps : List (ℕ × X)) → i < length sets → set_at (set sets i ps) i ≡ ps
  set_at-set_same ps h = get_or-set_same sets i ps [] h

  pub set_at-set_other : (k : ℕ) (ps : List (ℕ × X)) → k ≢ i → set_at (set sets i ps) k ≡ set_at sets k
  set_at-set_other k ps ne = get_or-set_other sets i k ps [] ne

  -- a change of one set that leaves a line's look-up leaves it in the table
  other : (k j : ℕ) (ps : List (ℕ × X)) → i < length sets → find ps j ≡ find (set_at sets i) j →
      look (set sets i ps) k j ≡ look sets k j
  other k j ps h same = let which = cases_eq k i in let here = set_at-set_same ps h in
      let there = set_at-set_other k ps in grind arith

  -- a line put last
  pub look-put_same : (l : ℕ) (x : X) → i < length sets → look (put sets i l x) i l ≡ Some x
  look-put_same l x h = rw (set_at-set_same (put_last (set_at sets i) l x) h) (find-put_last_same (set_at sets i) l x)

  pub look-put_other : (l k j : ℕ) (x : X) → i < length sets → j ≢ l → look (put sets i l x) k j ≡ look sets k j
  look-put_other l k j x h ne =
      other k j (put_last (set_at sets i) l x) h (find-put_last_other (set_at sets i) l j x ne)

  pub look-put_other_set : (l k j : ℕ) (x : X) → k ≢ i → look (put sets i l x) k j ≡ look sets k j
  look-put_other_set l k j x ne = rw (set_at-set_other k (put_last (set_at sets i) l x) ne) refl

  -- a line put in place
  pub look-put_within_same : (l : ℕ) (x : X) → i < length sets → is_there (set_at sets i) l ≡ true →
      look (put_within sets i l x) i l ≡ Some x
  look-put_within_same l x h there = rw (set_at-set_same (put_in_place (set_at sets i) l x) h)
      (find-put_in_place_same (set_at sets i) l x there)

  pub look-put_within_other : (l k j : ℕ) (x : X) → i < length sets → j ≢ l →
      look (put_within sets i l x) k j ≡ look sets k j
  look-put_within_other l k j x h ne =
      other k j (put_in_place (set_at sets i) l x) h (find-put_in_place_other (set_at sets i) l j x ne)

  pub look-put_within_other_set : (l k j : ℕ) (x : X) → k ≢ i → look (put_within sets i l x) k j ≡ look sets k j
  look-put_within_other_set l k j x ne = rw (set_at-set_other k (put_in_place (set_at sets i) l x) ne) refl

  -- a line taken out
  pub look-drop_line_same : (l : ℕ) → i < length sets → look (drop_line sets i l) i l ≡ None
  look-drop_line_same l h = rw (set_at-set_same (without (set_at sets i) l) h) (find-without_same (set_at sets i) l)

  pub look-drop_line_other : (l k j : ℕ) → i < length sets → j ≢ l → look (drop_line sets i l) k j ≡ look sets k j
  look-drop_line_other l k j h ne =
      other k j (without (set_at sets i) l) h (find-without_other (set_at sets i) l j ne)

  pub look-drop_line_other_set : (l k j : ℕ) → k ≢ i → look (drop_line sets i l) k j ≡ look sets k j
  look-drop_line_other_set l k j ne = rw (set_at-set_other k (without (set_at sets i) l) ne) refl

  -- the number of sets stays
  pub length-put : (l : ℕ) (x : X) → length (put sets i l x) ≡ length sets
  length-put l x = length-set sets i (put_last (set_at sets i) l x)

  pub length-put_within : (l : ℕ) (x : X) → length (put_within sets i l x) ≡ length sets
  length-put_within l x = length-set sets i (put_in_place (set_at sets i) l x)

  pub length-drop_line : (l : ℕ) → length (drop_line sets i l) ≡ length sets
  length-drop_line l = length-set sets i (without (set_at sets i) l)

none-there : (xs : List ℕ) → 0 ≡ length xs → [] ≡ xs
none-there [] few = refl
none-there (x ∷ xs) few = absurd (omega (arith, few))

-- where the first sets have as many listed lines as all sets, they have all of them
pub all-taken : {X : Type 0} (passes : X → Bool) (sets : List (List (ℕ × X))) (k : ℕ) →
    length (all_listed passes (take k sets)) ≡ length (all_listed passes sets) →
    all_listed passes (take k sets) ≡ all_listed passes sets
all-taken passes [] k few = ap (all_listed passes) (take_all k [] (omega arith))
all-taken passes (ps ∷ sets) zero few = none-there (all_listed passes (ps ∷ sets)) few
all-taken passes (ps ∷ sets) (suc k) few =
    let some = length-append (lines_passing passes ps) (all_listed passes (take k sets)) in
    let every = length-append (lines_passing passes ps) (all_listed passes sets) in
    ap (λ us. lines_passing passes ps ++ us) (all-taken passes sets k (omega (arith, few, some, every)))
