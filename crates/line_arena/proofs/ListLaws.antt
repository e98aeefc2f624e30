-- Laws of lists of pairs: what a look-up finds, and what a list is, after each change.
use Rattle.std.proofs.Common.{◌≡◌, ◌≢◌, ℕ, zero, suc, ◌+◌, ◌<◌, inl, inr, ◌⊎◌, true, true≢false, List, [], ◌∷◌, ◌++◌}
use Rattle.std.proofs.Common.{drop, map, length, get_or, Some, None, is_some, refl, sym}
use Rattle.std.proofs.Common.{ap, ◌∙◌}
use Rattle.std.proofs.Common.{arith, length-set, get_or-set_same, get_or-set_other}
use Rattle.std.proofs.lemmas.Bool.{cases_eq, cases_lt}
use Rattle.std.proofs.lemmas.List.{drop-drop, get_or_past, length-map}
use Rattle.line_arena.specs.CellLists.{find_cell, or_else, look_up, first_cell, next_in, next_cell, append_to}
use Rattle.line_arena.specs.CellLists.{without, rewritten}
use Rattle.line_arena.specs.Arenas.{cell_in, IsOnce}
use Rattle.line_arena.specs.ListLaws.{IsMet, LookUpLaws, AppendLaws, WithoutLaws, RewriteLaws}
use Rattle.line_arena.proofs.Finds.{first_some_at, nowhere}
use Rattle.line_arena.proofs.Seen.{some_of, same_some, look_in}

module _ {A : Type 0} where
  -- one list
  find_end : (x : ℕ) (v : A) (xs : List (ℕ × A)) → find_cell x xs ≡ None → find_cell x (xs ++ (x, v) ∷ []) ≡ Some v
  find_end x v [] h = grind arith
  find_end x v (a ∷ xs) h = let rest = find_end x v xs in grind arith

  find_end_other : (x y : ℕ) (v : A) (xs : List (ℕ × A)) → y ≢ x → find_cell y (xs ++ (x, v) ∷ []) ≡ find_cell y xs
  find_end_other x y v [] ne = grind arith
  find_end_other x y v (a ∷ xs) ne = let rest = find_end_other x y v xs ne in grind arith

  find_gone : (x : ℕ) (xs : List (ℕ × A)) → find_cell x (without x xs) ≡ None
  find_gone x [] = refl
  find_gone x (a ∷ xs) = let rest = find_gone x xs in grind arith

  find_kept : (x y : ℕ) (xs : List (ℕ × A)) → y ≢ x → find_cell y (without x xs) ≡ find_cell y xs
  find_kept x y [] ne = refl
  find_kept x y (a ∷ xs) ne = let rest = find_kept x y xs ne in grind arith

  without_none : (x : ℕ) (xs : List (ℕ × A)) → find_cell x xs ≡ None → without x xs ≡ xs
  without_none x [] h = refl
  without_none x (a ∷ xs) h = let rest = without_none x xs in grind arith

  find_written : (x : ℕ) (w : A) (xs : List (ℕ × A)) → is_some (find_cell x xs) ≡ true →
      find_cell x (rewritten x w xs) ≡ Some w
  find_written x w [] h = cc
  find_written x w (a ∷ xs) h = let rest = find_written x w xs in grind arith

  none_written : (x : ℕ) (w : A) (xs : List (ℕ × A)) → find_cell x xs ≡ None → find_cell x (rewritten x w xs) ≡ None
  none_written x w [] e = refl
  none_written x w (a ∷ xs) e = let rest = none_written x w xs in grind arith

  find_unwritten : (x y : ℕ) (w : A) (xs : List (ℕ × A)) → y ≢ x → find_cell y (rewritten x w xs) ≡ find_cell y xs
  find_unwritten x y w [] ne = refl
  find_unwritten x y w (a ∷ xs) ne = let rest = find_unwritten x y w xs ne in grind arith

  cells_written : (x : ℕ) (w : A) (xs : List (ℕ × A)) → map (λ a. a.0) (rewritten x w xs) ≡ map (λ a. a.0) xs
  cells_written x w [] = refl
  cells_written x w (a ∷ xs) = ap (λ ys. a.0 ∷ ys) (cells_written x w xs)

  -- a cell that is found has a place
  place_of : (x : ℕ) (xs : List (ℕ × A)) → is_some (find_cell x xs) ≡ true → (i : ℕ) × (cell_in xs i ≡ Some x)
  place_of x [] h = absurd (true≢false (sym h))
  place_of x (a ∷ xs) h = elim (cases_eq a.0 x) [
    | inl e ↦ (0, ap Some e)
    | inr ne ↦ let p = place_of x xs (grind arith) in (suc p.0, p.1)
  ]

  none_or_some : (x : ℕ) (xs : List (ℕ × A)) → (find_cell x xs ≡ None) ⊎ (is_some (find_cell x xs) ≡ true)
  none_or_some x xs =
      elim (find_cell x xs) as (λ o. (o ≡ None) ⊎ (is_some o ≡ true)) [ None ↦ inl refl | Some v ↦ inr refl ]

  -- a cell that occurs once is taken off
  fewer_first : (x : ℕ) (a : ℕ × A) (xs : List (ℕ × A)) → (a.0 ≡ x → without x xs ≡ xs) →
      (is_some (find_cell x xs) ≡ true → length (without x xs) + 1 ≡ length xs) →
      is_some (find_cell x (a ∷ xs)) ≡ true → length (without x (a ∷ xs)) + 1 ≡ length (a ∷ xs)
  fewer_first x a xs gone rest h = grind arith

  one_fewer : (x : ℕ) (xs : List (ℕ × A)) → ((i j : ℕ) → cell_in xs i ≡ Some x → cell_in xs j ≡ Some x → i ≡ j) →
      is_some (find_cell x xs) ≡ true → length (without x xs) + 1 ≡ length xs
  one_fewer x [] once h = cc
  one_fewer x (a ∷ xs) once h = fewer_first x a xs
      (λ e. without_none x xs (nowhere x xs (λ i p. (let same = once 0 (suc i) (ap Some e) p in
      absurd (omega (arith, same))))))
      (one_fewer x xs (λ i j p q. (let same = once (suc i) (suc j) p q in omega (arith, same)))) h

  -- all lists
  look_map : (x : ℕ) (f : List (ℕ × A) → List (ℕ × A)) (ls : List (List (ℕ × A))) →
      ((xs : List (ℕ × A)) → find_cell x (f xs) ≡ find_cell x xs) → look_up x (map f ls) ≡ look_up x ls
  look_map x f [] h = refl
  look_map x f (r ∷ ls) h = (λ i. or_else (h r i) (look_map x f ls h i))

  look_gone : (x : ℕ) (ls : List (List (ℕ × A))) → look_up x (map (without x) ls) ≡ None
  look_gone x [] = refl
  look_gone x (r ∷ ls) = let gone = find_gone x r in let rest = look_gone x ls in grind arith

  look_written : (x : ℕ) (w : A) (ls : List (List (ℕ × A))) → is_some (look_up x ls) ≡ true →
      look_up x (map (rewritten x w) ls) ≡ Some w
  look_written x w [] h = cc
  look_written x w (r ∷ ls) h = let some = find_written x w r in let none = none_written x w r in
      let rest = look_written x w ls in grind arith

  look_end : (ls : List (List (ℕ × A))) (l x : ℕ) (v : A) → l < length ls → look_up x ls ≡ None →
      look_up x (append_to l (x, v) ls) ≡ Some v
  look_end [] l x v lt h = absurd (omega (arith, lt))
  look_end (r ∷ ls) zero x v lt h = let end = find_end x v r in grind arith
  look_end (r ∷ ls) (suc l) x v lt h = let rest = look_end ls l x v (omega (arith, lt)) in grind arith

  look_other : (ls : List (List (ℕ × A))) (l x y : ℕ) (v : A) → y ≢ x →
      look_up y (append_to l (x, v) ls) ≡ look_up y ls
  look_other [] l x y v ne = refl
  look_other (r ∷ ls) zero x y v ne = ap (λ o. or_else o (look_up y ls)) (find_end_other x y v r ne)
  look_other (r ∷ ls) (suc l) x y v ne = ap (or_else (find_cell y r)) (look_other ls l x y v ne)

  get_map : (f : List (ℕ × A) → List (ℕ × A)) (ls : List (List (ℕ × A))) (l : ℕ) → f [] ≡ [] →
      get_or (map f ls) l [] ≡ f (get_or ls l [])
  get_map f [] l empty = sym empty
  get_map f (r ∷ ls) zero empty = refl
  get_map f (r ∷ ls) (suc l) empty = get_map f ls l empty

  -- what is found on a list is found
  look_some : (ls : List (List (ℕ × A))) (l x : ℕ) → is_some (find_cell x (get_or ls l [])) ≡ true →
      is_some (look_up x ls) ≡ true
  look_some [] l x h = cc
  look_some (r ∷ ls) zero x h = grind arith
  look_some (r ∷ ls) (suc l) x h = let rest = look_some ls l x h in grind arith

  first_found : (x : ℕ) (xs : List (ℕ × A)) → first_cell xs ≡ Some x → is_some (find_cell x xs) ≡ true
  first_found x [] e = cc
  first_found x (a ∷ xs) e = grind arith

  next_found : (x y : ℕ) (xs : List (ℕ × A)) → next_in x xs ≡ Some y → is_some (find_cell y xs) ≡ true
  next_found x y [] e = cc
  next_found x y (a ∷ xs) e = let rest = next_found x y xs in let first = first_found y xs in grind arith

  next_held : (ls : List (List (ℕ × A))) (x y : ℕ) → next_cell x ls ≡ Some y → is_some (look_up y ls) ≡ true
  next_held [] x y e = cc
  next_held (r ∷ ls) x y e = let here = next_found x y r in let rest = next_held ls x y in grind arith

  one_list : (ls : List (List (ℕ × A))) (l m x : ℕ) → IsOnce ls → is_some (find_cell x (get_or ls l [])) ≡ true →
      is_some (find_cell x (get_or ls m [])) ≡ true → l ≡ m
  one_list ls l m x once some also =
      let p = place_of x (get_or ls l []) some in
      let q = place_of x (get_or ls m []) also in (once.once l m p.0 q.0 x p.1 q.1).0

  here_held : (ls : List (List (ℕ × A))) (l x : ℕ) (v : A) → IsOnce ls → find_cell x (get_or ls l []) ≡ Some v →
      look_up x ls ≡ Some v
  here_held ls l x v once e =
      let s = some_of (look_up x ls) (look_some ls l x (ap is_some e)) in let q = look_in x s.0 ls s.1 in
      let same = one_list ls q.0 l x once (ap is_some q.2) (ap is_some e) in
      s.1 ∙ sym q.2 ∙ ap (λ k. find_cell x (get_or ls k [])) same ∙ e

  elsewhere : (ls : List (List (ℕ × A))) (x l m : ℕ) → IsOnce ls → is_some (find_cell x (get_or ls l [])) ≡ true →
      m ≢ l → find_cell x (get_or ls m []) ≡ None
  elsewhere ls x l m once some ne = elim (none_or_some x (get_or ls m [])) [
    | inl none ↦ none
    | inr also ↦ absurd (ne (one_list ls m l x once also some))
  ]

  -- a cell that isn't on a list has none after it there
  next_none : (x : ℕ) (xs : List (ℕ × A)) → find_cell x xs ≡ None → next_in x xs ≡ None
  next_none x [] h = refl
  next_none x (a ∷ xs) h = let rest = next_none x xs in grind arith

  -- the cell in a place is the first one of what is left from there on
  cell_at : (xs : List (ℕ × A)) (k c : ℕ) (v : A) (zs : List (ℕ × A)) → drop k xs ≡ (c, v) ∷ zs →
      cell_in xs k ≡ Some c
  cell_at [] zero c v zs e = cc
  cell_at [] (suc k) c v zs e = cc
  cell_at (b ∷ xs) zero c v zs e = grind arith
  cell_at (b ∷ xs) (suc k) c v zs e = cell_at xs k c v zs e

  at_place : (xs : List (ℕ × A)) (k c : ℕ) (v : A) (zs : List (ℕ × A)) →
      ((i j : ℕ) → cell_in xs i ≡ Some c → cell_in xs j ≡ Some c → i ≡ j) → drop k xs ≡ (c, v) ∷ zs →
      (find_cell c xs ≡ Some v) × (next_in c xs ≡ first_cell zs)
  at_place [] zero c v zs once e = cc
  at_place [] (suc k) c v zs once e = cc
  at_place (b ∷ xs) zero c v zs once e = (grind arith, grind arith)
  at_place (b ∷ xs) (suc k) c v zs once e =
      let ne : b.0 ≢ c = λ same. (let two = once 0 (suc k) (ap Some same) (cell_at xs k c v zs e) in
      absurd (omega (arith, two))) in
      let rest = at_place xs k c v zs (λ i j p q. (let two = once (suc i) (suc j) p q in omega (arith, two))) e in
      (grind arith, grind arith)

  next_here : (ls : List (List (ℕ × A))) (l x : ℕ) → IsOnce ls → is_some (find_cell x (get_or ls l [])) ≡ true →
      next_cell x ls ≡ next_in x (get_or ls l [])
  next_here ls l x once some = first_some_at (next_in x) ls l
      (elim (cases_lt l (length ls)) [
        | inl lt ↦ lt
        | inr past ↦ absurd (true≢false (sym some ∙ ap (λ xs. is_some (find_cell x xs)) (get_or_past ls l [] past)))
      ]) (λ m mt ne. next_none x (get_or ls m []) (elsewhere ls x l m once some ne))

  first_left : (ys : List (ℕ × A)) (c : ℕ) → first_cell ys ≡ Some c → (v : A) × (zs : List (ℕ × A))
      × (ys ≡ (c, v) ∷ zs)
  first_left [] c e = cc
  first_left (a ∷ ys) c e = let same : a.0 ≡ c = same_some a.0 c e in (a.1, ys, ap (λ x. (x, a.1) ∷ ys) same)

  is_met : (ls : List (List (ℕ × A))) (l k c : ℕ) → IsOnce ls → first_cell (drop k (get_or ls l [])) ≡ Some c →
      IsMet ls l k c
  is_met ls l k c once e =
      let xs : List (ℕ × A) = get_or ls l [] in
      let first = first_left (drop k xs) c e in
      let left : drop (k + 1) xs ≡ first.1 = sym (drop-drop 1 k xs) ∙ ap (drop 1) first.2 in
      let place = at_place xs k c first.0 first.1 (λ i j p q. (once.once l l i j c p q).1) first.2 in
      record {
        value = first.0;
        is = first.2 ∙ ap (λ us. (c, first.0) ∷ us) (sym left);
        cell = here_held ls l c first.0 once place.0;
        next = next_here ls l c once (ap is_some place.0) ∙ place.1 ∙ ap first_cell (sym left);
      }

pub looked_up : (A : Type 0) → LookUpLaws A
looked_up A = record {
  front = λ ls l x e. look_some ls l x (first_found x (get_or ls l []) e);
  next = λ ls x y e. next_held ls x y e;
  on = λ ls x v e. look_in x v ls e;
  here = λ ls l x v once e. here_held ls l x v once e;
  one = λ ls l m x once some also. one_list ls l m x once some also;
  after = λ ls l x once some. next_here ls l x once some;
  met = λ ls l k c once e. is_met ls l k c once e;
}

pub appended : (A : Type 0) → AppendLaws A
appended A = record {
  found = λ ls l x v lt none. look_end ls l x v lt none;
  others = λ ls l x y v ne. look_other ls l x y v ne;
  longer = λ ls l a lt. get_or-set_same ls l (get_or ls l [] ++ a ∷ []) [] lt;
  apart = λ ls l m a ne. get_or-set_other ls l m (get_or ls l [] ++ a ∷ []) [] ne;
  lists = λ ls l a. length-set ls l (get_or ls l [] ++ a ∷ []);
}

pub taken_off : (A : Type 0) → WithoutLaws A
taken_off A = record {
  gone = λ ls x. look_gone x ls;
  others = λ ls x y ne. look_map y (without x) ls (λ xs. find_kept x y xs ne);
  each = λ ls x l. get_map (without x) ls l refl;
  shorter = λ ls x l once some. one_fewer x (get_or ls l []) (λ i j p q. (once.once l l i j x p q).1) some;
  apart = λ ls x l m once some ne. without_none x (get_or ls m []) (elsewhere ls x l m once some ne);
  lists = λ ls x. length-map ls (without x);
}

pub written : (A : Type 0) → RewriteLaws A
written A = record {
  found = λ ls x w some. look_written x w ls some;
  others = λ ls x y w ne. look_map y (rewritten x w) ls (λ xs. find_unwritten x y w xs ne);
  each = λ ls x l w. get_map (rewritten x w) ls l refl;
  cells = λ xs x w. cells_written x w xs;
}
