-- One set's cells: what is known of a line by its cell, and what each change of a cell makes of the lines.
use Rattle.std.proofs.Common.{◌≡◌, ◌≢◌, ℕ, suc, ◌⊎◌, inl, inr, true, List, [], ◌∷◌, ◌++◌, map}
use Rattle.std.proofs.Common.{get_or, Some, None, refl, sym, ap, ◌∙◌, arith}
use Rattle.std.specs.Option.{is_some}
use Rattle.std.proofs.lemmas.Bool.{cases_eq}
use Rattle.std.proofs.lemmas.List.{map_push}
use Rattle.line_arena.specs.CellLists.{find_cell, rewritten}
use Rattle.line_arena.specs.CellLists as cell
use Rattle.line_arena.specs.Arenas.{cell_in, IsOnce}
use Rattle.line_sets.specs.Order.{find, is_there, put_last, put_in_place, without, IsDistinct}
use Rattle.line_sets.specs.Stored.{entries_of, tags_of}
use Rattle.line_sets.proofs.MissingLines.{missing-without}

module _ {X : Type 0} where
  -- no cell is there twice
  abbrev pub CellsOnce : List (ℕ × X) → Type 0
  CellsOnce [] = Unit {0}
  CellsOnce (a ∷ xs) = (find_cell a.0 xs ≡ None) × CellsOnce xs

  nowhere : (x : ℕ) (xs : List (ℕ × X)) → ((i : ℕ) → cell_in xs i ≢ Some x) → find_cell x xs ≡ None
  nowhere x [] h = refl
  nowhere x (a ∷ xs) h = let rest = nowhere x xs (λ i. h (suc i)) in let first = h 0 in grind arith

  cells-once :
      (xs : List (ℕ × X)) → ((i j x : ℕ) → cell_in xs i ≡ Some x → cell_in xs j ≡ Some x → i ≡ j) → CellsOnce xs
  cells-once [] h = tt
  cells-once (a ∷ xs) h = (
    nowhere a.0 xs (λ i e. (let same = h 0 (suc i) a.0 refl e in absurd (omega (arith, same)))),
    cells-once xs (λ i j x p q. (let same = h (suc i) (suc j) x p q in omega (arith, same))),
  )

  pub apart : (ls : List (List (ℕ × X))) (i : ℕ) → IsOnce ls → CellsOnce (get_or ls i [])
  apart ls i once = cells-once (get_or ls i []) (λ j k x p q. (once.once i i j k x p q).1)

  pub none_or_some : (x : ℕ) (xs : List (ℕ × X)) → (find_cell x xs ≡ None) ⊎ (is_some (find_cell x xs) ≡ true)
  none_or_some x xs =
      elim (find_cell x xs) as (λ o. (o ≡ None) ⊎ (is_some o ≡ true)) [ None ↦ inl refl | Some v ↦ inr refl ]

  pub rewritten_none : (x : ℕ) (w : X) (xs : List (ℕ × X)) → find_cell x xs ≡ None → rewritten x w xs ≡ xs
  rewritten_none x w [] h = refl
  rewritten_none x w (a ∷ xs) h = let rest = rewritten_none x w xs in grind arith

  pub without_none : (x : ℕ) (xs : List (ℕ × X)) → find_cell x xs ≡ None → cell.without x xs ≡ xs
  without_none x [] h = refl
  without_none x (a ∷ xs) h = let rest = without_none x xs in grind arith

module _ {X : Type 0} where
  -- a pair for each cell: its line, and something of the cell
  abbrev keyed : {Z : Type 0} → (ℕ × (ℕ × X) → Z) → List (ℕ × (ℕ × X)) → List (ℕ × Z)
  keyed g xs = map (λ a. (a.1.0, g a)) xs

  -- what is known of a line by its cell
  pub record IsOn (xs : List (ℕ × (ℕ × X))) (line c : ℕ) : Type 0 where
    pub value : X
    pub cell : find_cell c xs ≡ Some (line, value)
    pub entry : find (entries_of xs) line ≡ Some value

  -- the first cell is the line's, or another's
  first-cell : (a : ℕ × (ℕ × X)) (xs : List (ℕ × (ℕ × X))) (line c : ℕ) → find (tags_of (a ∷ xs)) line ≡ Some c →
      a.1.0 ≡ line → a.0 ≡ c
  first-cell a xs line c h e = grind arith

  later-tag : (a : ℕ × (ℕ × X)) (xs : List (ℕ × (ℕ × X))) (line c : ℕ) → find (tags_of (a ∷ xs)) line ≡ Some c →
      a.1.0 ≢ line → find (tags_of xs) line ≡ Some c
  later-tag a xs line c h ne = grind arith

  other : (a : ℕ × (ℕ × X)) (xs : List (ℕ × (ℕ × X))) (line c : ℕ) → IsOn xs line c → find_cell a.0 xs ≡ None → a.0 ≢ c
  other a xs line c r none e = let found = r.cell in grind arith

  here-on : (a : ℕ × (ℕ × X)) (xs : List (ℕ × (ℕ × X))) (line c : ℕ) → a.1.0 ≡ line → a.0 ≡ c → IsOn (a ∷ xs) line c
  here-on a xs line c e f = record { value = a.1.1; cell = grind arith; entry = grind arith }

  later-on : (a : ℕ × (ℕ × X)) (xs : List (ℕ × (ℕ × X))) (line c : ℕ) → a.1.0 ≢ line → a.0 ≢ c → IsOn xs line c →
      IsOn (a ∷ xs) line c
  later-on a xs line c ne apart r = record { value = r.value; cell = grind arith; entry = grind arith }

  pub on-line : (xs : List (ℕ × (ℕ × X))) (line c : ℕ) → CellsOnce xs → find (tags_of xs) line ≡ Some c →
      IsOn xs line c
  on-line [] line c once h = cc
  on-line (a ∷ xs) line c once h = elim (cases_eq a.1.0 line) [
    | inl e ↦ here-on a xs line c e (first-cell a xs line c h e)
    | inr ne ↦ (let r = on-line xs line c once.1 (later-tag a xs line c h ne) in
        later-on a xs line c ne (other a xs line c r once.0) r)
  ]

  -- a line is there by its cell as by its value
  there-by : {Z : Type 0} (g : ℕ × (ℕ × X) → Z) (xs : List (ℕ × (ℕ × X))) (line : ℕ) →
      is_there (keyed g xs) line ≡ is_there (tags_of xs) line
  there-by g [] line = refl
  there-by g (a ∷ xs) line = let rest = there-by g xs line in grind arith

  pub entry-there : (xs : List (ℕ × (ℕ × X))) (line : ℕ) → is_there (entries_of xs) line ≡ is_there (tags_of xs) line
  entry-there xs line = there-by (λ a. a.1.1) xs line

  -- Where the first cell is that of a line it has no other, and where it isn't the cell is another one.
  pub record IsParted (a : ℕ × (ℕ × X)) (xs : List (ℕ × (ℕ × X))) (line c : ℕ) : Type 0 where
    pub mine : a.1.0 ≡ line → (a.0 ≡ c) × (find_cell c xs ≡ None)
    pub not_mine : a.1.0 ≢ line → (a.0 ≢ c) × (find (tags_of xs) line ≡ Some c)

  parted : (a : ℕ × (ℕ × X)) (xs : List (ℕ × (ℕ × X))) (line c : ℕ) → CellsOnce (a ∷ xs) →
      find (tags_of (a ∷ xs)) line ≡ Some c → IsParted a xs line c
  parted a xs line c once h = record {
    mine = λ e. let same = first-cell a xs line c h e in (same, rw (← same) once.0);
    not_mine = λ ne. let tag = later-tag a xs line c h ne in
        (other a xs line c (on-line xs line c once.1 tag) once.0, tag);
  }

  -- a cell that is taken off takes its line
  cut-first : {Z : Type 0} (g : ℕ × (ℕ × X) → Z) (a : ℕ × (ℕ × X)) (xs : List (ℕ × (ℕ × X))) (line c : ℕ) →
      IsParted a xs line c → (find_cell c xs ≡ None → cell.without c xs ≡ xs) →
      (a.1.0 ≡ line → without (keyed g xs) line ≡ keyed g xs) →
      (find (tags_of xs) line ≡ Some c → keyed g (cell.without c xs) ≡ without (keyed g xs) line) →
      keyed g (cell.without c (a ∷ xs)) ≡ without (keyed g (a ∷ xs)) line
  cut-first g a xs line c part gone line_gone rest = let mine = part.mine in let not_mine = part.not_mine in grind arith

  cut-line : {Z : Type 0} (g : ℕ × (ℕ × X) → Z) (xs : List (ℕ × (ℕ × X))) (line c : ℕ) → CellsOnce xs →
      IsDistinct (tags_of xs) → find (tags_of xs) line ≡ Some c →
      keyed g (cell.without c xs) ≡ without (keyed g xs) line
  cut-line g [] line c once lines h = refl
  cut-line g (a ∷ xs) line c once lines h = cut-first g a xs line c (parted a xs line c once h) (without_none c xs)
      (λ e. missing-without (keyed g xs) line (there-by g xs line ∙ rw (← e) lines.0))
      (cut-line g xs line c once.1 lines.1)

  pub cut-entries : (xs : List (ℕ × (ℕ × X))) (line c : ℕ) → CellsOnce xs → IsDistinct (tags_of xs) →
      find (tags_of xs) line ≡ Some c → entries_of (cell.without c xs) ≡ without (entries_of xs) line
  cut-entries = cut-line (λ a. a.1.1)

  pub cut-tags : (xs : List (ℕ × (ℕ × X))) (line c : ℕ) → CellsOnce xs → IsDistinct (tags_of xs) →
      find (tags_of xs) line ≡ Some c → tags_of (cell.without c xs) ≡ without (tags_of xs) line
  cut-tags = cut-line (λ a. a.0)

  -- a cell whose value is written
  write-first : (a : ℕ × (ℕ × X)) (xs : List (ℕ × (ℕ × X))) (line c : ℕ) (w : X) → IsParted a xs line c →
      (find_cell c xs ≡ None → rewritten c (line, w) xs ≡ xs) →
      (find (tags_of xs) line ≡ Some c → entries_of (rewritten c (line, w) xs) ≡ put_in_place (entries_of xs) line w) →
      entries_of (rewritten c (line, w) (a ∷ xs)) ≡ put_in_place (entries_of (a ∷ xs)) line w
  write-first a xs line c w part gone rest = let mine = part.mine in let not_mine = part.not_mine in grind arith

  pub written-entries : (xs : List (ℕ × (ℕ × X))) (line c : ℕ) (w : X) → CellsOnce xs →
      find (tags_of xs) line ≡ Some c → entries_of (rewritten c (line, w) xs) ≡ put_in_place (entries_of xs) line w
  written-entries [] line c w once h = refl
  written-entries (a ∷ xs) line c w once h = write-first a xs line c w (parted a xs line c once h)
      (rewritten_none c (line, w) xs) (written-entries xs line c w once.1)

  tag-first : (a : ℕ × (ℕ × X)) (xs : List (ℕ × (ℕ × X))) (line c : ℕ) (w : X) → IsParted a xs line c →
      (find_cell c xs ≡ None → rewritten c (line, w) xs ≡ xs) →
      (find (tags_of xs) line ≡ Some c → tags_of (rewritten c (line, w) xs) ≡ tags_of xs) →
      tags_of (rewritten c (line, w) (a ∷ xs)) ≡ tags_of (a ∷ xs)
  tag-first a xs line c w part gone rest = let mine = part.mine in let not_mine = part.not_mine in grind arith

  pub written-tags : (xs : List (ℕ × (ℕ × X))) (line c : ℕ) (w : X) → CellsOnce xs →
      find (tags_of xs) line ≡ Some c → tags_of (rewritten c (line, w) xs) ≡ tags_of xs
  written-tags [] line c w once h = refl
  written-tags (a ∷ xs) line c w once h = tag-first a xs line c w (parted a xs line c once h)
      (rewritten_none c (line, w) xs) (written-tags xs line c w once.1)

  -- the lines after a cell with a new value is moved to the end
  pub moved-entries : (xs : List (ℕ × (ℕ × X))) (line c : ℕ) (w : X) → CellsOnce xs → IsDistinct (tags_of xs) →
      find (tags_of xs) line ≡ Some c
      → entries_of (cell.without c xs ++ (c, (line, w)) ∷ []) ≡ put_last (entries_of xs) line w
  moved-entries xs line c w once lines h = map_push _ (cell.without c xs) (c, (line, w))
      ∙ ap (λ us. us ++ (line, w) ∷ []) (cut-entries xs line c once lines h)

  -- the lines after a new one
  pub pushed-entries : (xs : List (ℕ × (ℕ × X))) (line c : ℕ) (v : X) → find (tags_of xs) line ≡ None →
      entries_of (xs ++ (c, (line, v)) ∷ []) ≡ put_last (entries_of xs) line v
  pushed-entries xs line c v h =
      map_push _ xs (c, (line, v)) ∙ ap (λ us. us ++ (line, v) ∷ [])
      (sym (missing-without (entries_of xs) line (entry-there xs line ∙ ap is_some h)))
