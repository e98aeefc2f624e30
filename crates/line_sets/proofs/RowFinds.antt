-- What a row and the cells that it names tell of the lines of its list.
use Rattle.std.proofs.Common.{◌≡◌, ℕ, ◌<◌, Option, List, [], ◌∷◌, length, get_or, Some, None, refl, sym, ap, ◌∙◌, arith}
use Rattle.std.specs.Prelude.{option_map, IsSome}
use Rattle.std.proofs.lemmas.List.{get_or_read}
use Rattle.line_arena.specs.Arenas.{IsOnce}
use Rattle.line_arena.specs.CellLists.{find_cell, look_up}
use Rattle.line_arena.specs.ListLaws.{LookUpLaws}
use Rattle.line_sets.specs.declared.entries.Row.{Row}
use Rattle.line_sets.specs.Order.{find, IsDistinct}
use Rattle.line_sets.specs.Tags.{tag_of}
use Rattle.line_sets.specs.TaggedRows.{no_row, row_at, IsPlaceOf}
use Rattle.line_sets.specs.Stored.{tag_in, tags_of, Fits, IsPlaceIn}
use Rattle.line_sets.proofs.RowLaws.{no-place}
use Rattle.line_sets.proofs.TaggedCells.{apart, on-line}

-- the row that the code reads
pub row-read : {rows now : List Row} {i : ℕ} {v : Row} → rows ≡ now → i < length now → v ≡ get_or rows i v →
    v ≡ row_at now i
row-read {rows} {i = i} {v} is low read =
    get_or_read rows i v (omega (arith, low, ap length is)) read no_row ∙ ap (λ us. row_at us i) is

module _ {X : Type 0} where
  -- a cell on a list is the arena's
  seen-as : (ls : List (List (ℕ × (ℕ × X)))) (i c tag : ℕ) → LookUpLaws (ℕ × X) → IsOnce ls → (o : Option (ℕ × X)) →
      find_cell c (get_or ls i []) ≡ o → option_map (λ p. tag_of p.0) o ≡ Some tag → look_up c ls ≡ o
  seen-as ls i c tag laws once None e h = cc
  seen-as ls i c tag laws once (Some p) e h = laws.here ls i c p once e

  seen : (ls : List (List (ℕ × (ℕ × X)))) (i c tag : ℕ) → LookUpLaws (ℕ × X) → IsOnce ls →
      tag_in (get_or ls i []) c ≡ Some tag → look_up c ls ≡ find_cell c (get_or ls i [])
  seen ls i c tag laws once h = seen-as ls i c tag laws once (find_cell c (get_or ls i [])) refl h

  tagged-there : (o : Option (ℕ × X)) (tag : ℕ) → option_map (λ p. tag_of p.0) o ≡ Some tag → IsSome o
  tagged-there None tag h = cc
  tagged-there (Some p) tag h = refl

  pub all-seen : {row : Row} (ls : List (List (ℕ × (ℕ × X)))) (i : ℕ) → LookUpLaws (ℕ × X) → IsOnce ls →
      Fits row (get_or ls i []) → (k : ℕ) → k < row.count → IsSome (look_up (get_or row.cells k 0) ls)
  all-seen {row} ls i laws once fits k low =
      let c = get_or row.cells k 0 in let tag = get_or row.tags k 0 in let h = fits.each k low in
      rw (seen ls i c tag laws once h) (tagged-there (find_cell c (get_or ls i [])) tag h)

  -- a line is on a list where one of its cells has it
  first-on : (a : ℕ × (ℕ × X)) (xs : List (ℕ × (ℕ × X))) (c line : ℕ) →
      (option_map (λ p. p.0) (find_cell c xs) ≡ Some line → find (tags_of xs) line ≡ Some c) →
      IsDistinct (tags_of (a ∷ xs)) →
      option_map (λ p. p.0) (find_cell c (a ∷ xs)) ≡ Some line → find (tags_of (a ∷ xs)) line ≡ Some c
  first-on a xs c line rest once h = let first = once.0 in grind arith

  on-cell : (xs : List (ℕ × (ℕ × X))) (c line : ℕ) → IsDistinct (tags_of xs) →
      option_map (λ p. p.0) (find_cell c xs) ≡ Some line → find (tags_of xs) line ≡ Some c
  on-cell [] c line once h = cc
  on-cell (a ∷ xs) c line once h = first-on a xs c line (on-cell xs c line once.1) once h

  pub place-in : {row : Row} (ls : List (List (ℕ × (ℕ × X)))) (i line : ℕ) → LookUpLaws (ℕ × X) → IsOnce ls →
      Fits row (get_or ls i []) → (o : Option ℕ) → IsPlaceOf row ls line o → IsPlaceIn row (get_or ls i []) line o
  place-in {row} ls i line laws once fits (Some at) h =
      let c = get_or row.cells at 0 in
      let same = seen ls i c (get_or row.tags at 0) laws once (fits.each at h.0) in (
        h.0,
        fits.few,
        on-cell (get_or ls i []) c line fits.lines
            (ap (option_map (λ (p : ℕ × X). p.0)) (sym same) ∙ h.1),
      )
  place-in {row} ls i line laws once fits None h =
      let xs = get_or ls i [] in
      no-place (find (tags_of xs) line) (λ c e.
      (let on = on-line xs line c (apart ls i once) e in
      let tag = ap (option_map (λ (p : ℕ × X). tag_of p.0)) on.cell in let had = fits.all c (tag_of line) tag in
      let each = fits.each had.place had.low in
      let two : Some (get_or row.tags had.place 0) ≡ Some (tag_of line) = sym each ∙ ap (tag_in xs) had.is ∙ tag in
      let same = seen ls i (get_or row.cells had.place 0) (get_or row.tags had.place 0) laws once each in
      let named : get_or row.tags had.place 0 ≡ tag_of line = cc in
      h had.place had.low named (ap (option_map (λ (p : ℕ × X). p.0))
      (same ∙ ap (λ k. find_cell k xs) had.is ∙ on.cell))))
