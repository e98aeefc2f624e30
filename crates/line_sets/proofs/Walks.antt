-- One set's list, cell by cell.
use Rattle.std.proofs.Common.{◌≡◌, ℕ, ◌+◌, Bool, true, false, List, [], ◌∷◌, ◌++◌, get_or, drop, Option, Some, None}
use Rattle.std.proofs.Common.{sym, ap, ◌∙◌, arith}
use Rattle.std.specs.Option.{is_some}
use Rattle.std.proofs.lemmas.List.{append_assoc}
use Rattle.line_arena.specs.CellLists.{look_up}
use Rattle.line_arena.specs.ListLaws.{IsMet}
use Rattle.line_sets.specs.Order.{first_where, lines_passing}
use Rattle.line_sets.specs.Stored.{entries_of}

pub is-none : {Y : Type 0} (o : Option Y) → is_some o ≡ false → o ≡ None
is-none o e = grind arith

module _ {X : Type 0} where
  -- the line that a cell has
  pub line-of : {ls : List (List (ℕ × (ℕ × X)))} {l k c : ℕ} {p : ℕ × X} → IsMet ls l k c → look_up c ls ≡ Some p →
      entries_of (drop k (get_or ls l [])) ≡ (p.0, p.1) ∷ entries_of (drop (k + 1) (get_or ls l []))
  line-of {ls} {l} {k} {p = p} met read =
      let two : Some met.value ≡ Some p = sym met.cell ∙ read in let same : met.value ≡ p = cc in
      ap entries_of met.is ∙ ap (λ (u : ℕ × X). (u.0, u.1) ∷ entries_of (drop (k + 1) (get_or ls l []))) same

  -- where the walk looks for the first line that passes
  pub first-passes : (passes : X → Bool) {es rest : List (ℕ × X)} {line : ℕ} {x : X} → es ≡ (line, x) ∷ rest →
      passes x ≡ true → first_where passes es ≡ Some line
  first-passes passes e h = rw e (grind arith)

  pub first-fails : (passes : X → Bool) {es rest : List (ℕ × X)} {line : ℕ} {x : X} → es ≡ (line, x) ∷ rest →
      passes x ≡ false → first_where passes es ≡ first_where passes rest
  first-fails passes e h = rw e (grind arith)

  -- the lines that are added, and those that are left
  pub added : (passes : X → Bool) (lines : List ℕ) {all : List ℕ} {es rest : List (ℕ × X)} {line : ℕ} {x : X} →
      es ≡ (line, x) ∷ rest → passes x ≡ true → lines ++ lines_passing passes es ≡ all →
      (lines ++ line ∷ []) ++ lines_passing passes rest ≡ all
  added passes lines {all} {es} {rest} {line} e h g =
      let one : lines_passing passes es ≡ line ∷ lines_passing passes rest = rw e (grind arith) in
      append_assoc lines (line ∷ []) (lines_passing passes rest) ∙ ap (λ us. lines ++ us) (sym one) ∙ g

  pub not-added : (passes : X → Bool) (lines : List ℕ) {all : List ℕ} {es rest : List (ℕ × X)} {line : ℕ} {x : X} →
      es ≡ (line, x) ∷ rest → passes x ≡ false → lines ++ lines_passing passes es ≡ all →
      lines ++ lines_passing passes rest ≡ all
  not-added passes lines {all} {es} {rest} e h g =
      let same : lines_passing passes es ≡ lines_passing passes rest = rw e (grind arith) in
      ap (λ us. lines ++ us) (sym same) ∙ g
