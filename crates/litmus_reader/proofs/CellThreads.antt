-- Each instruction of a test is that of a thread which is there.
use Rattle.std.proofs.Common.{◌≡◌, ℕ, zero, suc, ◌+◌, ◌<◌, ◌≤◌, Bool, true, false, List, [], None, refl, arith}
use Rattle.std.proofs.lemmas.Bool.Decides.{nat_tests}
use Rattle.std.proofs.lemmas.Grind.{common_steps}
use Rattle.std.specs.List.{AllByRecursion as Each}
use Rattle.litmus_lexer.specs.declared.limits.TheConstants.{MOST_ROWS}
use Rattle.litmus_lexer.specs.declared.errors.Kind.TheVariants.{TooLarge}
use Rattle.litmus_parser.specs.Names.{address_of}
use Rattle.litmus_parser.specs.Verdicts.{Bases}
use Rattle.litmus_parser.specs.Table.{Rows, filled, cell, column, row, counted_row, row_or_condition, rows, table}
use Rattle.litmus_parser.specs.declared.syntax.Cell.{Cell}
use Rattle.litmus_parser.specs.declared.syntax.Item.{Item}
use Rattle.piece_forms.specs.Forms.{Gives, InOrder, one, either, turn, until, refused}
use Rattle.piece_forms.proofs.Lemmas.{Leads, leads-given, leads-then, Onto, leads-until, leads-refused}
use Rattle.litmus_reader.specs.Litmus.{Litmus}
use Rattle.litmus_reader.specs.Grammar.{whole_test}
use Rattle.litmus_reader.proofs.Names.{each_behind, leads-behind}

abbrev pub AreBelow : ℕ → List Cell → Type 0
AreBelow threads cells = Each (λ (c : Cell). c.thread < threads) cells

module _ (bases : Bases) (threads : ℕ) where
  abbrev Below : Rows → Type 0
  Below r = AreBelow threads r.0

  filled_below : (t end : ℕ) (r : Rows) → t < threads → Below r → Leads (filled bases t end r) Below
  unfolding filled
  filled_below t end r lt h =
      leads-behind (λ f. leads-behind (λ i. leads-given _ (each_behind (λ (c : Cell). c.thread < threads) r.0 _ h lt)))

  cell_below : (t end : ℕ) (r : Rows) → t < threads → Below r → Leads (cell bases t end r) Below
  unfolding cell
  cell_below t end r lt h = let q0 = filled_below t end r lt h in grind (arith, nat_tests, q0)

  -- the column goes on by one
  abbrev Next : ℕ → ℕ × Rows → Type 0
  Next t c = (c.0 ≡ t + 1) × Below c.1

  column_below : (c : ℕ × Rows) → c.0 < threads → Below c.1 → Leads (column bases threads c) (Next c.0)
  unfolding column
  column_below c lt h = leads-then (cell_below c.0 _ c.1 lt h) (λ r k. leads-given (c.0 + 1, r) (refl, k))

  -- and so many more columns have a thread
  abbrev Turned : ℕ → Bool × (ℕ × Rows) → Type 0
  Turned k r = (r.1.0 + k ≤ threads) × Below r.1.1

  abbrev Columns : ℕ → ℕ × Rows → Type 0
  Columns k c = Leads (until Gives (turn (λ d. Gives true) (column bases threads)) k c) (λ d. Below d.1)

  one_column : (k : ℕ) (c : ℕ × Rows) → c.0 + suc k ≤ threads → Below c.1 →
      Leads (turn (λ d. Gives true) (column bases threads) c) (Turned k)
  one_column k c le h = grind (arith, nat_tests, common_steps, column_below, leads-given, leads-then)

  columns_below : (k : ℕ) (c : ℕ × Rows) → c.0 + k ≤ threads → Below c.1 → Columns k c
  unfolding until
  columns_below zero c le h = leads-given c h
  columns_below (suc k) c le h =
      leads-then {P = Turned k} (one_column k c le h) (then (λ d. columns_below k d))
    where
      then : ((d : ℕ × Rows) → d.0 + k ≤ threads → Below d.1 → Columns k d) → (r : Bool × (ℕ × Rows)) → Turned k r →
          Leads (either (until Gives (turn (λ d. Gives true) (column bases threads)) k r.1) (Gives r.1) r.0)
          (λ d. Below d.1)
      then on (true, d) t = on d t.0 t.1
      then on (false, d) t = leads-given d t.1

  row_below : (r : Rows) → Below r → Leads (row bases threads r) Below
  unfolding row
  row_below r h =
      leads-behind (λ u. leads-then (columns_below threads (0, r) (omega arith) h) (λ c k.
      leads-behind (λ v. leads-given c.1 k)))

  abbrev Counted : ℕ × Rows → Type 0
  Counted t = Below t.1

  counted_below : (t : ℕ × Rows) → Counted t → Leads (counted_row bases threads t) Counted
  unfolding counted_row
  counted_below t h = leads-then (row_below t.1 h) (λ r k. leads-given (t.0 + 1, r) k)

  rows_below : Leads (rows bases threads) (AreBelow threads)
  unfolding rows
  rows_below =
      leads-then (leads-until (refused TooLarge) (turn (λ t. one (row_or_condition t.0)) (counted_row bases threads))
      Counted Counted goes (λ t h. leads-refused TooLarge t) (MOST_ROWS + 1) (0, ([], None)) tt)
      (λ t h. leads-given t.1.0 h)
    where
      goes : (t : ℕ × Rows) → Counted t → Leads (turn (λ t. one (row_or_condition t.0)) (counted_row bases threads) t)
          (Onto Counted Counted)
      goes t h = leads-behind on
        where
          on : (b : Bool) → Leads (either (InOrder (counted_row bases threads t) (λ y. Gives (true, y)))
              (Gives (false, t)) b) (Onto Counted Counted)
          on true = leads-then (counted_below t h) (λ y k. leads-given (true, y) k)
          on false = leads-given (false, t) h

pub table_below : (items : List Item) → Leads (table items) (λ (t : ℕ × List Cell). AreBelow t.0 t.1)
unfolding table
table_below items =
    leads-behind (λ threads. leads-behind (λ u.
    leads-then (rows_below (address_of items) threads) (λ cells h. leads-given (threads, cells) h)))

pub test_below : Leads whole_test (λ (test : Litmus). AreBelow test.threads test.cells)
unfolding whole_test
test_below =
    leads-behind (λ n. leads-behind (λ b. leads-then (table_below b.0) (λ t h.
    leads-behind (λ c. leads-given _ h))))
