-- What is read is well formed.
use Rattle.std.proofs.Common.{◌≡◌, ℕ, ◌<◌, Bool, true, List, [], ◌∷◌, length, Ok, refl, sym, subst}
use Rattle.std.specs.List.{list_all, AllByRecursion as Each}
use Rattle.std.proofs.lemmas.Bool.{lt-ltb}
use Rattle.litmus_lexer.specs.Pieces.{Piece}
use Rattle.piece_forms.specs.Reading.{reads}
use Rattle.piece_forms.proofs.Lemmas.{takes}
use Rattle.litmus_parser.specs.Condition.{condition}
use Rattle.litmus_parser.specs.Header.{text_pieces}
use Rattle.litmus_parser.specs.Names.{Names}
use Rattle.litmus_parser.specs.Table.{table}
use Rattle.litmus_parser.specs.Trees.{Tree}
use Rattle.litmus_parser.specs.Verdicts.{Bases}
use Rattle.litmus_parser.specs.declared.syntax.Cell.{Cell}
use Rattle.litmus_parser.specs.declared.syntax.Item.{Item}
use Rattle.litmus_parser.specs.declared.syntax.Name.{Name}
use Rattle.litmus_parser.specs.declared.syntax.Name.TheVariants.{Register, Location}
use Rattle.litmus_parser.specs.declared.syntax.Quantifier.{Quantifier}
use Rattle.litmus_reader.specs.Grammar.{IsTest}
use Rattle.litmus_reader.specs.Litmus.{Litmus}
use Rattle.litmus_reader.specs.Seen.{seen_in}
use Rattle.litmus_reader.specs.TestViews.{test_of}
use Rattle.litmus_reader.specs.WellFormed.{is_of_thread, is_there, IsWellFormed}
use Rattle.litmus_reader.specs.declared.contents.Test.{Test}
use Rattle.litmus_reader.proofs.Names.{IsThere, AreThere, seen_there, condition_there, test_named}
use Rattle.litmus_reader.proofs.CellThreads.{AreBelow, table_below, test_below}

each_passes : {X : Type 0} (P : X → Type 0) (passes : X → Bool) → ((x : X) → P x → passes x ≡ true) → (xs : List X) →
    Each P xs → list_all passes xs ≡ true
each_passes P passes f [] h = refl
each_passes P passes f (x ∷ xs) h = rw (f x h.0, each_passes P passes f xs h.1) refl

cells_pass : (threads : ℕ) (cells : List Cell) → AreBelow threads cells →
    list_all (is_of_thread threads) cells ≡ true
cells_pass threads = each_passes (λ (c : Cell). c.thread < threads) (is_of_thread threads)
    (λ c lt. lt-ltb c.thread threads lt)

module _ (threads locations : ℕ) where
  name_passes : (name : Name) → IsThere threads locations name → is_there threads locations name ≡ true
  name_passes (Register t r) lt = lt-ltb t threads lt
  name_passes (Location l) lt = lt-ltb l locations lt

  names_pass : (tree : Tree) → AreThere threads locations tree →
      list_all (is_there threads locations) (seen_in tree []) ≡ true
  names_pass tree h =
      each_passes (IsThere threads locations) (is_there threads locations) name_passes (seen_in tree [])
      (seen_there threads locations tree [] h tt)

pub cells_read : (items : List Item) (line : ℕ) (pieces : List Piece) (x : (ℕ × List Cell) × ℕ × List Piece) →
    reads (table items) line pieces ≡ Ok x → list_all (is_of_thread x.0.0) x.0.1 ≡ true
cells_read items line pieces x e =
    cells_pass x.0.0 x.0.1
    ((table_below items).stands line pieces x.0 x.1 x.2 (takes (table items) line pieces x e))

pub names_read : (bases : Bases) (threads : ℕ) (before : Names) (line : ℕ) (pieces : List Piece)
    (x : (Quantifier × Tree × Names) × ℕ × List Piece) → reads (condition bases threads before) line pieces ≡ Ok x →
    list_all (is_there threads (length x.0.2)) (seen_in x.0.1 []) ≡ true
names_read bases threads before line pieces x e =
    names_pass threads (length x.0.2) x.0.1 ((condition_there bases threads before).stands line pieces x.0 x.1 x.2
    (takes (condition bases threads before) line pieces x e))

pub text_well_formed : (text : List ℕ) (test : Litmus) → IsTest text test → IsWellFormed test
text_well_formed text test h =
    let named = test_named.stands 1 (text_pieces text []) test h.last h.end h.stands in
    record {
      cells_there = cells_pass test.threads test.cells
          (test_below.stands 1 (text_pieces text []) test h.last h.end h.stands);
      names_there = subst (λ (names : List Name). list_all (is_there test.threads (length test.locations)) names ≡ true)
          (sym named.1) (names_pass test.threads (length test.locations) test.tree named.0);
      all_seen = named.1;
    }

pub well_formed : (test : Test) → IsWellFormed (test_of test)
well_formed test =
    record { cells_there = test.cells_there; names_there = test.names_there; all_seen = test.all_seen }
