-- A text without bytes ends too early.
use Rattle.std.proofs.Common.{◌≡◌, ℕ, ◌<◌, List, [], ◌∷◌, length, refl, arith}
use Rattle.litmus_lexer.specs.declared.errors.Kind.{Kind}
use Rattle.litmus_lexer.specs.declared.errors.Kind.TheVariants.{CutShort}
use Rattle.litmus_lexer.specs.Reading.{fault_at}
use Rattle.piece_forms.specs.Places.{from_next, ends_ahead}
use Rattle.piece_forms.proofs.Lemmas.{again, explains}
use Rattle.litmus_parser.specs.Header.{text_pieces, title, preamble}
use Rattle.litmus_reader.specs.Litmus.{Litmus}
use Rattle.litmus_reader.specs.Grammar.{whole_test, IsTest}
use Rattle.litmus_reader.specs.Faults.{FaultBefore, good_lines}

nothing_ends : FaultBefore [] CutShort 1
unfolding text_pieces title preamble from_next ends_ahead
nothing_ends = explains preamble 1 [] (fault_at CutShort 1) refl

-- a test has bytes
pub some_of_test : (text : List ℕ) (test : Litmus) → IsTest text test → 0 < length text
unfolding text_pieces title preamble whole_test from_next ends_ahead
some_of_test [] test h = let read = again whole_test 1 [] test h.last h.end h.stands in absurd cc
some_of_test (b ∷ text) test h = omega arith

-- and so has a text without a fault before its initial block
pub some_before_block : (text : List ℕ) → ((kind : Kind) (n : ℕ) → FaultBefore (good_lines text) kind n → ⊥) →
    0 < length text
some_before_block [] none = absurd (none CutShort 1 nothing_ends)
some_before_block (b ∷ text) none = omega arith
