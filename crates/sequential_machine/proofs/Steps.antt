-- Steps of threads in the order of a list, and two such runs of the example.
use Rattle.std.proofs.Common.{◌≡◌, ℕ, List, [], ◌∷◌, Option, refl, ap, arith}
use Rattle.std.proofs.lemmas.Bool.Decides.{nat_tests}
use Rattle.std.specs.Prelude.{unwrap_or}
use Rattle.std.specs.FinMap.{get-empty}
use Rattle.std.specs.Ordering.{nat_cmp}
use Rattle.litmus_parser.specs.declared.syntax.Cell.{Cell}
use Rattle.litmus_reader.specs.OpeningMemory.{words_opened}
use Rattle.litmus_reader.specs.ThreadSteps.{with_items}
use Rattle.sequential_machine.specs.SequentialMachine.{SequentialState, memory_opened, sequential_opening, after_one}
use Rattle.sequential_machine.specs.SequentialMachine.{next, Steps, none, more, IsOutcome}
use Rattle.sequential_machine.specs.Example.{store_buffering}
use Rattle.sequential_machine.proofs.ThreadSteps.{joined}

abbrev after_first : SequentialState → ℕ → List Cell → SequentialState
after_first s t [] = s
after_first s t (cell ∷ rest) = after_one s t cell.instruction rest

-- each thread of the list does its next instruction
abbrev by_turns : SequentialState → List ℕ → SequentialState
by_turns s [] = s
by_turns s (t ∷ ts) = by_turns (after_first s t (s.left t)) ts

first_step : (s : SequentialState) (t : ℕ) (cells : List Cell) → s.left t ≡ cells → Steps s (after_first s t cells)
first_step s t [] e = none
first_step s t (cell ∷ rest) e = more none (next t cell rest e)

turns : (s : SequentialState) (ts : List ℕ) → Steps s (by_turns s ts)
turns s [] = none
turns s (t ∷ ts) =
    let after = after_first s t (s.left t) in
    joined s after (by_turns after ts) (first_step s t (s.left t) refl) (turns after ts)

-- both threads store before they load
abbrev stores_first : List ℕ
stores_first = 0 ∷ 1 ∷ 0 ∷ 1 ∷ 0 ∷ 1 ∷ []

-- one thread is through before the other begins
abbrev one_first : List ℕ
one_first = 0 ∷ 0 ∷ 0 ∷ 1 ∷ 1 ∷ 1 ∷ []

pub both_receive_one : IsOutcome store_buffering (1 ∷ 1 ∷ [])
unfolding words_opened with_items
both_receive_one = let q0 = turns (sequential_opening store_buffering) stores_first in grind (arith, nat_tests, q0)

-- every word opens as 0
pub unset : (a : ℕ) → memory_opened store_buffering a ≡ 0
unfolding words_opened
unset a = ap (λ (o : Option ℕ). unwrap_or o 0) (get-empty nat_cmp a)

pub one_receives_zero : IsOutcome store_buffering (0 ∷ 1 ∷ [])
unfolding words_opened with_items
one_receives_zero =
    let q0 = turns (sequential_opening store_buffering) one_first in let q1 = unset 1 in
    grind (arith, nat_tests, q0, q1)
