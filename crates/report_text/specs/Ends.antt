-- How many runs ended in each way, and the end states of those that are all done.
use Rattle.std.specs.Prelude.{ℕ, ◌+◌, ◌-◌, ◌^◌, ◌<◌, Bool, true, false, cond, List, Option, Some, None}
use Rattle.std.specs.Prelude.{count_by}
use Rattle.litmus_reader.specs.Litmus.{Litmus}
use Rattle.litmus_reader.specs.Truth.{value_of, holds}
use Rattle.programs.specs.declared.ends.End.{End}
use Rattle.programs.specs.declared.ends.End.TheVariants.{AllDone, Stalled, TurnsUsed, Exhausted, NoMemory}
use Rattle.report_text.specs.declared.run_end.RunEnd.{RunEnd}
use Rattle.report_text.specs.declared.ends.Endings.{Endings}

abbrev pub same_end : End → End → Bool
same_end AllDone AllDone = true
same_end Stalled Stalled = true
same_end TurnsUsed TurnsUsed = true
same_end Exhausted Exhausted = true
same_end NoMemory NoMemory = true
same_end one other = false

abbrev pub ends_as : End → RunEnd → Bool
ends_as end run = same_end run.end end

-- how many runs ended in this way
abbrev pub runs_ended : End → List RunEnd → ℕ
runs_ended end runs = count_by (ends_as end) runs

-- the values of the condition's names, if a run is all done
abbrev pub done_state : End → Option (List ℕ) → Option (List ℕ)
done_state AllDone state = state
done_state end state = None

-- whether the condition's expression holds in these values
abbrev pub holds_in : Litmus → Option (List ℕ) → Bool
holds_in test (Some values) = holds (value_of test.seen values) test.tree
holds_in test None = false

abbrev pub condition_holds : Litmus → RunEnd → Bool
condition_holds test run = holds_in test (done_state run.end run.state)

-- how many runs are all done with an end state in which the condition's expression holds
abbrev pub runs_held : Litmus → List RunEnd → ℕ
runs_held test runs = count_by (condition_holds test) runs

-- how many runs ended in each way, and in how many the condition's expression holds
abbrev pub endings_of : Litmus → List RunEnd → Endings
endings_of test runs = record {
  all_done = runs_ended AllDone runs;
  stalled = runs_ended Stalled runs;
  turns_used = runs_ended TurnsUsed runs;
  exhausted = runs_ended Exhausted runs;
  no_memory = runs_ended NoMemory runs;
  held = runs_held test runs;
}

-- the same after one more run
abbrev pub with_run : Litmus → Endings → RunEnd → Endings
with_run test endings run = record {
  all_done = endings.all_done + cond (ends_as AllDone run) 1 0;
  stalled = endings.stalled + cond (ends_as Stalled run) 1 0;
  turns_used = endings.turns_used + cond (ends_as TurnsUsed run) 1 0;
  exhausted = endings.exhausted + cond (ends_as Exhausted run) 1 0;
  no_memory = endings.no_memory + cond (ends_as NoMemory run) 1 0;
  held = endings.held + cond (condition_holds test run) 1 0;
}

-- one more of each fits 64 bits
abbrev pub AreFew : Endings → Type 0
AreFew endings =
    (endings.all_done < 2 ^ 64 - 1) × (endings.stalled < 2 ^ 64 - 1) × (endings.turns_used < 2 ^ 64 - 1)
    × (endings.exhausted < 2 ^ 64 - 1) × (endings.no_memory < 2 ^ 64 - 1) × (endings.held < 2 ^ 64 - 1)
