use Rattle.std.proofs.Common.{◌≡◌, take}
use Rattle.report_text.specs.States.{state_entries, done_states, tallied}
use Rattle.report_text.proofs.states.count_end_states.Given as goal

-- the end states so far
abbrev pub invariant-loop-run : goal.invariant-loop-run
invariant-loop-run l = state_entries l.states.entries ≡ tallied (done_states (take l.run-index l.runs))
