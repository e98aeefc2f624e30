use Rattle.std.proofs.Common.{◌≡◌, ◌++◌, ◌-◌, ◌≤◌, length, drop}
use Rattle.litmus_reader.specs.TestViews.{test_of}
use Rattle.report_lines.specs.Layouts.{parted}
use Rattle.report_text.specs.Lines.{state_text}
use Rattle.report_text.specs.States.{state_entries}
use Rattle.report_text.specs.Text.{state_list}
use Rattle.report_text.proofs.text.put_end_state_list.Given as goal

-- the states so far and those that are left are all
abbrev pub invariant-loop-values : goal.invariant-loop-values
invariant-loop-values l = record {
  states : l.out.items ++ parted l.layout (λ at. state_text l.layout (test_of l.test)) l.index
      (drop l.index (state_entries l.states.entries))
      ≡ l.fn.out.items ++ state_list l.layout (test_of l.test) (state_entries l.states.entries);
  within : l.index ≤ length l.states.entries;
}

abbrev pub decreases-loop-values : goal.decreases-loop-values
decreases-loop-values l = length l.states.entries - l.index
