use Rattle.std.proofs.Common.{◌≡◌, ◌+◌, ◌-◌, ◌≤◌, ◌++◌, length, drop}
use Rattle.litmus_reader.specs.TestViews.{test_of}
use Rattle.report_lines.specs.Layouts.{parted}
use Rattle.report.specs.EveryText.{end_text, ends_text, held_of}
use Rattle.sequential_ends.specs.Every.{values_in}
use Rattle.report.proofs.every_text.put_listed_ends.Given as goal

-- the ends so far and those that are left are all, and so are the ends in which the expression holds
abbrev pub invariant-loop-values : goal.invariant-loop-values
invariant-loop-values l = record {
  ends : l.out.items ++ parted l.layout (λ at. end_text l.layout l.orders (test_of l.test)) l.number
      (drop l.number l.every.ends)
      ≡ l.fn.out.items ++ ends_text l.layout l.orders (test_of l.test) l.every.ends;
  held : l.held + held_of (test_of l.test) (drop l.number (values_in l.every))
      ≡ held_of (test_of l.test) (values_in l.every);
  few : l.held ≤ l.number;
  within : l.number ≤ length l.every.ends;
}

abbrev pub decreases-loop-values : goal.decreases-loop-values
decreases-loop-values l = length l.every.ends - l.number
