use Rattle.std.proofs.Common.{◌≡◌, ◌≤◌, ◌-◌, ◌++◌, suc, List}
use Rattle.trace_reader.specs.declared.limits.TheConstants.{MOST_LINES}
use Rattle.trace_reader.specs.Ahead.{ahead, Both}
use Rattle.text_lines.specs.Lines.{lines_of}
use Rattle.trace_reader.proofs.LinesRead.{SoFar}
use Rattle.trace_reader.proofs.whole_texts.read_lines.Given as goal

-- what the lines so far told is kept
abbrev pub invariant-lines : goal.invariant-lines
invariant-lines g l = record {
  told : List g.L.FromLines.Item;
  state : g.L.FromLines.State;
  holds : g.L.FromLines.holds l.kept told state;
  read : Both (g.S.Source.remaining l.fn.source) (g.S.Source.remaining l.source)
      (λ before after. SoFar g.L.FromLines.says g.L.FromLines.first told (suc l.number) state before
      (lines_of (ahead l.block ++ after)));
  counted : g.S.Source.failures l.source ≡ g.S.Source.failures l.fn.source;
  few : l.number ≤ MOST_LINES;
}

abbrev pub decreases-lines : goal.decreases-lines
decreases-lines g l = MOST_LINES - l.number
