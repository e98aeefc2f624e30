use Rattle.std.proofs.Common.{◌-◌, ◌≡◌, ◌≤◌, length, ◌++◌}
use Rattle.std.specs.List.{prefix_len}
use Rattle.text_lines.specs.Lines.{is_within_line}
use Rattle.trace_reader.specs.Ahead.{ahead, Both}
use Rattle.trace_reader.proofs.blocks.Block.find_line.Given as goal

-- what came so far stands behind the bytes that were there
abbrev pub invariant-loop-length : goal.invariant-loop-length
invariant-loop-length g l = record {
  len : l.length ≡ prefix_len is_within_line (ahead l.self);
  within : l.length ≤ length (ahead l.self);
  few : length (ahead l.self) ≤ 8192;
  bytes : Both (g.S.Source.remaining l.fn.source) (g.S.Source.remaining l.source)
      (λ before after. ahead l.fn.self ++ before ≡ ahead l.self ++ after);
  counted : g.S.Source.failures l.source ≡ g.S.Source.failures l.fn.source;
}

abbrev pub decreases-loop-length : goal.decreases-loop-length
decreases-loop-length g l = 8192 - length (ahead l.self)
