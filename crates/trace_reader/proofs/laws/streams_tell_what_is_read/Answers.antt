use Rattle.std.proofs.Common.{None, ap, arith, ◌∙◌}
use Rattle.text_lines.specs.Lines.{lines_of}
use Rattle.trace_reader.specs.declared.limits.TheConstants.{MOST_LINES, MOST_NUMBERED}
use Rattle.trace_reader.specs.Reading.{all_told, said_at}
use Rattle.trace_reader.proofs.ToldLines.{read-all, told-same}
use Rattle.trace_reader.proofs.laws.streams_tell_what_is_read.Goals as goal

pub returns-clause-same : goal.returns-clause-same
returns-clause-same c = λ bytes few.
    read-all said_at 1 None (lines_of bytes)
    ∙ ap all_told (told-same said_at MOST_LINES MOST_NUMBERED 1 None (lines_of bytes) (omega (arith, few))
    (omega (arith, few)))
