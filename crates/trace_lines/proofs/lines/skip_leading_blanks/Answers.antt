use Rattle.trace_lines.proofs.Parts.{fronted-by}
use Rattle.trace_lines.proofs.lines.skip_leading_blanks.Goals as goal

pub returns : goal.returns
returns c = fronted-by _ _ _ c.count_leading_blanks.ensures.count c.split_at.ensures.back
