use Rattle.std.proofs.Common.{◌∙◌}
use Rattle.trace_lines.proofs.OpeningLines.{opening-told, opening-only, opening-nothing}
use Rattle.trace_lines.proofs.openings.opening_line.Goals as goal

pub returns-clause-found : goal.returns-clause-found
returns-clause-found c = (opening-told _ _ c.read_opening.ensures).0

pub returns-clause-only : goal.returns-clause-only
returns-clause-only c = λ read h. c.read_opening.ensures ∙ opening-only _ read h

pub returns-clause-fault : goal.returns-clause-fault
returns-clause-fault c = (opening-told _ _ c.read_opening.ensures).1

pub returns-clause-nothing : goal.returns-clause-nothing
returns-clause-nothing c = λ e. c.read_opening.ensures ∙ opening-nothing _ e
