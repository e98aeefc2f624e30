use Rattle.std.proofs.Common.{◌∙◌}
use Rattle.trace_lines.proofs.TraceLines.{trace-told, trace-only, trace-nothing}
use Rattle.trace_lines.proofs.traces.trace_line.Goals as goal

pub returns-clause-found : goal.returns-clause-found
returns-clause-found c = (trace-told _ _ _ c.read_step.ensures).0

pub returns-clause-only : goal.returns-clause-only
returns-clause-only c = λ core step h. c.read_step.ensures ∙ trace-only _ _ core step h

pub returns-clause-fault : goal.returns-clause-fault
returns-clause-fault c = (trace-told _ _ _ c.read_step.ensures).1

pub returns-clause-nothing : goal.returns-clause-nothing
returns-clause-nothing c = λ e. c.read_step.ensures ∙ trace-nothing _ _ e
