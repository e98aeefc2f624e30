use Rattle.std.proofs.Common.{◌∙◌}
use Rattle.trace_lines.proofs.FormLines.{form-told, form-only, form-nothing}
use Rattle.trace_lines.proofs.forms.form_line.Goals as goal

pub returns-clause-found : goal.returns-clause-found
returns-clause-found c = (form-told _ _ c.read_trace_form.ensures).0

pub returns-clause-only : goal.returns-clause-only
returns-clause-only c = λ form h. c.read_trace_form.ensures ∙ form-only _ form h

pub returns-clause-fault : goal.returns-clause-fault
returns-clause-fault c = (form-told _ _ c.read_trace_form.ensures).1

pub returns-clause-nothing : goal.returns-clause-nothing
returns-clause-nothing c = λ e. c.read_trace_form.ensures ∙ form-nothing _ e
