use Rattle.std.proofs.Common.{◌∙◌}
use Rattle.trace_lines.proofs.RecordLines.{record-told, record-only, record-nothing}
use Rattle.trace_lines.proofs.records.record_line.Goals as goal

pub returns-clause-found : goal.returns-clause-found
returns-clause-found c = (record-told _ _ c.read_record.ensures).0

pub returns-clause-only : goal.returns-clause-only
returns-clause-only c = λ read h. c.read_record.ensures ∙ record-only _ read h

pub returns-clause-fault : goal.returns-clause-fault
returns-clause-fault c = (record-told _ _ c.read_record.ensures).1

pub returns-clause-nothing : goal.returns-clause-nothing
returns-clause-nothing c = λ e. c.read_record.ensures ∙ record-nothing _ e
