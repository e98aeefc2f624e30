use Rattle.trace_reader.specs.Reading.{record_said}
use Rattle.trace_reader.proofs.RecordAnswers.{record-found, record-only}
use Rattle.trace_reader.proofs.RecordsMeant.{Cause, Tells, records-meant}
use Rattle.trace_reader.proofs.TextAnswers.{text-fault}
use Rattle.trace_reader.proofs.record_texts.read_records.Goals as goal

pub returns-clause-found : goal.returns-clause-found
returns-clause-found g c = record-found _ _ c.read_record_text.ensures.told

pub returns-clause-only : goal.returns-clause-only
returns-clause-only g c = record-only _ _ _ _ c.read_record_text.ensures.told c.read_record_text.ensures.fault

pub returns-clause-fault : goal.returns-clause-fault
returns-clause-fault g c =
    text-fault record_said Tells Cause records-meant tt _ _ _ _ c.read_record_text.ensures.fault
