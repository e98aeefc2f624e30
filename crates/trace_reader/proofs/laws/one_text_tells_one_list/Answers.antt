use Rattle.std.proofs.Common.{None}
use Rattle.std.specs.FinMap.{empty}
use Rattle.trace_reader.specs.Causes.{FieldsCause, OpeningFieldsCause}
use Rattle.trace_reader.specs.Grammar.{TellOpening}
use Rattle.trace_reader.specs.Openings.{AreOpened}
use Rattle.trace_reader.specs.Reading.{opening_said, said_at}
use Rattle.trace_reader.specs.Steps.{IsByCore}
use Rattle.trace_reader.proofs.ByCore.{bycore-unique}
use Rattle.trace_reader.proofs.OpeningsMeant.{opening-meant, opened-unique}
use Rattle.trace_reader.proofs.RecordAnswers.{records-unique}
use Rattle.trace_reader.proofs.StepsMeant.{SaysFrom, steps-meant}
use Rattle.trace_reader.proofs.TextAnswers.{text-unique}
use Rattle.trace_reader.proofs.laws.one_text_tells_one_list.Goals as goal

pub returns-clause-trace : goal.returns-clause-trace
returns-clause-trace c = text-unique said_at SaysFrom FieldsCause steps-meant None IsByCore bycore-unique

pub returns-clause-records : goal.returns-clause-records
returns-clause-records c = records-unique

pub returns-clause-opening : goal.returns-clause-opening
returns-clause-opening c =
    text-unique opening_said TellOpening OpeningFieldsCause opening-meant empty AreOpened opened-unique
