use Rattle.std.proofs.Common.{None}
use Rattle.trace_reader.specs.Causes.{FieldsCause}
use Rattle.trace_reader.specs.Reading.{said_at}
use Rattle.trace_reader.specs.Steps.{IsByCore}
use Rattle.trace_reader.proofs.ByCore.{bycore-unique}
use Rattle.trace_reader.proofs.StepsMeant.{SaysFrom, steps-meant}
use Rattle.trace_reader.proofs.TextAnswers.{text-fault, text-found, text-only}
use Rattle.trace_reader.proofs.trace_texts.read.Goals as goal

pub returns-clause-found : goal.returns-clause-found
returns-clause-found g c =
    text-found said_at SaysFrom FieldsCause steps-meant None IsByCore _ _ c.read_trace_text.ensures.told

pub returns-clause-only : goal.returns-clause-only
returns-clause-only g c =
    text-only said_at SaysFrom FieldsCause steps-meant None IsByCore bycore-unique _ _ _ _
    c.read_trace_text.ensures.told c.read_trace_text.ensures.fault

pub returns-clause-fault : goal.returns-clause-fault
returns-clause-fault g c =
    text-fault said_at SaysFrom FieldsCause steps-meant None _ _ _ _ c.read_trace_text.ensures.fault
