use Rattle.std.specs.FinMap.{empty}
use Rattle.trace_reader.specs.Causes.{OpeningFieldsCause}
use Rattle.trace_reader.specs.Grammar.{TellOpening}
use Rattle.trace_reader.specs.Openings.{AreOpened}
use Rattle.trace_reader.specs.Reading.{opening_said}
use Rattle.trace_reader.proofs.OpeningsMeant.{opening-meant, opened-unique}
use Rattle.trace_reader.proofs.TextAnswers.{text-fault, text-found, text-only}
use Rattle.trace_reader.proofs.opening_texts.read_opening.Goals as goal

pub returns-clause-found : goal.returns-clause-found
returns-clause-found g c =
    text-found opening_said TellOpening OpeningFieldsCause opening-meant empty AreOpened _ _
    c.read_opening_text.ensures.told

pub returns-clause-only : goal.returns-clause-only
returns-clause-only g c =
    text-only opening_said TellOpening OpeningFieldsCause opening-meant empty AreOpened opened-unique _ _ _ _
    c.read_opening_text.ensures.told c.read_opening_text.ensures.fault

pub returns-clause-fault : goal.returns-clause-fault
returns-clause-fault g c =
    text-fault opening_said TellOpening OpeningFieldsCause opening-meant empty _ _ _ _ c.read_opening_text.ensures.fault
