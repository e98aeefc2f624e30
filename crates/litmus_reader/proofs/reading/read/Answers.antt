use Rattle.litmus_reader.proofs.Found.{found-told, only-told}
use Rattle.litmus_reader.proofs.Fault.{fault-told, early-told}
use Rattle.litmus_reader.proofs.reading.read.Goals as goal

pub returns-clause-found : goal.returns-clause-found
returns-clause-found c = found-told _ _ c.read_litmus_text.ensures.told

pub returns-clause-only : goal.returns-clause-only
returns-clause-only c = only-told _ _ c.read_litmus_text.ensures.told

pub returns-clause-fault : goal.returns-clause-fault
returns-clause-fault c = fault-told _ _ c.read_litmus_text.ensures.told

pub returns-clause-early : goal.returns-clause-early
returns-clause-early c = early-told _ _ c.read_litmus_text.ensures.told c.read_litmus_text.ensures.early
