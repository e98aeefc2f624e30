use Rattle.litmus_reader.proofs.WellFormedTests.{text_well_formed, well_formed}
use Rattle.litmus_reader.proofs.laws.tests_are_well_formed.Goals as goal

pub returns-clause-of_text : goal.returns-clause-of_text
returns-clause-of_text c = text_well_formed

pub returns-clause-every : goal.returns-clause-every
returns-clause-every c = well_formed
