use Rattle.sequential_machine.proofs.TurnsAndSteps.{end_outcome, outcome_end}
use Rattle.sequential_machine.proofs.laws.ends_of_turns_are_outcomes.Goals as goal

pub returns-clause-sound : goal.returns-clause-sound
returns-clause-sound c = end_outcome

pub returns-clause-complete : goal.returns-clause-complete
returns-clause-complete c = outcome_end
