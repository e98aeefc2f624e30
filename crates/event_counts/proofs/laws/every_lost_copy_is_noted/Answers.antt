use Rattle.event_counts.proofs.LossNotes.{losses_told, same_key}
use Rattle.event_counts.proofs.laws.every_lost_copy_is_noted.Goals as goal

pub returns-clause-notes : goal.returns-clause-notes
returns-clause-notes c = losses_told

pub returns-clause-numbers : goal.returns-clause-numbers
returns-clause-numbers c = same_key
