use Rattle.event_counts.proofs.LossNotes.{causes_told}
use Rattle.event_counts.proofs.laws.every_miss_has_its_cause.Goals as goal

pub returns : goal.returns
returns c = causes_told
