use Rattle.event_counts.proofs.CompletedOps.{all_completed}
use Rattle.event_counts.proofs.laws.every_record_is_counted.Goals as goal

pub returns : goal.returns
returns c = all_completed
