use Rattle.seat_rule.proofs.OwnerSums.{owners_added}
use Rattle.seat_rule.proofs.laws.owners_are_added_up.Goals as goal

pub returns : goal.returns
returns c = owners_added
