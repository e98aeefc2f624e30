use Rattle.seat_rule.proofs.SetUps.{few_parts, few_slots}
use Rattle.seat_rule.proofs.laws.slots_are_few.Goals as goal

pub returns : goal.returns
returns c = let f = few_parts c.args.config.now c.requires in few_slots _ _ f.1 f.3
