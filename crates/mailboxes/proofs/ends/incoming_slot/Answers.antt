use Rattle.std.proofs.Common.{◌∙◌}
use Rattle.mailboxes.proofs.LinkEnds.{slot_link}
use Rattle.mailboxes.proofs.ends.incoming_slot.Goals as goal

pub returns-clause-end : goal.returns-clause-end
returns-clause-end c = λ z is. slot_link z _ c.args.place ∙ c.incoming_link.ensures.end z is
