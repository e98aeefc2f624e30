use Rattle.std.proofs.Common.{rules}
use Rattle.mailboxes.proofs.IncomingSlots.{all_found}
use Rattle.mailboxes.proofs.laws.all_incoming_slots_are_looked_at.Goals as goal

pub returns : goal.returns
returns c = λ z number start good. all_found z number start (search rules) (search rules)
