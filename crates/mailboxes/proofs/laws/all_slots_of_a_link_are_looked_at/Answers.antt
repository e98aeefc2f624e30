use Rattle.std.proofs.Common.{rules}
use Rattle.mailboxes.proofs.LinkSlots.{all_full}
use Rattle.mailboxes.proofs.laws.all_slots_of_a_link_are_looked_at.Goals as goal

pub returns : goal.returns
returns c = λ z number ms good. all_full z number ms (search rules)
