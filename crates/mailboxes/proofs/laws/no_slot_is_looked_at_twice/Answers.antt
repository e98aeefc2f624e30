use Rattle.mailboxes.specs.Places.{links_of}
use Rattle.mailboxes.proofs.Once.{looks_differ}
use Rattle.mailboxes.proofs.laws.no_slot_is_looked_at_twice.Goals as goal

pub returns : goal.returns
returns c = λ cores banks number ms. looks_differ (links_of cores banks number ms)
