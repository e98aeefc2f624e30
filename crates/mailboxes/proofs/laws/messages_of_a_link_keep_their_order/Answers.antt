use Rattle.mailboxes.proofs.Sweeps.{older_elsewhere}
use Rattle.mailboxes.proofs.laws.messages_of_a_link_keep_their_order.Goals as goal

pub returns : goal.returns
returns c = λ p q out left put j m older here.
    older_elsewhere p.cores p.banks p.number out put.0 j m put.2.to older here put.4
