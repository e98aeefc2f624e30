use Rattle.std.proofs.Common.{◌≡◌, true, ◌∙◌, subst}
use Rattle.network.specs.declared.message.Node.TheVariants.{Core, Bank}
use Rattle.mailboxes.specs.Places.{has_link_to}
use Rattle.mailboxes.proofs.LinkEnds.{joined}
use Rattle.mailboxes.proofs.ends.link_number_to.Goals as goal

pub returns-in-Core-clause-ends : goal.returns-in-Core-clause-ends
returns-in-Core-clause-ends c =
    λ z is.
    let config = c.args.config.now in
    let has = subst (λ to. has_link_to config.cores config.banks c.args.number to ≡ true) c.in-Core.is
    c.requires.link in
    let r = joined config c.args.number (Core c.in-Core.core) c.requires.number has z is in
    (r.0, c.in-Core.is ∙ r.1)

pub returns-in-Bank-clause-ends : goal.returns-in-Bank-clause-ends
returns-in-Bank-clause-ends c =
    λ z is.
    let config = c.args.config.now in
    let has = subst (λ to. has_link_to config.cores config.banks c.args.number to ≡ true) c.in-Bank.is
    c.requires.link in
    let r = joined config c.args.number (Bank c.in-Bank.bank) c.requires.number has z is in
    (r.0, c.in-Bank.is ∙ r.1)
