use Rattle.std.proofs.Common.{◌≡◌, ◌∙◌, Option, Some, ap, sym}
use Rattle.network.specs.declared.part.Reaction.{Reaction}
use Rattle.network.specs.Flight.{Flight}
use Rattle.network.specs.Mail.{Mail}
use Rattle.llc_bank.specs.BankTable.{BankState, bank_table}
use Rattle.machine_table.specs.declared.event.Answer.{Answer}
use Rattle.machine_table.specs.declared.event.Answer.TheVariants as answer
use Rattle.machine_table.specs.Step.{reacted}
use Rattle.interleaving_core.specs.PartChanges.{applied}
use Rattle.interleaving_core.proofs.Endpoints.{holds_there}
use Rattle.interleaving_core.proofs.deliveries.deliver_to_bank.Goals as goal

pub returns-then-is_reply-clause-done : goal.returns-then-is_reply-clause-done
returns-then-is_reply-clause-done c =
    let old = c.args.flight.now in
    let part = c.args.bank.now in
    let new = c.take_reply.new.self in
    holds_there (λ x. ◌≡◌ {A = Answer × BankState × Mail} (answer.Delivered, new, c.take_message.new.flight.mail)
    (applied old.capacity part old.mail (Some c.args.number) (reacted (bank_table part x))))
    c.in-Some.ensures.value
    (ap (λ (f : Flight). (answer.Delivered, new, f.mail)) c.take_message.ensures
    ∙ ap (λ (r : Option (Reaction × BankState)). applied old.capacity part old.mail (Some c.args.number)
    (reacted r)) (sym c.take_reply.ensures))
