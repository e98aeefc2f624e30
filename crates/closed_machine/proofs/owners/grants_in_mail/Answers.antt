use Rattle.std.proofs.Common.{option_to_list, ap, ◌∙◌}
use Rattle.machine_theorem.specs.Bags.{weigh}
use Rattle.machine_theorem.specs.Ownership.{ownership_in}
use Rattle.closed_machine.proofs.SeatSums.{weigh_left}
use Rattle.closed_machine.proofs.owners.grants_in_mail.Goals as goal

pub returns-clause-value : goal.returns-clause-value
returns-clause-value c =
    weigh_left (ownership_in c.args.line) c.args.outbox.now c.args.inbox.now c.grants.result c.grants_in_message.result
    c.grants_in_held_list.result c.grants.ensures.value
    (c.grants_in_message.ensures.value ∙ ap (λ o. weigh (ownership_in c.args.line) (option_to_list o)) c.hand.ensures)
    c.grants_in_held_list.ensures.value
