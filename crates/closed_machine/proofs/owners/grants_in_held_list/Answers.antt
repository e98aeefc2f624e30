use Rattle.std.proofs.Common.{option_to_list, ap, ◌∙◌, arith}
use Rattle.machine_theorem.specs.Bags.{weigh}
use Rattle.machine_theorem.specs.Ownership.{ownership_in}
use Rattle.closed_machine.proofs.SeatSums.{weigh_more}
use Rattle.closed_machine.proofs.owners.grants_in_held_list.Goals as goal

pub loop-at-preserved : goal.loop-at-preserved
loop-at-preserved c =
    let i = c.loop-at.invariant in (
      (let few = i.0 in let one = c.grants_in_message-count.ensures.one in omega arith),
      weigh_more (ownership_in c.args.line) c.args.inbox.now.held c.loop-at.at c.loop-at.count
          c.grants_in_message-count.result i.1 (c.grants_in_message-count.ensures.value
          ∙ ap (λ o. weigh (ownership_in c.args.line) (option_to_list o)) c.held.ensures),
    )
