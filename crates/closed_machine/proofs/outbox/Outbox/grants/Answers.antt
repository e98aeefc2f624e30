use Rattle.std.proofs.Common.{◌<◌, length, option_to_list, sym, ap, ◌∙◌, arith}
use Rattle.machine_theorem.specs.Bags.{weigh}
use Rattle.machine_theorem.specs.Ownership.{ownership_in}
use Rattle.inbox.specs.Queues.{values_of, IsAfter}
use Rattle.closed_machine.proofs.Outboxes.{walked_all}
use Rattle.closed_machine.proofs.SeatSums.{weigh_more}
use Rattle.closed_machine.proofs.outbox.Outbox.grants.Goals as goal

pub returns-in_default-clause-value : goal.returns-in_default-clause-value
returns-in_default-clause-value c =
    let cells = c.self.inside.queue in
    let all = walked_all cells c.loop.counter (sym c.loop.invariant.2 ∙ c.in_default.is) in
    let more : c.loop.counter < length (values_of cells) =
    (let t = c.loop-test.true in let e = c.len-end.ensures.value in omega arith) in
    absurd (omega (arith, all, more))

pub loop-preserved : goal.loop-preserved
loop-preserved c =
    let cells = c.self.inside.queue in
    let i = c.loop.invariant in
    let here : IsAfter c.loop.counter c.in-Some.cell cells = sym i.2 ∙ c.in-Some.is in (
      (let few = i.0 in let one = c.grants_in_message-count.ensures.one in omega arith),
      weigh_more (ownership_in c.args.line) (values_of cells) c.loop.counter c.loop.count
          c.grants_in_message-count.result i.1
          (c.grants_in_message-count.ensures.value
          ∙ ap (λ o. weigh (ownership_in c.args.line) (option_to_list o))
          (sym (c.get.ensures.value c.loop.counter here))),
      c.next-next.ensures c.loop.counter here,
    )
