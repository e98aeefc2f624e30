use Rattle.std.proofs.Common.{◌≡◌, ◌<◌, option_to_list, ap, ◌∙◌, arith}
use Rattle.machine_theorem.specs.Bags.{weigh}
use Rattle.machine_theorem.specs.Ownership.{ownership_in}
use Rattle.seat_views.specs.Seated.{over}
use Rattle.seat_rule.specs.Rule.{content, slot_count}
use Rattle.closed_machine.proofs.SeatSums.{found_content, over_more}
use Rattle.closed_machine.proofs.run.Run.grants_in_slots.Goals as goal

pub loop-slot-preserved : goal.loop-slot-preserved
loop-slot-preserved c =
    let i = c.loop-slot.invariant in
    let z = c.args.self.now.set_up in
    let near : c.loop-slot.slot < slot_count z = c.loop-slot-test.true in (
      (let few = i.0 in let one = c.grants_in_message-count.ensures.one in omega arith),
      (λ parts.
          over_more c.loop-slot.slot (λ k. weigh (ownership_in c.args.line) (content (parts.phases k)))
          c.loop-slot.count c.grants_in_message-count.result (i.1 parts)
          (c.grants_in_message-count.ensures.value
          ∙ ap (λ o. weigh (ownership_in c.args.line) (option_to_list o)) c.as_ref.ensures.value
          ∙ ap (weigh (ownership_in c.args.line))
          (found_content c.args.self.now parts c.loop-slot.slot c.index.result.now near c.index.ensures))),
    )

pub returns-clause-grants : goal.returns-clause-grants
returns-clause-grants c =
    λ parts.
    let end : c.loop-slot.slot ≡ slot_count c.args.self.now.set_up =
    (let t = c.loop-slot-test.false in let e = c.loop-slot.auto.slot-end in omega arith) in
    c.loop-slot.invariant.1 parts
    ∙ ap (λ n. over n (λ k. weigh (ownership_in c.args.line) (content (parts.phases k)))) end
