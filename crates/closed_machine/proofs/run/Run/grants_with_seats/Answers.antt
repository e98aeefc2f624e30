use Rattle.std.proofs.Common.{◌≡◌, ap, ◌∙◌, arith}
use Rattle.machine_theorem.specs.Bags.{weigh}
use Rattle.machine_theorem.specs.Ownership.{ownership_in}
use Rattle.seat_views.specs.Seated.{over}
use Rattle.seat_rule.specs.Rule.{bag_of_hold, seat_count}
use Rattle.closed_machine.proofs.SeatSums.{left_messages, over_more}
use Rattle.closed_machine.proofs.run.Run.grants_with_seats.Goals as goal

pub loop-number-preserved : goal.loop-number-preserved
loop-number-preserved c =
    let i = c.loop-number.invariant in (
      (let few = i.0 in let more = c.grants_in_mail-count.ensures.within in omega arith),
      (λ parts.
          over_more c.loop-number.number (λ j. weigh (ownership_in c.args.line) (bag_of_hold (parts.seats j)))
          c.loop-number.count c.grants_in_mail-count.result (i.1 parts)
          (c.grants_in_mail-count.ensures.value
          ∙ ap (weigh (ownership_in c.args.line))
          (left_messages c.args.self.now c.loop-number.number c.mail.result.0.now c.mail.result.1.now c.mail.ensures
          parts))),
    )

pub returns-clause-grants : goal.returns-clause-grants
returns-clause-grants c =
    λ parts.
    let end : c.loop-number.number ≡ seat_count c.args.self.now.set_up =
    (let t = c.loop-number-test.false in let e = c.loop-number.auto.number-end in omega arith) in
    c.loop-number.invariant.1 parts
    ∙ ap (λ n. over n (λ j. weigh (ownership_in c.args.line) (bag_of_hold (parts.seats j)))) end
