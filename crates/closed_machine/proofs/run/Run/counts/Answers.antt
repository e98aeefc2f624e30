use Rattle.std.proofs.Common.{◌≡◌, ◌+◌, ◌*◌, ap, ◌∙◌, arith}
use Rattle.seat_rule.specs.Rule.{counts_of, seat_count}
use Rattle.closed_machine.proofs.SeatSums.{counts_more, left_counts, state_counts, within_more}
use Rattle.closed_machine.proofs.run.Run.counts.Goals as goal

pub loop-number-preserved : goal.loop-number-preserved
loop-number-preserved c =
    let i = c.loop-number.invariant in
    let n = c.loop-number.number in (
      within_more c.loop-number.counts c.counts.result c.add_counts-counts.result (n * 18446744073709551615)
          18446744073709551615 ((n + 1) * 18446744073709551615) i.0 c.counts.ensures.within c.add_counts-counts.ensures
          (omega arith),
      (λ each of.
          c.add_counts-counts.ensures
          ∙ counts_more n each c.loop-number.counts c.counts.result (i.1 each of)
          (c.counts.ensures.value
          ∙ left_counts c.args.self.now n c.mail.result.0.now c.mail.result.1.now c.mail.ensures each of)),
    )

pub returns-clause-counts : goal.returns-clause-counts
returns-clause-counts c =
    λ parts.
    let end : c.loop-number.number ≡ seat_count c.args.self.now.set_up =
    (let t = c.loop-number-test.false in let e = c.loop-number.auto.number-end in omega arith) in
    c.loop-number.invariant.1 (λ j. (parts.seats j).counts) (state_counts c.args.self.now parts)
    ∙ ap (λ n. counts_of n (λ j. (parts.seats j).counts)) end

pub returns-clause-sum : goal.returns-clause-sum
returns-clause-sum c =
    λ each of.
    let end : c.loop-number.number ≡ seat_count c.args.self.now.set_up =
    (let t = c.loop-number-test.false in let e = c.loop-number.auto.number-end in omega arith) in
    c.loop-number.invariant.1 each of ∙ ap (λ n. counts_of n each) end
