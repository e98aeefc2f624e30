use Rattle.std.proofs.Common.{sym, true≢false, ◌∙◌}
use Rattle.tardis_c.proofs.LastWrites.{later, other, sooner}
use Rattle.tardis_c.proofs.expected.later_write.Goals as goal

pub returns-then-not-is_earlier_write : goal.returns-then-not-is_earlier_write
returns-then-not-is_earlier_write c = λ records. other c.args.faulty.now c.args.next.now records c.args.last
    (λ is. true≢false (sym (c.is_earlier_write.ensures.1 is) ∙ c.if-not-is_earlier_write.true))

pub returns-then-not-is_after_last : goal.returns-then-not-is_after_last
returns-then-not-is_after_last c = λ records. sooner c.args.faulty.now c.args.next.now records c.args.last
    (λ is. true≢false (sym (c.is_after_last.ensures.1 is) ∙ c.if-not-is_after_last.true))

pub returns : goal.returns
returns c = λ records. later c.args.faulty.now c.args.next.now records c.args.last
    (c.is_earlier_write.ensures.0 c.if-not-is_earlier_write.false)
    (c.is_after_last.ensures.0 c.if-not-is_after_last.false)
