use Rattle.std.proofs.Common.{Some, ap, sym, true≢false, ◌∙◌}
use Rattle.ranked_lines.specs.Rising.{room_of}
use Rattle.ranked_lines.proofs.RisingEdits.{if-true, order-exchanged, order-kept, room-left}
use Rattle.ranked_lines.proofs.lines.RankedLines.change.Goals as goal

pub returns-then-before-after-clause-order : goal.returns-then-before-after-clause-order
returns-then-before-after-clause-order c = λ xs ys o h.
    order-kept c.args.self.now c.args.line c.args.before c.args.after xs ys c.if-before-after.true o h

pub returns-then-not-put_in_or_take_out-clause-kept : goal.returns-then-not-put_in_or_take_out-clause-kept
returns-then-not-put_in_or_take_out-clause-kept c = λ xs o room.
    absurd (true≢false (sym (c.put_in_or_take_out.ensures.sure (room-left c.args.self.now c.in-Some.numbers xs
    (sym c.self.view_is ∙ c.in-Some.is) o c.args.before c.args.after c.if-before-after.false room))
    ∙ c.if-not-put_in_or_take_out.true))

pub returns-else-not-put_in_or_take_out-clause-order : goal.returns-else-not-put_in_or_take_out-clause-order
returns-else-not-put_in_or_take_out-clause-order c = λ xs ys o h.
    if-true c.put_in_or_take_out.result _ _ _ c.if-not-put_in_or_take_out.false c.put_in_or_take_out.ensures.numbers
    ∙ order-exchanged c.args.self.now c.in-Some.numbers xs (sym c.self.view_is ∙ c.in-Some.is) o c.args.line
    c.args.before c.args.after ys c.if-before-after.false c.requires.before c.requires.after h

pub returns-else-not-put_in_or_take_out-clause-kept : goal.returns-else-not-put_in_or_take_out-clause-kept
returns-else-not-put_in_or_take_out-clause-kept c = λ xs o room.
    ap (λ blocks. Some blocks) c.put_in_or_take_out.ensures.room ∙ ap room_of (sym (sym c.self.view_is ∙ c.in-Some.is))
