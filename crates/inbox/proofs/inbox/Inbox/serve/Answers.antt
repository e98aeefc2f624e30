use Rattle.std.proofs.Common.{◌≡◌, ◌-◌, Option, IfSome, length, sym, ap, subst, ◌∙◌}
use Rattle.std.specs.Prelude.{option_copied}
use Rattle.inbox.specs.Inboxes.{InboxState}
use Rattle.inbox.specs.Serving.{after_hand}
use Rattle.inbox.proofs.Walks.{quiet-hand}
use Rattle.inbox.proofs.HandFirst.{without-hand, behind-hand, with-hand}
use Rattle.inbox.proofs.inbox.Inbox.serve.Goals as goal

pub returns-in_default : goal.returns-in_default
returns-in_default g c =
    without-hand g.P.Receiver.table g.P.Receiver.takes_memory _ _ _ _ _
    (sym (ap (λ (b : InboxState g.row.T.Denot). b.hand) c.self.view_is) ∙ sym c.as_ref.ensures.value
    ∙ ap option_copied c.in_default.is) c.serve_held.ensures

pub returns-then-finds_no_place : goal.returns-then-finds_no_place
returns-then-finds_no_place g c =
    let none = sym c.finds_no_place.ensures ∙ c.if-finds_no_place.true in
    behind-hand g.P.Receiver.table g.P.Receiver.takes_memory _ _ c.in-Some.message.now _ c.deliver_to_part-answer.result
    c.deliver_to_part-answer.new.part _ _ _
    (sym (ap (λ (b : InboxState g.row.T.Denot). b.hand) c.self.view_is) ∙ sym c.as_ref.ensures.value
    ∙ ap option_copied c.in-Some.is)
    (c.places-places.ensures.value
    ∙ ap (λ (b : InboxState g.row.T.Denot). 256 - length b.held) c.self.view_is)
    (c.deliver_to_part-answer.ensures.quiet (quiet-hand c.deliver_to_part-answer.result none))
    c.deliver_to_part-answer.ensures.answer none
    c.serve_held-then-finds_no_place.ensures

pub returns : goal.returns
returns g c =
    let T = g.row.T.Denot in
    let hand = sym (ap (λ (b : InboxState T). b.hand) c.self.view_is) ∙ sym c.as_ref.ensures.value
    ∙ ap option_copied c.in-Some.is in
    with-hand g.P.Receiver.table g.P.Receiver.takes_memory _ _ c.in-Some.message.now _ c.deliver_to_part-answer.result
    c.deliver_to_part-answer.new.part _ _ hand
    (c.places-places.ensures.value ∙ ap (λ (b : InboxState T). 256 - length b.held) c.self.view_is)
    c.deliver_to_part-answer.ensures.answer (sym c.finds_no_place.ensures ∙ c.if-finds_no_place.false)
    c.apply_hand_answer.ensures.result
    (subst (λ (h : Option T). IfSome h
    (λ m. c.apply_hand_answer.new.self ≡ after_hand c.deliver_to_part-answer.result m c.args.self.now.held)) hand
    c.apply_hand_answer.ensures.after)
