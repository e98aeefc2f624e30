use Rattle.std.proofs.Common.{◌≡◌, ◌∷◌, ◌+◌, ℕ, drop, sym, ap, subst}
use Rattle.inbox.specs.declared.answer.Answer.{Answer}
use Rattle.inbox.specs.Inboxes.{InboxState}
use Rattle.inbox.specs.Queues.{values_of}
use Rattle.inbox.specs.Serving.{result_of, after_held}
use Rattle.inbox.proofs.Walks.{walk-served}
use Rattle.inbox.proofs.inbox.Inbox.serve_held.Goals as goal

pub returns-in-Some : goal.returns-in-Some
returns-in-Some g c =
    let T = g.row.T.Denot in
    let cells = c.self.inside.held in
    let settled = subst (λ (f : ℕ × Answer T). (c.apply_held_answer.result ≡ result_of f.1)
    × ((k : ℕ) (m : T) → drop k cells ≡ (f.0, m) ∷ drop (k + 1) cells →
    values_of c.apply_held_answer.new.held ≡ after_held f.1 k (values_of cells))) c.in-Some.found-is
    (c.apply_held_answer.ensures.result, c.apply_held_answer.ensures.after) in
    walk-served g.P.Receiver.table g.P.Receiver.takes_memory cells c.args.self.now c.args.part.now
    c.args.refused c.deliver_held-walk.result.refused c.deliver_held-walk.result.found
    c.in-Some.found.0 c.in-Some.found.1
    _ _ _ _
    (ap (λ (b : InboxState T). b.hand) c.self.view_is) (sym (ap (λ (b : InboxState T). b.held) c.self.view_is))
    c.in-Some.is c.deliver_held-walk.ensures.walk settled.0 settled.1
