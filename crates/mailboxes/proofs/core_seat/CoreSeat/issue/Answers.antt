use Rattle.std.proofs.Common.{◌≡◌, Ok, sym, ap, refl, ◌∙◌, ◌++◌, ◌∷◌, []}
use Rattle.mailboxes.proofs.CoreFacts.{issue_moves, issued_well, part_of}
use Rattle.mailboxes.proofs.core_seat.CoreSeat.issue.Goals as goal

pub unwrap-requires : goal.unwrap-requires
unwrap-requires c =
    let done : c.issue-issued.result ≡ Ok tt = ap (λ r. r.0) c.issue-issued.ensures
    ∙ issued_well c.args.self.now.is_stopped _ (c.in_ok-may_issue.ensures.answer c.args.op) in rw done refl

pub change_core_hold-requires-clause-change : goal.change_core_hold-requires-clause-change
change_core_hold-requires-clause-change c =
    let p = c.args.self.now in
    issue_moves c.args.machine.now p.mail p.part p.issued.items c.requires (part_of p) c.issue-issued.new.self c.args.op
    c.push_reserved.new.self.items
    (sym c.issue-issued.ensures ∙ ap (λ r. (r, c.issue-issued.new.self)) c.unwrap.ensures)
    (c.push_reserved.ensures.items ∙ ap (λ xs. xs ++ c.args.op ∷ []) c.make_room_for_operation.ensures.issued.0)
