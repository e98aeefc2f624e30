use Rattle.std.proofs.Common.{ap, sym, ◌∙◌}
use Rattle.std.specs.Prelude.{slice_get}
use Rattle.inbox.specs.Queues.{values_of}
use Rattle.mailboxes.proofs.Outboxes.{left_was}
use Rattle.mailboxes.proofs.mailbox.Mailbox.put_cell.Goals as goal

pub returns-in-Some-clause-linked : goal.returns-in-Some-clause-linked
returns-in-Some-clause-linked c =
    λ i m e.
    let was = left_was (values_of c.args.outbox.now) c.args.index i m
    (ap (λ xs. slice_get xs i) (sym (c.take-message.ensures.others c.args.index c.requires.cell)) ∙ e) in
    c.requires.linked was.0 m was.1
