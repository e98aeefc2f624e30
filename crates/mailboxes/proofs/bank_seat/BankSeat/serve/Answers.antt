use Rattle.mailboxes.proofs.BankRefusals.{memory-of}
use Rattle.mailboxes.proofs.bank_seat.BankSeat.serve.Goals as goal

pub returns-after-matches-clause-memory : goal.returns-after-matches-clause-memory
returns-after-matches-clause-memory c =
    λ e.
    c.serve_bank.ensures.memory
    (memory-of c.serve_bank.result c.in-Err.refusal c.seat_refusal.result c.in-Err.is c.seat_refusal.ensures e)
