use Rattle.mailboxes.proofs.Rooms.{first-room}
use Rattle.mailboxes.proofs.bank_seat.BankSeat.make_room.Goals as goal

pub returns-in_err-message-clause-line : goal.returns-in_err-message-clause-line
returns-in_err-message-clause-line c =
    let seat = c.args.self.now in
    rw (first-room seat.part.bank seat.mail.inbox.held, ← c.first_held.ensures, c.in_err-message.was)
    c.from_residual.ensures

pub returns-clause-line : goal.returns-clause-line
returns-clause-line c =
    let seat = c.args.self.now in
    rw (first-room seat.part.bank seat.mail.inbox.held, ← c.first_held.ensures, c.in_ok-message.was)
    c.victim_for_request.ensures.line
