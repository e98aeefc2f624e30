-- What the calls of a turn do at a bank's seat, and what its turns do.
use Rattle.std.specs.Prelude.{◌≡◌, ℕ, Bool, ◌||◌, is_some, length, Result, Err}
use Rattle.machine_table.specs.declared.event.Refusal.{Refusal}
use Rattle.machine_table.specs.declared.event.Refusal.TheVariants.{NoMemory}
use Rattle.inbox.specs.declared.answer.Served.{Served}
use Rattle.mailboxes.specs.declared.bank_seat.BankSeat.{BankSeat}
use Rattle.mailboxes.specs.declared.machine.Machine.{Machine}
use Rattle.mailboxes.specs.declared.taken.Take.{Take}
use Rattle.mailboxes.specs.declared.turning.Turn.{Turn}
use Rattle.mailboxes.specs.BankCalls.{SameBankPlace, ServesStore}
use Rattle.mailboxes.specs.BankServing.{sending_bank_table, sending_bank_takes_memory}
use Rattle.mailboxes.specs.BoxMoves.{Puts, Stays, Takes, hold}
use Rattle.mailboxes.specs.SeatServing.{SeatServes, is_exhausted}
use Rattle.mailboxes.specs.Seats.{SameBankPart}
use Rattle.mailboxes.specs.Stored.{stored_bank}
use Rattle.mailboxes.specs.Turns.{Turns}

-- a message was put, or none found a free slot
abbrev pub BankPuts : Machine → Bool → BankSeat → BankSeat → Type 0
BankPuts m done p q =
    SameBankPart p q × Stays p.mail q.mail
    × Puts done p.mail p.part.outbox.messages q.mail q.part.outbox.messages

-- a message was served, or none
abbrev pub BankServes : Machine → Result Served Refusal → BankSeat → BankSeat → Type 0
BankServes m result p q =
    SameBankPlace p q
    × SeatServes sending_bank_table sending_bank_takes_memory p.is_stopped p.mail.inbox p.part result q.mail.inbox
    q.part
    × (hold q.mail ≡ stored_bank (hold p.mail) q.part q.mail.inbox)
    × (q.is_stopped ≡ (p.is_stopped || is_exhausted result))
    × (result ≡ Err NoMemory → ServesStore p.mail.inbox p.part)

-- a message was taken, or none
abbrev pub BankTakes : Machine → Take → BankSeat → BankSeat → Type 0
BankTakes m result p q =
    SameBankPart p q × Stays p.mail q.mail × (q.part.outbox ≡ p.part.outbox) × Takes m.set_up result p.mail q.mail

-- whether a message is in the hand, how many are to be put, and the seat's number
abbrev pub bank_hand : BankSeat → Bool
bank_hand p = is_some p.mail.inbox.hand

abbrev pub bank_to_put : BankSeat → ℕ
bank_to_put p = length p.part.outbox.messages

abbrev pub bank_number : BankSeat → ℕ
bank_number p = p.mail.number

-- a turn of the seat, by these
abbrev pub BankTurns : Machine → BankSeat → Result Turn Refusal → BankSeat → Type 0
BankTurns m = Turns (BankServes m) (BankTakes m) bank_hand (BankPuts m)
