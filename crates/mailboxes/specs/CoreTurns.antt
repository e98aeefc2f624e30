-- What the calls of a turn do at a core's seat, and what its turns do.
use Rattle.std.specs.Prelude.{◌≡◌, ◌≢◌, ℕ, Bool, ◌||◌, is_some, length, Result, Err}
use Rattle.machine_table.specs.declared.event.Refusal.{Refusal}
use Rattle.machine_table.specs.declared.event.Refusal.TheVariants.{NoMemory}
use Rattle.inbox.specs.declared.answer.Served.{Served}
use Rattle.mailboxes.specs.declared.core_seat.CoreSeat.{CoreSeat}
use Rattle.mailboxes.specs.declared.machine.Machine.{Machine}
use Rattle.mailboxes.specs.declared.taken.Take.{Take}
use Rattle.mailboxes.specs.declared.turning.Turn.{Turn}
use Rattle.mailboxes.specs.BoxMoves.{Puts, Stays, Takes, hold}
use Rattle.mailboxes.specs.CoreCalls.{SamePlace}
use Rattle.mailboxes.specs.CoreServing.{sending_core_table, sending_core_takes_memory}
use Rattle.mailboxes.specs.SeatServing.{SeatServes, is_exhausted}
use Rattle.mailboxes.specs.Seats.{SameCorePart}
use Rattle.mailboxes.specs.Stored.{stored_core}
use Rattle.mailboxes.specs.Turns.{Turns}

-- a message was put, or none found a free slot
abbrev pub CorePuts : Machine → Bool → CoreSeat → CoreSeat → Type 0
CorePuts m done p q =
    SameCorePart p q × Stays p.mail q.mail
    × Puts done p.mail p.part.outbox.messages q.mail q.part.outbox.messages

-- a message was served, or none
abbrev pub CoreServes : Machine → Result Served Refusal → CoreSeat → CoreSeat → Type 0
CoreServes m result p q =
    SamePlace p q
    × SeatServes sending_core_table sending_core_takes_memory p.is_stopped p.mail.inbox p.part result q.mail.inbox
    q.part
    × (hold q.mail ≡ stored_core (hold p.mail) q.part p.issued.items q.mail.inbox)
    × (q.is_stopped ≡ (p.is_stopped || is_exhausted result)) × (result ≢ Err NoMemory)

-- a message was taken, or none
abbrev pub CoreTakes : Machine → Take → CoreSeat → CoreSeat → Type 0
CoreTakes m result p q =
    SameCorePart p q × Stays p.mail q.mail × (q.part.outbox ≡ p.part.outbox) × Takes m.set_up result p.mail q.mail

-- whether a message is in the hand, how many are to be put, and the seat's number
abbrev pub core_hand : CoreSeat → Bool
core_hand p = is_some p.mail.inbox.hand

abbrev pub core_to_put : CoreSeat → ℕ
core_to_put p = length p.part.outbox.messages

abbrev pub core_number : CoreSeat → ℕ
core_number p = p.mail.number

-- a turn of the seat, by these
abbrev pub CoreTurns : Machine → CoreSeat → Result Turn Refusal → CoreSeat → Type 0
CoreTurns m = Turns (CoreServes m) (CoreTakes m) core_hand (CorePuts m)
