-- What a seat answers when it serves.
use Rattle.std.specs.Prelude.{◌≡◌, ℕ, Bool, true, false, Result, Ok, Err}
use Rattle.network.specs.declared.message.Message.{Message}
use Rattle.machine_table.specs.declared.event.Refusal.{Refusal}
use Rattle.machine_table.specs.declared.event.Refusal.TheVariants.{NetworkFull, NoMemory, Exhausted, Stopped}
use Rattle.inbox.specs.declared.answer.Answer.{Answer}
use Rattle.inbox.specs.declared.answer.Refusal.{Refusal as ServingRefusal}
use Rattle.inbox.specs.declared.answer.Refusal.TheVariants as serving
use Rattle.inbox.specs.declared.answer.Served.{Served}
use Rattle.inbox.specs.declared.answer.Served.TheVariants as served
use Rattle.inbox.specs.Inboxes.{InboxState}
use Rattle.inbox.specs.Serving.{Serves}

-- why no message was served, as a seat answers it
abbrev pub seat_refusal : ServingRefusal → Refusal
seat_refusal serving.Full = NetworkFull
seat_refusal serving.NoMemory = NoMemory
seat_refusal serving.Exhausted = Exhausted

abbrev pub seat_result : Result Served ServingRefusal → Result Served Refusal
seat_result (Ok served) = Ok served
seat_result (Err refusal) = Err (seat_refusal refusal)

-- a sum of times doesn't fit: the seat stops
abbrev pub is_exhausted : Result Served Refusal → Bool
is_exhausted (Err Exhausted) = true
is_exhausted _ = false

-- a stopped seat refuses, and nothing changed; any other is served by the table of its part
abbrev pub SeatServes : {P : Type 0} → (P → Message → ℕ → Answer Message × P) → (P → Message → Bool) → Bool →
    InboxState Message → P → Result Served Refusal → InboxState Message → P → Type 0
SeatServes table takes_memory true b p result c q = (result ≡ Err Stopped) × (c ≡ b) × (q ≡ p)
SeatServes table takes_memory false b p result c q =
    (served : Result Served ServingRefusal) × (result ≡ seat_result served)
    × Serves table takes_memory b p served c q

-- Whether a serving changes anything, if the hand was full before, or empty. Held messages that stay held are as they
-- were; the message in the hand moves when it has to wait.
abbrev pub may_change : Bool → Result Served ServingRefusal → Bool
may_change full (Ok served.Delivered) = true
may_change full (Ok served.Dropped) = true
may_change full (Ok served.Started) = true
may_change full (Ok served.Held) = full
may_change full (Ok served.Nothing) = false
may_change full (Err refusal) = false
