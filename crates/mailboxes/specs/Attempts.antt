-- What an attempt of a core's seat at its open operation does.
use Rattle.std.specs.Prelude.{◌≡◌, ◌≢◌, ℕ, ◌-◌, ◌<◌, ◌^◌, Bool, true, false, cond, Option, Some, None}
use Rattle.physiological_order.specs.declared.operation.Op.{Op}
use Rattle.physiological_order.specs.declared.operation.Record.{Record}
use Rattle.network.specs.declared.message.Body.{Body}
use Rattle.network.specs.declared.message.Body.TheVariants.{ShReq, ExReq}
use Rattle.network.specs.declared.message.Message.{Message}
use Rattle.core_pts.specs.declared.attempt.Attempt.{Attempt}
use Rattle.core_pts.specs.declared.attempt.Attempt.TheVariants as attempted
use Rattle.core_pts.specs.CoreTable as core_table
use Rattle.core_pts.specs.CoreTable.{CoreState, line_of, to_bank}
use Rattle.machine_table.specs.Step.{record_of}
use Rattle.machine_table.specs.Step.{Attempting, Does, asks, core_step}
use Rattle.machine_table.specs.declared.event.Answer.{Answer}
use Rattle.machine_table.specs.declared.event.Answer.TheVariants.{Completed, Requested, Waiting, Idle, Refused}
use Rattle.machine_table.specs.declared.event.Refusal.TheVariants.{NoRoom, NetworkFull, NoMemory, Exhausted}
use Rattle.machine_table.specs.declared.event.Refusal.TheVariants.{Stopped}
use Rattle.seat_rule.specs.Rule.{seat_count}
use Rattle.seat_rule.specs.Plays.{finished}
use Rattle.mailboxes.specs.declared.machine.Machine.{Machine}
use Rattle.mailboxes.specs.declared.core_seat.CoreSeat.{CoreSeat}
use Rattle.mailboxes.specs.declared.sending.SendingCore.{SendingCore}
use Rattle.mailboxes.specs.declared.outcome.Outcome.{Outcome}
use Rattle.mailboxes.specs.declared.outcome.Outcome.TheVariants.{Keeps, Exhausts, Requests, Completes as CompletesWith}
use Rattle.mailboxes.specs.BoxMoves.{hold}
use Rattle.closed_machine.specs.Sending.{OutboxState, can_send_out, sent_out}
use Rattle.mailboxes.specs.CoreCalls.{SameHold, sending_hold}

-- the core's table completes the open operation, which has this place, and no operation is open then
pub record CoreCompletes (p : CoreState) (op : Op) (place : ℕ) (received : Option ℕ) (ts : ℕ) (q : CoreState) : Type 0
  where
    pub is_open : p.open_op ≡ Some op
    pub answer : core_table.attempt p ≡ (Some (attempted.Completed received ts), q)
    pub place_is : place ≡ p.issued - 1
    pub few : p.issued < 2 ^ 32
    pub closed : q.open_op ≡ None

-- the seat completed its open operation with this record, whose number it drew
abbrev pub Completes : Machine → Record → CoreSeat → CoreSeat → Type 0
Completes m r p q =
    CoreCompletes p.part.core r.op r.place r.received r.ts q.part.core
    × (r ≡ record_of p.mail.number r.number p.part.core r.op r.received r.ts)
    × finished m.set_up (seat_count m.set_up) q.part.core r.op r.received r.ts p.mail.seat.me r.number q.mail.seat.me

-- the core's table asks for this request for the open operation
pub record Asks (p : CoreState) (m : Message) : Type 0 where
  pub op : Op
  pub body : Body
  pub request : m ≡ to_bank p (line_of p op) body
  pub step : core_step p Attempting ≡ Does (asks p op body)

-- what the core's table says of an attempt at an operation
abbrev pub tried_op : CoreState → Op → Option Attempt → Outcome
tried_op core op None = Exhausts
tried_op core op (Some (attempted.Completed received ts)) =
    CompletesWith (record { op = op; place = core.issued - 1; received = received; ts = ts })
tried_op core op (Some (attempted.NeedShared pts version)) =
    Requests (to_bank core (line_of core op) (ShReq pts version))
tried_op core op (Some (attempted.NeedExclusive version)) = Requests (to_bank core (line_of core op) (ExReq version))
tried_op core op (Some attempted.NoRoom) = Keeps (Refused NoRoom)
tried_op core op (Some attempted.Waiting) = Keeps Waiting
tried_op core op (Some attempted.Idle) = Keeps Idle

abbrev pub tried_open : CoreState → Option Op → Outcome
tried_open core None = Keeps Idle
tried_open core (Some op) = tried_op core op (core_table.attempt core).0

abbrev pub tried : CoreState → Outcome
tried core = tried_open core core.open_op

-- the core before and after, for each result of the attempt
abbrev pub Tries : CoreState → Outcome → CoreState → Type 0
Tries p (Keeps answer) q = (q ≡ p) × (answer ≢ Refused NoMemory)
Tries p Exhausts q = q ≡ p
Tries p (Requests m) q = (q ≡ p) × Asks p m
Tries p (CompletesWith d) q = CoreCompletes p d.op d.place d.received d.ts q

-- a request is sent if the seat has a place for it, and can still send
abbrev pub sent_if_room : OutboxState → Outcome → Outcome
sent_if_room out (Keeps answer) = Keeps answer
sent_if_room out Exhausts = Exhausts
sent_if_room out (Requests m) = cond (can_send_out out) (Requests m) (Keeps (Refused NetworkFull))
sent_if_room out (CompletesWith d) = CompletesWith d

-- what an attempt does: by the core's table, but a stopped seat refuses
abbrev pub outcome : Bool → SendingCore → Outcome
outcome true part = Keeps (Refused Stopped)
outcome false part = sent_if_room part.outbox (tried part.core)

-- the core with its request out
abbrev pub asking : CoreState → CoreState
asking core = record core { is_out = true }

-- Of each outcome: the answer, and the seat afterwards
abbrev pub AttemptsSo : Machine → CoreSeat → Answer → CoreSeat → Outcome → Type 0
-- nothing changes
AttemptsSo m p answer q (Keeps kept) = (answer ≡ kept) × SameHold p q × (q.is_stopped ≡ p.is_stopped)
-- nothing changes, but the seat is stopped
AttemptsSo m p answer q Exhausts = (answer ≡ Refused Exhausted) × SameHold p q × (q.is_stopped ≡ true)
-- the core's request is out, and it is the last message of the outbox
AttemptsSo m p answer q (Requests request) =
    (answer ≡ Requested)
    × (hold q.mail ≡ sending_hold (hold p.mail) (asking p.part.core) (sent_out p.part.outbox request))
    × (q.part.outbox ≡ sent_out p.part.outbox request) × (q.is_stopped ≡ p.is_stopped)
-- the open operation is completed with a record, and all messages stay
AttemptsSo m p answer q (CompletesWith d) =
    (r : Record) × (answer ≡ Completed r) × Completes m r p q × (q.part.outbox ≡ p.part.outbox)
    × (q.is_stopped ≡ p.is_stopped)

abbrev pub Attempts : Machine → CoreSeat → Answer → CoreSeat → Type 0
Attempts m p answer q = AttemptsSo m p answer q (outcome p.is_stopped p.part)
