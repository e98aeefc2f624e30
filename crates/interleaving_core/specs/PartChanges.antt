-- What a step of one part makes of the part and the messages in flight, and what its answer makes of the machine.
use Rattle.std.specs.Prelude.{◌≡◌, ℕ, Bool, true, false, List, [], ◌∷◌, ◌++◌, Option, Some, None}
use Rattle.std.specs.Prelude.{◌-◌, if◌then◌else◌, length, slice_get}
use Rattle.physiological_order.specs.declared.operation.Record.{Record}
use Rattle.network.specs.declared.part.Reaction.{Reaction}
use Rattle.network.specs.Mail.{Mail}
use Rattle.machine_table.specs.declared.event.Answer.{Answer}
use Rattle.machine_table.specs.declared.event.Answer.TheVariants as answer
use Rattle.machine_table.specs.declared.event.Refusal.TheVariants.{Exhausted, NetworkFull}
use Rattle.core_pts.specs.CoreTable.{CoreState}
use Rattle.interleaving_core.specs.declared.plain_answer.PlainAnswer.{PlainAnswer}
use Rattle.interleaving_core.specs.declared.plain_answer.PlainAnswer.TheVariants as plain
use Rattle.machine_table.specs.Posted.{can_post, left, posted}
use Rattle.machine_table.specs.Step.{Step, Exhausts, Keeps, Drops, Makes, Tried, Completes, Does, reacted, record_of}

-- the answer, and the part and the messages in flight afterwards, where the message of this number, if any, is
-- delivered
abbrev pub applied : {S : Type 0} → ℕ → S → Mail → Option ℕ → Step S → Answer × S × Mail
applied capacity part mail n Exhausts = (answer.Refused Exhausted, part, mail)
applied capacity part mail n (Keeps why) = (why, part, mail)
applied capacity part mail n Drops = (answer.Dropped, part, left mail n)
applied capacity part mail n (Makes why consumes sends after) =
    if can_post capacity mail consumes sends then (why, after, posted mail n consumes sends)
    else (answer.Refused NetworkFull, part, mail)

-- so of an attempt of the core of a number, where the next record gets this number
abbrev pub applied_attempt : ℕ → ℕ → ℕ → Mail → CoreState → Tried → Answer × CoreState × Mail
applied_attempt c number capacity mail core (Completes op received ts after) =
    (answer.Completed (record_of c number core op received ts), after, mail)
applied_attempt c number capacity mail core (Does step) = applied capacity core mail None step

-- a completion adds its record
abbrev pub with_record : List Record → Answer → List Record
with_record records (answer.Completed done) = records ++ done ∷ []
with_record records _ = records

-- exhausted times stop the machine
abbrev pub stops : Answer → Bool
stops (answer.Refused Exhausted) = true
stops _ = false

-- how a core stands after an attempt that was answered so: without an operation, with its request out, or as before
abbrev pub StandsAfter : Answer → CoreState → CoreState → Type 0
StandsAfter (answer.Completed done) old core = core.open_op ≡ None
StandsAfter answer.Requested old core = core ≡ record old { is_out = true }
StandsAfter _ old core = core ≡ old

-- a plain answer as an answer
abbrev pub answer_of : PlainAnswer → Answer
answer_of plain.Issued = answer.Issued
answer_of plain.Requested = answer.Requested
answer_of plain.Waiting = answer.Waiting
answer_of plain.Idle = answer.Idle
answer_of plain.Delivered = answer.Delivered
answer_of plain.Dropped = answer.Dropped
answer_of plain.Held = answer.Held
answer_of plain.Started = answer.Started
answer_of plain.Evicted = answer.Evicted
answer_of plain.Recalled = answer.Recalled
answer_of plain.Advanced = answer.Advanced
answer_of (plain.Refused why) = answer.Refused why

-- an answer without a record; none, if it has one
abbrev pub plain_of : Answer → Option PlainAnswer
plain_of answer.Issued = Some plain.Issued
plain_of (answer.Completed done) = None
plain_of answer.Requested = Some plain.Requested
plain_of answer.Waiting = Some plain.Waiting
plain_of answer.Idle = Some plain.Idle
plain_of answer.Delivered = Some plain.Delivered
plain_of answer.Dropped = Some plain.Dropped
plain_of answer.Held = Some plain.Held
plain_of answer.Started = Some plain.Started
plain_of answer.Evicted = Some plain.Evicted
plain_of answer.Recalled = Some plain.Recalled
plain_of answer.Advanced = Some plain.Advanced
plain_of (answer.Refused why) = Some (plain.Refused why)

-- the answer to a completion with this record
abbrev pub completed_by : Option Record → Answer
completed_by None = answer.Idle
completed_by (Some done) = answer.Completed done

-- the answer of a machine with these records: without a plain one the last of them was completed
abbrev pub answer_in : List Record → Option PlainAnswer → Answer
answer_in records None = completed_by (slice_get records (length records - 1))
answer_in records (Some plain) = answer_of plain

-- the answer to an attempt that needs a request, by whether it was sent
abbrev pub request_answer : Bool → Answer
request_answer true = answer.Requested
request_answer false = answer.Refused NetworkFull

-- the answer to the delivery of a message, by the part's step, and the messages in flight afterwards, where what the
-- step sends can be sent
abbrev pub settled : {S : Type 0} → Mail → ℕ → Step S → Answer × Mail
settled mail n Exhausts = (answer.Refused Exhausted, mail)
settled mail n (Keeps why) = (why, mail)
settled mail n Drops = (answer.Dropped, left mail (Some n))
settled mail n (Makes why consumes sends after) = (why, posted mail (Some n) consumes sends)

-- so by the part's reaction: the same at every part
abbrev pub settled_answer : Mail → ℕ → Reaction → Answer × Mail
settled_answer mail n reaction = settled mail n (reacted (Some (reaction, tt {0})))
