-- What each event makes of the machine: the answer and the machine afterwards. Stopped takes precedence over all else,
-- then NoSuch; every refusal but Exhausted leaves the machine unchanged, and Exhausted only stops it.
use Rattle.std.specs.Prelude.{ℕ, Bool, true, [], ◌∷◌, ◌++◌, length, Option, Some, None, Result, Ok, Err}
use Rattle.std.specs.Prelude.{if◌then◌else◌, slice_get, slice_set, slice_index_or}
use Rattle.physiological_order.specs.declared.operation.Op.{Op}
use Rattle.network.specs.declared.message.Node.{Node}
use Rattle.network.specs.declared.message.Node.TheVariants.{Core, Bank, Dram}
use Rattle.network.specs.declared.message.Message.{Message}
use Rattle.network.specs.NumberedMessages.{at_number}
use Rattle.network.specs.declared.part.Reaction.{Reaction}
use Rattle.core_pts.specs.declared.attempt.IssueError.{IssueError}
use Rattle.core_pts.specs.declared.attempt.IssueError.TheVariants as not_issued
use Rattle.core_pts.specs.CoreTable as core_table
use Rattle.core_pts.specs.CoreTable.{CoreState, core_has_case}
use Rattle.llc_bank.specs.BankTable as bank_table
use Rattle.llc_bank.specs.BankTable.{bank_has_case}
use Rattle.dram_mts.specs.Table.{dram_table, dram_has_case}
use Rattle.machine_table.specs.declared.event.Event.{Event}
use Rattle.machine_table.specs.declared.event.Event.TheVariants.{Issue, Attempt, Deliver, EvictCache, EvictBank}
use Rattle.machine_table.specs.declared.event.Event.TheVariants.{Advance}
use Rattle.machine_table.specs.declared.event.Answer.{Answer}
use Rattle.machine_table.specs.declared.event.Answer.TheVariants.{Issued, Completed, Dropped, Refused}
use Rattle.machine_table.specs.declared.event.Refusal.{Refusal}
use Rattle.machine_table.specs.declared.event.Refusal.TheVariants as refusal
use Rattle.machine_table.specs.Machine.{Machine, with_core, with_bank, with_dram}
use Rattle.machine_table.specs.Posted.{can_post, left, posted}
use Rattle.machine_table.specs.Step.{Step, Exhausts, Keeps, Drops, Makes, Tried, Completes, Does, advanced}
use Rattle.machine_table.specs.Step.{attempt_open, copy_evicted, entry_evicted, reacted, record_of}

abbrev pub refused : Machine → Refusal → Answer × Machine
refused m why = (Refused why, m)

-- what a part's step makes of the machine: `put` puts the part into it, and the message n, if any, is delivered to it
abbrev pub changed : {S : Type 0} → Machine → (S → Machine) → Option ℕ → Step S → Answer × Machine
changed m put n Exhausts = (Refused refusal.Exhausted, record m { is_stopped = true })
changed m put n (Keeps answer) = (answer, m)
changed m put n Drops = (Dropped, record m { mail = left m.mail n })
changed m put n (Makes answer consumes sends part) =
    if can_post m.config.messages m.mail consumes sends
    then (answer, record (put part) { mail = posted m.mail n consumes sends })
    else refused m refusal.NetworkFull

-- a completion adds its record, with the next number
abbrev pub tried : Machine → ℕ → CoreState → Tried → Answer × Machine
tried m c core (Completes op received ts after) =
    let done = record_of c (length m.records) core op received ts in
    (Completed done, record (with_core m c after) { records = m.records ++ done ∷ [] })
tried m c core (Does step) = changed m (with_core m c) None step

-- an operation is opened and added to the core's list
abbrev pub issued : Machine → ℕ → Op → Result (Unit {0}) IssueError × CoreState → Answer × Machine
issued m c op (Err not_issued.Busy, core) = refused m refusal.Busy
issued m c op (Err not_issued.TooMany, core) = refused m refusal.TooMany
issued m c op (Ok done, core) =
    (Issued, record (with_core m c core) { issued = slice_set m.issued c (slice_index_or m.issued c [] ++ op ∷ []) })

-- what is there does this; if it isn't there, the event is refused
abbrev pub if_there : {X : Type 0} → Machine → Option X → (X → Answer × Machine) → Answer × Machine
if_there m None does = refused m refusal.NoSuch
if_there m (Some x) does = does x

-- a part gets the message of this number, if it has a case for it
abbrev pub gets : {S : Type 0} → Machine → (S → Machine) → ℕ → Bool → Option (Reaction × S) → Answer × Machine
gets m put n has_case reaction =
    if has_case then changed m put (Some n) (reacted reaction) else refused m refusal.NoSuch

abbrev pub deliver_to : Machine → ℕ → Message → Node → Answer × Machine
deliver_to m n message (Core c) = if_there m (slice_get m.cores c)
    (λ core. gets m (with_core m c) n (core_has_case core message) (core_table.core_table core message))
deliver_to m n message (Bank b) = if_there m (slice_get m.banks b)
    (λ bank. gets m (with_bank m b) n (bank_has_case bank message) (bank_table.bank_table bank message))
deliver_to m n message (Dram b) = if_there m (slice_get m.drams b)
    (λ dram. gets m (with_dram m b) n (dram_has_case dram message) (dram_table dram message))

abbrev pub on_event : Machine → Event → Answer × Machine
on_event m (Issue c op) = if_there m (slice_get m.cores c) (λ core. issued m c op (core_table.issue core op))
on_event m (Attempt c) = if_there m (slice_get m.cores c) (λ core. tried m c core (attempt_open core core.open_op))
on_event m (Deliver n) = if_there m (at_number n m.mail.messages) (λ message. deliver_to m n message message.to)
on_event m (EvictCache c line) = if_there m (slice_get m.cores c)
    (λ core. changed m (with_core m c) None (copy_evicted (core_table.evict core line)))
on_event m (EvictBank b line) = if_there m (slice_get m.banks b)
    (λ bank. changed m (with_bank m b) None (entry_evicted (bank_table.evict bank line)))
on_event m (Advance c) = if_there m (slice_get m.cores c)
    (λ core. changed m (with_core m c) None (advanced (core_table.advance core)))

-- the answer to an event, and the machine after it
abbrev pub transition : Machine → Event → Answer × Machine
transition m event = if m.is_stopped then refused m refusal.Stopped else on_event m event
