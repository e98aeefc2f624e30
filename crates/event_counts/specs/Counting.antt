-- What each answered event of a run adds to the counts, by the machine after it.
use Rattle.std.specs.Prelude.{◌≡◌, ℕ, ◌<◌, ◌%◌, ◌==◌, nat_lt, Bool, true, false, ◌&&◌, if◌then◌else◌, List, [], ◌∷◌}
use Rattle.std.specs.Prelude.{◌++◌, Option, Some, None, length, slice_get}
use Rattle.std.specs.FinMap.{empty}
use Rattle.physiological_order.specs.declared.operation.Op.{Op}
use Rattle.physiological_order.specs.declared.operation.Op.TheVariants.{Load, Store, Swap}
use Rattle.network.specs.declared.message.Body.{Body}
use Rattle.network.specs.declared.message.Body.TheVariants.{ShRep, FlushRep, WbRep}
use Rattle.network.specs.declared.message.Message.{Message}
use Rattle.network.specs.declared.message.Node.{Node}
use Rattle.network.specs.declared.message.Node.TheVariants as node
use Rattle.network.specs.NumberedMessages.{at_number}
use Rattle.private_cache.specs.declared.line_copy.LineCopy.{LineCopy}
use Rattle.private_cache.specs.CopyTable.{copy_of}
use Rattle.core_pts.specs.CoreTable.{CoreState, line_of}
use Rattle.machine_table.specs.declared.event.Event.{Event}
use Rattle.machine_table.specs.declared.event.Event.TheVariants.{Attempt, Deliver, EvictCache, EvictBank}
use Rattle.machine_table.specs.declared.event.Answer.{Answer}
use Rattle.machine_table.specs.declared.event.Answer.TheVariants.{Completed, Requested, Evicted, Held, Dropped}
use Rattle.machine_table.specs.Machine.{Machine}
use Rattle.schedules.specs.Watches.{Watches}
use Rattle.event_counts.specs.declared.cause.Cause.{Cause}
use Rattle.event_counts.specs.declared.cause.Cause.TheVariants as cause
use Rattle.event_counts.specs.declared.part_counts.Happening.TheVariants as happening
pub use Rattle.event_counts.specs.Counts.{EventCounts, no_counts}
use Rattle.event_counts.specs.Counts.{at_core, at_node, asked, completed, dropped, held, more, reloaded_line}
use Rattle.event_counts.specs.Counts.{returned_line, sent, with_happening}
use Rattle.event_counts.specs.Losses.{Lost, at_risk, has_copy, loss, lost_after}

-- why an operation needs a request on a line without a copy, by how the core lost its last one
abbrev pub cause_without : Option Cause → Cause
cause_without None = cause.Cold
cause_without (Some lost) = lost

-- why it needs one, by the copy of its line: a load finds one whose lease has ended; a store or swap finds a Shared one
abbrev pub cause_on : Op → Option LineCopy → Option Cause → Cause
cause_on op None lost = cause_without lost
cause_on (Load a) (Some copy) lost = cause.Ended
cause_on (Store a v) (Some copy) lost = cause.Shared
cause_on (Swap a v) (Some copy) lost = cause.Shared

-- the cause of a core's open operation; a core that isn't there, or has none, counts as cold
abbrev pub cause_open : Lost → ℕ → CoreState → Option Op → Cause
cause_open lost number core None = cause.Cold
cause_open lost number core (Some op) =
    cause_on op (copy_of core.cache (line_of core op)) (loss lost number (line_of core op))

abbrev pub cause_of : Lost → ℕ → Option CoreState → Cause
cause_of lost number None = cause.Cold
cause_of lost number (Some core) = cause_open lost number core core.open_op

-- a request is sent by the core that made an attempt
abbrev pub requested : EventCounts → Lost → Machine → Event → EventCounts
requested n lost m (Attempt core) = at_core n core (asked (cause_of lost core (slice_get m.cores core)))
requested n lost m _ = n

-- a copy or an entry is evicted
abbrev pub evicted : EventCounts → Event → EventCounts
evicted n (EvictCache core line) = at_node n (node.Core core) (with_happening happening.Evicted)
evicted n (EvictBank bank line) = at_node n (node.Bank bank) (with_happening happening.Evicted)
evicted n _ = n

-- the node that a delivery's message goes to
abbrev pub end_of : Option Message → Option Node
end_of None = None
end_of (Some message) = Some message.to

abbrev pub goes_to : Machine → Event → Option Node
goes_to m (Deliver number) = end_of (at_number number m.mail.messages)
goes_to m _ = None

-- what an answer adds, besides the messages, where a delivery's message went to this node
abbrev pub answered : EventCounts → Lost → Option Node → Event → Answer → Machine → EventCounts
answered n lost to event (Completed done) after = at_core n done.core (completed done)
answered n lost to event Requested after = requested n lost after event
answered n lost to event Evicted after = evicted n event
answered n lost to event Held after = held n to
answered n lost to event Dropped after = dropped n to
answered n lost to event _ after = n

-- a core sends a line back: it does so because it evicts its copy, or in answer to a recall
abbrev pub returned_by : EventCounts → ℕ → Body → EventCounts
returned_by n core (FlushRep line) = at_core n core returned_line
returned_by n core (WbRep line) = at_core n core returned_line
returned_by n core _ = n

abbrev pub returned : EventCounts → Event → Body → EventCounts
returned n (EvictCache core line) body = returned_by n core body
returned n _ body = n

-- words are sent to a core that may have a copy of the line
abbrev pub reloaded_at : EventCounts → Machine → ℕ → ℕ → EventCounts
reloaded_at n m core line = if has_copy (slice_get m.cores core) line then at_core n core reloaded_line else n

abbrev pub reloaded : EventCounts → Machine → Node → ℕ → Body → EventCounts
reloaded n m (node.Core core) line (ShRep words) = reloaded_at n m core line
reloaded n m _ line _ = n

-- what the message adds that an event sent, if any
abbrev pub with_message : EventCounts → Machine → Event → Option Message → EventCounts
with_message n m event None = n
with_message n m event (Some message) =
    returned (reloaded (sent n message) m message.to message.line message.body) event message.body

-- what an event adds, where a delivery's message went to this node, with its answer, the machine after it and the
-- message that it sent
abbrev pub seen : EventCounts → Lost → Option Node → Event → Answer → Machine → Option Message → EventCounts
seen n lost to event answer after message =
    with_message (answered (record n { events = more n.events }) lost to event answer after) after event message

-- what a counter has: the counts, the copies that are lost, and the counts as they were each time that so many more
-- operations had completed
pub record Counter : Type 0 where
  pub counts : EventCounts
  pub lost : Lost
  pub rows : List EventCounts
  pub every : Option ℕ

-- nothing is counted, of so many cores and banks
abbrev pub no_counter : ℕ → ℕ → Option ℕ → Counter
no_counter cores banks every = record { counts = no_counts cores banks; lost = empty; rows = []; every = every }

-- whether an answer completes an operation, as the last of so many, and that is a multiple
abbrev pub is_row : Option ℕ → ℕ → Answer → Bool
is_row None done answer = false
is_row (Some every) done (Completed last) = nat_lt 0 every && (done % every == 0)
is_row (Some every) done _ = false

abbrev pub with_row : Counter → Bool → Counter
with_row k due = if due then record k { rows = k.rows ++ k.counts ∷ [] } else k

-- what an event makes of it, by where a delivery's message went and the copy that the event may take, with its answer
-- and the machine after it. The message with the next number, if it is in flight then, was sent by the event
abbrev pub counted : Counter → Option Node → Option (ℕ × ℕ) → Event → Answer → Machine → Counter
counted k to copy event answer after = record k {
  counts = seen k.counts k.lost to event answer after (at_number k.counts.next after.mail.messages);
  lost = lost_after k.lost copy event after;
}

-- with a row, where one is due
abbrev pub counted_on : Counter → Option Node → Option (ℕ × ℕ) → Event → Answer → Machine → Counter
counted_on k to copy event answer after =
    with_row (counted k to copy event answer after) (is_row k.every (length after.records) answer)

-- by the machine before an event, the event, its answer and the machine after it
abbrev pub counter_seen : Counter → Machine → Event → Answer → Machine → Counter
counter_seen k m event answer after = counted_on k (goes_to m event) (at_risk m event) event answer after

-- rows, for how many more there is room, and counts that the next one can be copied to
pub record Rows : Type 0 where
  pub rows : List EventCounts
  pub room : ℕ
  pub spare : Option EventCounts

-- there is room for a copy of these counts
abbrev pub FitsIn : EventCounts → Option EventCounts → Type 0
FitsIn n None = ⊥
FitsIn n (Some spare) = (length spare.cores ≡ length n.cores) × (length spare.banks ≡ length n.banks)

abbrev pub HasRow : EventCounts → Rows → Type 0
HasRow n rows = (0 < rows.room) × FitsIn n rows.spare

-- a counter in memory: what it has, its room, where the message of the event to come goes, and the copy that this event
-- may take
pub record CounterState : Type 0 where
  pub seen : Counter
  pub lost_room : ℕ
  pub row_room : ℕ
  pub spare : Option EventCounts
  pub to : Option Node
  pub copy : Option (ℕ × ℕ)

-- there is room for what one more event adds
abbrev pub HasRoom : CounterState → Type 0
HasRoom w = (0 < w.lost_room) × (0 < w.row_room) × FitsIn w.seen.counts w.spare

-- the counter is ready for an event of a machine
pub record IsReady (w : CounterState) (m : Machine) (event : Event) : Type 0 where
  pub room : HasRoom w
  pub to : w.to ≡ goes_to m event
  pub copy : w.copy ≡ at_risk m event

-- the counter watches a run
abbrev pub counter_events : Watches CounterState
counter_events = record {
  Seen = Counter;
  seen = λ w. w.seen;
  sees = counter_seen;
  IsReady = IsReady;
  asks = true;
}
