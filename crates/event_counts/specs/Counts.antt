-- The counts of a run as data, and how each of them goes up.
use Rattle.std.specs.Prelude.{◌≡◌, ℕ, ◌+◌, ◌-◌, ◌^◌, max, nat_lt, List, Option, Some, None, if◌then◌else◌, replicate}
use Rattle.std.specs.Prelude.{slice_get, slice_set}
use Rattle.physiological_order.specs.declared.operation.Op.{Op}
use Rattle.physiological_order.specs.declared.operation.Op.TheVariants.{Load, Store, Swap}
use Rattle.physiological_order.specs.declared.operation.Record.{Record}
use Rattle.network.specs.declared.message.Body.{Body}
use Rattle.network.specs.declared.message.Body.TheVariants.{ShReq, ExReq, ShRep, ExRep, RenewRep, UpgradeRep}
use Rattle.network.specs.declared.message.Body.TheVariants.{FlushReq, WbReq, FlushRep, WbRep}
use Rattle.network.specs.declared.message.Body.TheVariants.{DramLd, DramLdRep, DramSt, DramStRep}
use Rattle.network.specs.declared.message.Message.{Message}
use Rattle.network.specs.declared.message.Node.{Node}
use Rattle.network.specs.declared.message.Node.TheVariants as node
use Rattle.event_counts.specs.declared.cause.Cause.{Cause}
use Rattle.event_counts.specs.declared.cause.Cause.TheVariants.{Cold, Evicted, Recalled, Ended, Shared}
use Rattle.event_counts.specs.declared.kind_counts.KindCounts.{KindCounts}
use Rattle.event_counts.specs.declared.part_counts.CoreCounts.{CoreCounts}
use Rattle.event_counts.specs.declared.part_counts.PartCounts.{PartCounts}
use Rattle.event_counts.specs.declared.part_counts.Happening.{Happening}
use Rattle.event_counts.specs.declared.part_counts.Happening.TheVariants as happening

-- one more; at its greatest value, 2 ^ 64 - 1, a count stays
abbrev pub more : ℕ → ℕ
more count = if nat_lt count (2 ^ 64 - 1) then count + 1 else count

-- no messages
abbrev pub no_kinds : KindCounts
no_kinds = record {
  sh_req = 0;
  ex_req = 0;
  sh_rep = 0;
  ex_rep = 0;
  renew_rep = 0;
  upgrade_rep = 0;
  flush_req = 0;
  wb_req = 0;
  flush_rep = 0;
  wb_rep = 0;
  dram_ld = 0;
  dram_ld_rep = 0;
  dram_st = 0;
  dram_st_rep = 0;
}

-- a message counts by its kind
abbrev pub with_kind : KindCounts → Body → KindCounts
with_kind n (ShReq pts version) = record n { sh_req = more n.sh_req }
with_kind n (ExReq version) = record n { ex_req = more n.ex_req }
with_kind n (ShRep line) = record n { sh_rep = more n.sh_rep }
with_kind n (ExRep line) = record n { ex_rep = more n.ex_rep }
with_kind n (RenewRep rts) = record n { renew_rep = more n.renew_rep }
with_kind n (UpgradeRep rts) = record n { upgrade_rep = more n.upgrade_rep }
with_kind n FlushReq = record n { flush_req = more n.flush_req }
with_kind n (WbReq rts) = record n { wb_req = more n.wb_req }
with_kind n (FlushRep line) = record n { flush_rep = more n.flush_rep }
with_kind n (WbRep line) = record n { wb_rep = more n.wb_rep }
with_kind n DramLd = record n { dram_ld = more n.dram_ld }
with_kind n (DramLdRep words) = record n { dram_ld_rep = more n.dram_ld_rep }
with_kind n (DramSt words) = record n { dram_st = more n.dram_st }
with_kind n DramStRep = record n { dram_st_rep = more n.dram_st_rep }

-- nothing is counted of a part, or of a core
abbrev pub no_part_counts : PartCounts
no_part_counts = record { evictions = 0; held = 0; dropped = 0; sent = no_kinds }

abbrev pub no_core_counts : CoreCounts
no_core_counts = record {
  loads = 0;
  stores = 0;
  swaps = 0;
  hits = 0;
  cold = 0;
  evicted = 0;
  recalled = 0;
  ended = 0;
  shared = 0;
  asked = None;
  returns = 0;
  reloads = 0;
  last_time = 0;
  part = no_part_counts;
}

-- a message is sent by a part or to it
abbrev pub with_body : Body → PartCounts → PartCounts
with_body body n = record n { sent = with_kind n.sent body }

-- this happens at a part
abbrev pub with_happening : Happening → PartCounts → PartCounts
with_happening happening.Evicted n = record n { evictions = more n.evictions }
with_happening happening.Held n = record n { held = more n.held }
with_happening happening.Dropped n = record n { dropped = more n.dropped }
with_happening (happening.Sent body) n = with_body body.now n

-- the part that a core is
abbrev pub in_part : (PartCounts → PartCounts) → CoreCounts → CoreCounts
in_part change n = record n { part = change n.part }

-- an operation counts by its kind
abbrev pub with_op : CoreCounts → Op → CoreCounts
with_op n (Load a) = record n { loads = more n.loads }
with_op n (Store a v) = record n { stores = more n.stores }
with_op n (Swap a v) = record n { swaps = more n.swaps }

-- it is a hit if no request was sent for it, and a miss by the cause of its first request if one was
abbrev pub with_end : CoreCounts → Option Cause → CoreCounts
with_end n None = record n { hits = more n.hits }
with_end n (Some Cold) = record n { cold = more n.cold }
with_end n (Some Evicted) = record n { evicted = more n.evicted }
with_end n (Some Recalled) = record n { recalled = more n.recalled }
with_end n (Some Ended) = record n { ended = more n.ended }
with_end n (Some Shared) = record n { shared = more n.shared }

-- an operation completes
abbrev pub completed : Record → CoreCounts → CoreCounts
completed done n =
    record (with_op (with_end n n.asked) done.op) { asked = None; last_time = max n.last_time done.ts }

-- a request is sent; the cause of the first one for the operation stays
abbrev pub first_cause : Option Cause → Cause → Cause
first_cause None cause = cause
first_cause (Some first) cause = first

abbrev pub asked : Cause → CoreCounts → CoreCounts
asked cause n = record n { asked = Some (first_cause n.asked cause) }

-- a line goes back because its copy is evicted
abbrev pub returned_line : CoreCounts → CoreCounts
returned_line n = record n { returns = more n.returns }

-- words are sent to a core that has a copy of the line
abbrev pub reloaded_line : CoreCounts → CoreCounts
reloaded_line n = record n { reloads = more n.reloads }

-- the counts of a run
pub record EventCounts : Type 0 where
  pub cores : List CoreCounts
  pub banks : List PartCounts
  -- the events; the deliveries that were held, and those that were dropped
  pub events : ℕ
  pub held : ℕ
  pub dropped : ℕ
  -- the messages with smaller numbers are counted
  pub next : ℕ

-- nothing is counted, of so many cores and banks
abbrev pub no_counts : ℕ → ℕ → EventCounts
no_counts cores banks = record {
  cores = replicate cores no_core_counts;
  banks = replicate banks no_part_counts;
  events = 0;
  held = 0;
  dropped = 0;
  next = 0;
}

-- what is at an index changes, if something is there
abbrev pub with_one : {X : Type 0} → List X → ℕ → (X → X) → Option X → List X
with_one xs at change None = xs
with_one xs at change (Some x) = slice_set xs at (change x)

abbrev pub changed_at : {X : Type 0} → List X → ℕ → (X → X) → List X
changed_at xs at change = with_one xs at change (slice_get xs at)

abbrev pub at_core : EventCounts → ℕ → (CoreCounts → CoreCounts) → EventCounts
at_core n core change = record n { cores = changed_at n.cores core change }

abbrev pub at_bank : EventCounts → ℕ → (PartCounts → PartCounts) → EventCounts
at_bank n bank change = record n { banks = changed_at n.banks bank change }

-- a part changes at a node, if that is a core or a bank
abbrev pub at_node : EventCounts → Node → (PartCounts → PartCounts) → EventCounts
at_node n (node.Core core) change = at_core n core (in_part change)
at_node n (node.Bank bank) change = at_bank n bank change
at_node n (node.Dram bank) change = n

-- a message counts at its core, if it has one, and at its bank
abbrev pub at_ends : EventCounts → Message → EventCounts
at_ends n message = at_node (at_node n message.from (with_body message.body)) message.to (with_body message.body)

-- a message was sent: it had the next number
abbrev pub sent : EventCounts → Message → EventCounts
sent n message = record (at_ends n message) { next = more n.next }

-- a delivery to a node is held, or its message is dropped
abbrev pub at_some : EventCounts → Option Node → (PartCounts → PartCounts) → EventCounts
at_some n None change = n
at_some n (Some node) change = at_node n node change

abbrev pub held : EventCounts → Option Node → EventCounts
held n to = at_some (record n { held = more n.held }) to (with_happening happening.Held)

abbrev pub dropped : EventCounts → Option Node → EventCounts
dropped n to = at_some (record n { dropped = more n.dropped }) to (with_happening happening.Dropped)

-- the operations of a core that completed, by their kinds; and the hits with the misses
abbrev pub operations : CoreCounts → ℕ
operations n = n.loads + n.stores + n.swaps

abbrev pub hits_and_misses : CoreCounts → ℕ
hits_and_misses n = n.hits + n.cold + n.evicted + n.recalled + n.ended + n.shared

-- a core that is counted completed so many operations, and each was a hit or a miss
abbrev pub HasCompleted : ℕ → Option CoreCounts → Type 0
HasCompleted done None = ⊥
HasCompleted done (Some n) = (operations n ≡ done) × (hits_and_misses n ≡ done)
