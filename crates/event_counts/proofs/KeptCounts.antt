-- What counts keep, whatever else an answer and a message add to them.
use Rattle.std.proofs.Common.{◌≡◌, ℕ, Bool, true, false, Option, Some, None, if◌then◌else◌, refl}
use Rattle.physiological_order.specs.declared.operation.Record.{Record}
use Rattle.network.specs.declared.message.Body.{Body}
use Rattle.network.specs.declared.message.Body.TheVariants as body
use Rattle.network.specs.declared.message.Message.{Message}
use Rattle.network.specs.declared.message.Node.{Node}
use Rattle.network.specs.declared.message.Node.TheVariants as node
use Rattle.machine_table.specs.declared.event.Event.{Event}
use Rattle.machine_table.specs.declared.event.Event.TheVariants as event
use Rattle.machine_table.specs.declared.event.Answer.{Answer}
use Rattle.machine_table.specs.declared.event.Answer.TheVariants as answer
use Rattle.machine_table.specs.Machine.{Machine}
use Rattle.std.specs.List.{slice_get}
use Rattle.event_counts.specs.declared.part_counts.CoreCounts.{CoreCounts}
use Rattle.event_counts.specs.declared.part_counts.PartCounts.{PartCounts}
use Rattle.event_counts.specs.declared.part_counts.Happening.TheVariants as happening
use Rattle.event_counts.specs.Counts.{EventCounts, asked, at_bank, at_core, at_node, at_some, completed, dropped}
use Rattle.event_counts.specs.Counts.{held, hits_and_misses, in_part, more, operations, reloaded_line, returned_line}
use Rattle.event_counts.specs.Counts.{sent, with_body, with_happening}
use Rattle.event_counts.specs.Losses.{Lost, has_copy}
use Rattle.event_counts.specs.Counting.{Counter, answered, cause_of, evicted, reloaded, requested, returned}
use Rattle.event_counts.specs.Counting.{returned_by, with_row}

-- a change of a core's counts that leaves its operations, and its hits and misses
abbrev pub Leaves : (CoreCounts → CoreCounts) → Type 0
Leaves change =
    (x : CoreCounts) → (operations (change x) ≡ operations x) × (hits_and_misses (change x) ≡ hits_and_misses x)

-- what stays with the counts, but perhaps where an operation completes or a message gets the next number
pub record IsKept (P : EventCounts → Type 0) : Type 0 where
  pub told : (n : EventCounts) (events held dropped : ℕ) → P n →
      P (record n { events = events; held = held; dropped = dropped })
  pub at_cores : (n : EventCounts) (core : ℕ) (change : CoreCounts → CoreCounts) → Leaves change → P n →
      P (at_core n core change)
  pub at_banks : (n : EventCounts) (bank : ℕ) (change : PartCounts → PartCounts) → P n → P (at_bank n bank change)

module _ (P : EventCounts → Type 0) (kept : IsKept P) where
  node_keeps : (n : EventCounts) (to : Node) (change : PartCounts → PartCounts) → P n → P (at_node n to change)
  node_keeps n (node.Core core) change has = kept.at_cores n core (in_part change) (λ x. (refl, refl)) has
  node_keeps n (node.Bank bank) change has = kept.at_banks n bank change has
  node_keeps n (node.Dram bank) change has = has

  some_keeps : (n : EventCounts) (to : Option Node) (change : PartCounts → PartCounts) → P n → P (at_some n to change)
  some_keeps n None change has = has
  some_keeps n (Some to) change has = node_keeps n to change has

  -- a message gets the next number
  pub sent_keeps : ((n : EventCounts) (next : ℕ) → P n → P (record n { next = next })) →
      (n : EventCounts) (x : Message) → P n → P (sent n x)
  sent_keeps numbered n x has = numbered _ (more n.next)
      (node_keeps (at_node n x.from (with_body x.body)) x.to (with_body x.body)
      (node_keeps n x.from (with_body x.body) has))

  pub requested_keeps : (n : EventCounts) (lost : Lost) (m : Machine) (e : Event) → P n → P (requested n lost m e)
  requested_keeps n lost m (event.Attempt core) has =
      kept.at_cores n core (asked (cause_of lost core (slice_get m.cores core))) (λ x. (refl, refl)) has
  requested_keeps n lost m _ has = has

  pub evicted_keeps : (n : EventCounts) (e : Event) → P n → P (evicted n e)
  evicted_keeps n (event.EvictCache core line) has =
      node_keeps n (node.Core core) (with_happening happening.Evicted) has
  evicted_keeps n (event.EvictBank bank line) has =
      node_keeps n (node.Bank bank) (with_happening happening.Evicted) has
  evicted_keeps n _ has = has

  pub held_keeps : (n : EventCounts) (to : Option Node) → P n → P (held n to)
  held_keeps n to has = some_keeps (record n { held = more n.held }) to (with_happening happening.Held)
      (kept.told n n.events (more n.held) n.dropped has)

  pub dropped_keeps : (n : EventCounts) (to : Option Node) → P n → P (dropped n to)
  dropped_keeps n to has = some_keeps (record n { dropped = more n.dropped }) to (with_happening happening.Dropped)
      (kept.told n n.events n.held (more n.dropped) has)

  -- an answer, if a completed operation keeps it, too
  pub answered_keeps : ((n : EventCounts) (r : Record) → P n → P (at_core n r.core (completed r))) →
      (n : EventCounts) (lost : Lost) (to : Option Node) (e : Event) (a : Answer) (after : Machine) → P n →
      P (answered n lost to e a after)
  answered_keeps completes n lost to e (answer.Completed r) after has = completes n r has
  answered_keeps completes n lost to e answer.Requested after has = requested_keeps n lost after e has
  answered_keeps completes n lost to e answer.Evicted after has = evicted_keeps n e has
  answered_keeps completes n lost to e answer.Held after has = held_keeps n to has
  answered_keeps completes n lost to e answer.Dropped after has = dropped_keeps n to has
  answered_keeps completes n lost to e _ after has = has

  returned_by_keeps : (n : EventCounts) (core : ℕ) (b : Body) → P n → P (returned_by n core b)
  returned_by_keeps n core (body.FlushRep line) has = kept.at_cores n core returned_line (λ x. (refl, refl)) has
  returned_by_keeps n core (body.WbRep line) has = kept.at_cores n core returned_line (λ x. (refl, refl)) has
  returned_by_keeps n core _ has = has

  returned_keeps : (n : EventCounts) (e : Event) (b : Body) → P n → P (returned n e b)
  returned_keeps n (event.EvictCache core line) b has = returned_by_keeps n core b has
  returned_keeps n _ b has = has

  reloaded_keeps : (n : EventCounts) (m : Machine) (to : Node) (line : ℕ) (b : Body) → P n →
      P (reloaded n m to line b)
  reloaded_keeps n m (node.Core core) line (body.ShRep words) has = by (has_copy (slice_get m.cores core) line)
    where
      by : (there : Bool) → P (if there then at_core n core reloaded_line else n)
      by true = kept.at_cores n core reloaded_line (λ x. (refl, refl)) has
      by false = has
  reloaded_keeps n m _ line _ has = has

  -- what a message adds, behind its number
  pub followed : (n : EventCounts) (m : Machine) (e : Event) (x : Message) → P n →
      P (returned (reloaded n m x.to x.line x.body) e x.body)
  followed n m e x has = returned_keeps _ e x.body (reloaded_keeps n m x.to x.line x.body has)

-- a row leaves the counts, and the copies that are lost
pub row_counts : (k : Counter) (due : Bool) → (with_row k due).counts ≡ k.counts
row_counts k true = refl
row_counts k false = refl
