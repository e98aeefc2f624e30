-- There are as many cores and banks in the counts as before.
use Rattle.std.proofs.Common.{◌≡◌, ℕ, List, length, Option, Some, None, refl, sym, ◌∙◌}
use Rattle.std.specs.List.{slice_get}
use Rattle.std.proofs.lemmas.List.{length-set}
use Rattle.network.specs.declared.message.Message.{Message}
use Rattle.network.specs.declared.message.Node.{Node}
use Rattle.machine_table.specs.declared.event.Event.{Event}
use Rattle.machine_table.specs.declared.event.Answer.{Answer}
use Rattle.machine_table.specs.Machine.{Machine}
use Rattle.event_counts.specs.declared.part_counts.CoreCounts.{CoreCounts}
use Rattle.event_counts.specs.Counts.{EventCounts, at_core, changed_at, completed, more, with_one}
use Rattle.event_counts.specs.Losses.{Lost}
use Rattle.event_counts.specs.Counting.{FitsIn, answered, seen}
use Rattle.event_counts.proofs.KeptCounts.{IsKept, answered_keeps, followed, sent_keeps}

same_length : {X : Type 0} (xs : List X) (at : ℕ) (change : X → X) → length (changed_at xs at change) ≡ length xs
same_length {X = X} xs at change = by (slice_get xs at)
  where
    by : (o : Option X) → length (with_one xs at change o) ≡ length xs
    by None = refl
    by (Some x) = length-set xs at (change x)

module _ (spare : EventCounts) where
  abbrev Fits : EventCounts → Type 0
  Fits n = FitsIn n (Some spare)

  core_fits : (n : EventCounts) (core : ℕ) (change : CoreCounts → CoreCounts) → Fits n → Fits (at_core n core change)
  core_fits n core change has = (has.0 ∙ sym (same_length n.cores core change), has.1)

  fits_kept : IsKept Fits
  fits_kept = record {
    told = λ n events held dropped has. has;
    at_cores = λ n core change leaves has. core_fits n core change has;
    at_banks = λ n bank change has. (has.0, has.1 ∙ sym (same_length n.banks bank change));
  }

  message_fits : (n : EventCounts) (lost : Lost) (to : Option Node) (e : Event) (a : Answer) (after : Machine)
      (o : Option Message) → Fits n → Fits (seen n lost to e a after o)
  message_fits n lost to e a after o has = by o
    where
      told : Fits (answered (record n { events = more n.events }) lost to e a after)
      told = answered_keeps Fits fits_kept (λ k r fits. core_fits k r.core (completed r) fits)
          (record n { events = more n.events }) lost to e a after has

      by : (o : Option Message) → Fits (seen n lost to e a after o)
      by None = told
      by (Some x) = followed Fits fits_kept _ after e x (sent_keeps Fits fits_kept (λ k next fits. fits) _ x told)

-- counts that fit still do after an event
pub seen_fits : (spare : Option EventCounts) (n : EventCounts) (lost : Lost) (to : Option Node) (e : Event) (a : Answer)
    (after : Machine) (o : Option Message) → FitsIn n spare → FitsIn (seen n lost to e a after o) spare
seen_fits None n lost to e a after o has = has
seen_fits (Some spare) n lost to e a after o has = message_fits spare n lost to e a after o has
