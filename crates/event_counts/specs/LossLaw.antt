-- Which of a run's events took a core's copy of a line, and so why the core needs a request for it.
use Rattle.std.specs.Prelude.{◌≡◌, ◌⊎◌, ℕ, Bool, true, false, List, [], ◌∷◌, ◌++◌, Option, Some, None, slice_get}
use Rattle.physiological_order.specs.declared.operation.Op.{Op}
use Rattle.physiological_order.specs.declared.operation.Op.TheVariants.{Load}
use Rattle.machine_table.specs.declared.event.Event.{Event}
use Rattle.machine_table.specs.Machine.{Machine}
use Rattle.machine_table.specs.Runs.{after_all}
use Rattle.machine_table.specs.Transition.{transition}
use Rattle.event_counts.specs.declared.cause.Cause.{Cause}
use Rattle.event_counts.specs.declared.cause.Cause.TheVariants as cause
use Rattle.event_counts.specs.Losses.{has_copy, taken_by}

-- an event takes the copy: it is there before the event, and not after it
pub record Takes (m : Machine) (event : Event) (core line : ℕ) : Type 0 where
  pub before : has_copy (slice_get m.cores core) line ≡ true
  pub after : has_copy (slice_get (transition m event).1.cores core) line ≡ false

-- none of these events takes it
abbrev pub NoneTakes : Machine → List Event → ℕ → ℕ → Type 0
NoneTakes m [] core line = Unit {0}
NoneTakes m (event ∷ events) core line =
    (Takes m event core line → ⊥) × NoneTakes (transition m event).1 events core line

-- one of these events takes it so, and none behind it does
pub record IsLastTaken (m : Machine) (events : List Event) (core line : ℕ) (why : Cause) : Type 0 where
  pub before : List Event
  pub event : Event
  pub after : List Event
  pub split : events ≡ before ++ event ∷ after
  pub takes : Takes (after_all m before) event core line
  pub so : why ≡ taken_by event
  pub last : NoneTakes (transition (after_all m before) event).1 after core line

-- what is noted of a core and a line tells that
abbrev pub TellsLoss : Machine → List Event → ℕ → ℕ → Option Cause → Type 0
TellsLoss m events core line None = NoneTakes m events core line
TellsLoss m events core line (Some why) = IsLastTaken m events core line why

-- the core has no copy of the line before these events, and none after any of them
abbrev pub NeverHas : Machine → List Event → ℕ → ℕ → Type 0
NeverHas m [] core line = has_copy (slice_get m.cores core) line ≡ false
NeverHas m (event ∷ events) core line =
    (has_copy (slice_get m.cores core) line ≡ false) × NeverHas (transition m event).1 events core line

-- why a core needs a request for an operation on a line, behind these events: it has a copy of the line, or it never
-- had one, or an event took the last one so
abbrev pub IsCause : Machine → List Event → ℕ → ℕ → Op → (has : Bool) → Cause → Type 0
IsCause m events core line (Load a) true why = why ≡ cause.Ended
IsCause m events core line _ true why = why ≡ cause.Shared
IsCause m events core line op false why =
    ((why ≡ cause.Cold) × NeverHas m events core line) ⊎ IsLastTaken m events core line why
