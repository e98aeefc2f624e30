-- A reply to a core's request, and that the core's operation is then completed by its next attempt.
use Rattle.std.specs.Prelude.{◌≡◌, ◌≢◌, ◌⊎◌, ℕ, true, List, [], ◌∷◌, None, slice_get}
use Rattle.std.specs.List.{AllByRecursion}
use Rattle.physiological_order.specs.declared.operation.Op.{Op}
use Rattle.network.specs.declared.message.Body.{Body}
use Rattle.network.specs.declared.message.Body.TheVariants.{ShRep, ExRep, RenewRep, UpgradeRep}
use Rattle.machine_table.specs.declared.event.Event.{Event}
use Rattle.machine_table.specs.declared.event.Event.TheVariants.{Attempt, Advance}
use Rattle.machine_table.specs.Machine.{Machine, operation_of}
use Rattle.machine_table.specs.Runs.{after_all}
use Rattle.machine_table.specs.Transition.{transition}
use Rattle.machine_theorem.specs.Unstuck.{CompletesIn}

abbrev pub IsReply : Body → Type 0
IsReply (ShRep line) = Unit {0}
IsReply (ExRep line) = Unit {0}
IsReply (RenewRep rts) = Unit {0}
IsReply (UpgradeRep rts) = Unit {0}
IsReply _ = ⊥

-- a core's time goes on by itself only between operations, as it does by rounds
abbrev pub IsBetween : Machine → Event → Type 0
IsBetween m (Advance core) = operation_of (slice_get m.cores core) ≡ None
IsBetween m _ = Unit {0}

abbrev pub AdvancesBetween : Machine → List Event → Type 0
AdvancesBetween m [] = Unit {0}
AdvancesBetween m (event ∷ events) = IsBetween m event × AdvancesBetween (transition m event).1 events

-- no attempt of this core, and no advance of its time
abbrev pub IsAside : ℕ → Event → Type 0
IsAside core (Attempt c) = c ≢ core
IsAside core (Advance c) = c ≢ core
IsAside core _ = Unit {0}

-- whatever events come that are no attempt or advance of the core, its next attempt completes its operation; or the
-- machine is stopped then, since a time of the attempt, or of one of these events, doesn't fit
abbrev pub IsAnswered : ℕ → Op → Machine → Type 0
IsAnswered core op m =
    (events : List Event) → AllByRecursion (IsAside core) events →
    let n = after_all m events in let last = (transition n (Attempt core)).1 in
    CompletesIn core op n last ⊎ (last.is_stopped ≡ true)
