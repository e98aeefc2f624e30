-- What a watcher makes of a run's answered events, which it is shown one after the other.
use Rattle.std.specs.Prelude.{◌≡◌, Bool, true, false, List, [], ◌∷◌, ◌++◌}
use Rattle.machine_table.specs.declared.event.Event.{Event}
use Rattle.machine_table.specs.declared.event.Answer.{Answer}
use Rattle.machine_table.specs.Machine.{Machine}
use Rattle.machine_table.specs.Runs.{after_all}
use Rattle.machine_table.specs.Transition.{transition}

pub record Watches (W : Type 0) : Type 1 where
  -- what a watcher has seen, and what it has once it is shown one event more: the machine before it, the event, its
  -- answer and the machine after it
  pub Seen : Type 0
  pub seen : W → Seen
  pub sees : Seen → Machine → Event → Answer → Machine → Seen
  -- that it is ready for an event of a machine, and whether to make ready may ask for memory
  pub IsReady : W → Machine → Event → Type 0
  pub asks : Bool

-- what it has seen once it was shown each of these events in turn, from this machine on
abbrev pub watched : {W : Type 0} (watches : Watches W) → watches.Seen → Machine → List Event → watches.Seen
watched watches seen m [] = seen
watched watches seen m (event ∷ events) =
    let next = transition m event in watched watches (watches.sees seen m event next.0 next.1) next.1 events

-- the events lead from a machine to another, and a watcher that had seen so much before was shown them
pub record AreSeen {W : Type 0} (watches : Watches W) (before : watches.Seen) (start : Machine) (events : List Event)
    (m : Machine) (watcher : W) : Type 0 where
  pub leads : m ≡ after_all start events
  pub seen : watches.seen watcher ≡ watched watches before start events

-- a watcher that is itself what it has seen, and takes no memory
abbrev pub sees_by : {W : Type 0} → (W → Machine → Event → Answer → Machine → W) → Watches W
sees_by {W} sees = record {
  Seen = W;
  seen = λ watcher. watcher;
  sees = sees;
  IsReady = λ watcher m event. Unit {0};
  asks = false;
}

-- one that keeps the events in a list, and is ready where it has room
abbrev pub keeps_events : {W : Type 0} → (W → List Event) → (W → Type 0) → Watches W
keeps_events events has_room = record {
  Seen = List Event;
  seen = events;
  sees = λ seen m event answer after. seen ++ event ∷ [];
  IsReady = λ watcher m event. has_room watcher;
  asks = true;
}
