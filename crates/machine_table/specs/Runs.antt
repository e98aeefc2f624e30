-- Lists of events, one after the other.
use Rattle.std.specs.Prelude.{List, [], ◌∷◌}
use Rattle.machine_table.specs.declared.event.Event.{Event}
use Rattle.machine_table.specs.Machine.{Machine}
use Rattle.machine_table.specs.Transition.{transition}

-- the machine after a list of events, refused ones included
abbrev pub after_all : Machine → List Event → Machine
after_all m [] = m
after_all m (event ∷ events) = after_all (transition m event).1 events
