-- The numbers of refusals.
use Rattle.std.specs.Prelude.{ℕ}
use Rattle.machine_table.specs.declared.event.Refusal.{Refusal}
use Rattle.machine_table.specs.declared.event.Refusal.TheVariants.{Busy, TooMany, NoSuch, NoRoom, Pinned, NetworkFull}
use Rattle.machine_table.specs.declared.event.Refusal.TheVariants.{NoMemory, Exhausted, Stopped}

abbrev pub number_of : Refusal → ℕ
number_of Busy = 1
number_of TooMany = 2
number_of NoSuch = 3
number_of NoRoom = 4
number_of Pinned = 5
number_of NetworkFull = 6
number_of NoMemory = 7
number_of Exhausted = 8
number_of Stopped = 9
