-- What an event makes of the machine's state, by its answer.
use Rattle.machine_table.specs.declared.event.Answer.{Answer}
use Rattle.machine_table.specs.declared.event.Answer.TheVariants.{Issued, Completed, Requested, Waiting, Idle}
use Rattle.machine_table.specs.declared.event.Answer.TheVariants.{Delivered, Dropped, Held, Started, Evicted}
use Rattle.machine_table.specs.declared.event.Answer.TheVariants.{Recalled, Advanced, Refused}
use Rattle.machine_table.specs.Machine.{Machine}
use Rattle.machine_theorem.specs.States.{State, Same, seen}
use Rattle.machine_theorem.specs.Moves.{Move}

-- a move leads to the state of the machine afterwards
pub record IsMove (m after : Machine) : Type 0 where
  pub to : State
  pub move : Move m.config (seen m) to
  pub same : Same to (seen after)

-- waiting, idle, held and refused change nothing of the state; every other answer is a move
abbrev pub Effect : Machine → Answer → Machine → Type 0
Effect m Waiting after = Same (seen m) (seen after)
Effect m Idle after = Same (seen m) (seen after)
Effect m Held after = Same (seen m) (seen after)
Effect m (Refused why) after = Same (seen m) (seen after)
Effect m Issued after = IsMove m after
Effect m (Completed done) after = IsMove m after
Effect m Requested after = IsMove m after
Effect m Delivered after = IsMove m after
Effect m Dropped after = IsMove m after
Effect m Started after = IsMove m after
Effect m Evicted after = IsMove m after
Effect m Recalled after = IsMove m after
Effect m Advanced after = IsMove m after
