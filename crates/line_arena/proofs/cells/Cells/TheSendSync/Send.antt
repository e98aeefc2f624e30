use denote.RattleType.{RattleType}
use denote.Param.Send.{IsSend}
use Rattle.line_arena.proofs.Threads.{cells_send}
use Rattle.line_arena.specs.contracts.cells.Cells.{the_row}

pub send : (R : RattleType) → IsSend R → IsSend (the_row R)
send R value = cells_send R value
