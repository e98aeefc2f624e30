use denote.RattleType.{RattleType}
use denote.Param.Send.{IsSync}
use Rattle.line_arena.proofs.Threads.{cells_sync}
use Rattle.line_arena.specs.contracts.cells.Cells.{the_row}

pub sync : (R : RattleType) → IsSync R → IsSync (the_row R)
sync R value = cells_sync R value
