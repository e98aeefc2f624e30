use denote.RattleType.{RattleType}
use denote.Param.Send.{IsSync}
use Rattle.core.specs.declared.alloc.Allocator.{Ghosts}
use Rattle.line_arena.proofs.Threads.{claim_sync}
use Rattle.line_arena.specs.contracts.cells.Claim.{the_row}

pub sync : (R A : RattleType) (g : Ghosts A.Denot) → IsSync (the_row R A g)
sync R A g = claim_sync R A g
