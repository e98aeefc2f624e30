use denote.RattleType.{RattleType}
use denote.Param.Send.{IsSend, Frees}
use Rattle.core.specs.declared.alloc.Allocator.{Ghosts}
use Rattle.line_arena.proofs.Threads.{claim_send}
use Rattle.line_arena.specs.contracts.cells.Claim.{the_row}

pub send : (R A : RattleType) (g : Ghosts A.Denot) → IsSend A → Frees g g.dealloc_token → IsSend (the_row R A g)
send R A g handle anywhere = claim_send R A g anywhere
