-- A `&` to a claim shows nothing.
use denote.RattleType.{RattleType}
use denote.RawPtr.{RawPtr}
use denote.Param.Laws.{Laws}
use denote.Param.Shared.{copy_shared}
use denote.SharingLaws.{nothing_shr_laws}
use denote.Struct.Laws.{field_copy}
use denote.Struct.Lending.{of_Lends, Lends-nothing}
use Rattle.core.specs.declared.alloc.Allocator.{Ghosts}
use Rattle.core.specs.contracts.marker.PhantomData as marker
use Rattle.line_arena.specs.contracts.cells.Claim as claim
use Rattle.line_arena.proofs.cells.Claim.TheLaw.Statement.{statement}

pub shares : (R A : RattleType) (g : Ghosts A.Denot) (L : Laws R) (Z : Laws A) → statement R A g L Z
shares R A g L Z =
    of_Lends (claim.struct R A g) (claim.the_codes R.Denot A.Denot R.coded A.coded (marker.the_row RawPtr).coded)
    (claim.the_heap R A g)
    (claim.the_lent R A g) (λ d p. nothing_shr_laws) (
      copy_shared (marker.the_field RawPtr)
          (field_copy (marker.the_type RawPtr) tt),
      tt,
    )
    (λ M 𝓤 𝓛 d p. Lends-nothing 𝓛 (claim.the_heap R A g d) (claim.the_row R A g).lives)
