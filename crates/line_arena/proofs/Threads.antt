-- A row of places may go to another thread if its values may, and the claim to a block if its allocator may.
use Rattle.std.specs.Prelude.{ℕ, ◌+◌, List, [], ◌∷◌, Option, Some, None}
use Rattle.std.specs.Mem.{type_size}
use base.Fraction.{full_share}
use base.Shift.{Keyless}
use denote.RattleType.{RattleType}
use denote.RawPtr.{Ptr, block_ptr, null_ptr}
use denote.Struct.Struct.{exits_of}
use denote.Struct.Owning.{shape, fields, to}
use denote.Param.Send.{IsSend, IsSync, Common, AllSend, part_keyless, owning_send, struct_send, struct_sync, sendable}
use Rattle.core.specs.declared.alloc.Allocator.{Ghosts}
use Rattle.std_alloc.proofs.SendSync.{FreesAnywhere, quiet}
use Rattle.line_arena.specs.Ownership.{slots_at, row_at, lent_slots_at, lent_row_at}
use Rattle.line_arena.specs.contracts.cells.Cells as cells
use Rattle.line_arena.specs.contracts.cells.Claim as claim

module _ (R : RattleType) where
  -- what the row owns belongs to no thread
  slots_go : IsSend R → (cs : List (Option R.Denot)) (b o : ℕ) → Keyless (slots_at R b o cs)
  slots_go send [] b o = tt
  slots_go send (None ∷ cs) b o = (tt, slots_go send cs b (o + type_size R))
  slots_go send (Some x ∷ cs) b o = (part_keyless R send full_share x b o, slots_go send cs b (o + type_size R))

  row_goes : IsSend R → (p : Ptr) (cs : List (Option R.Denot)) → Keyless (row_at R p cs)
  row_goes send null_ptr cs = tt
  row_goes send (block_ptr b o) cs = (tt, slots_go send cs b o)

  -- nor does what a `&` to it shows
  slots_seen : IsSync R → (cs : List (Option R.Denot)) (b o : ℕ) → Common (lent_slots_at R b o cs)
  slots_seen sync [] b o κ = tt
  slots_seen sync (None ∷ cs) b o κ = (tt, slots_seen sync cs b (o + type_size R) κ)
  slots_seen sync (Some x ∷ cs) b o κ = (sync.shared x b o κ, slots_seen sync cs b (o + type_size R) κ)

  row_seen : IsSync R → (p : Ptr) (cs : List (Option R.Denot)) → Common (lent_row_at R p cs)
  row_seen sync null_ptr cs κ = tt
  row_seen sync (block_ptr b o) cs κ = (tt, slots_seen sync cs b o κ)

  pub cells_send : IsSend R → IsSend (cells.the_row R)
  cells_send send =
      let S = cells.the_type R in let each : AllSend (fields S) = (search sendable, tt) in
      owning_send S each (λ d. row_goes send d.at d.slots) (λ k. quiet (to S) (exits_of k (fields S))
      ((struct_send (shape S) each).leaving k))

  pub cells_sync : IsSync R → IsSync (cells.the_row R)
  cells_sync sync =
      let S = cells.the_type R in let plain = struct_sync (shape S) (search sendable, tt) in
      record { shared = λ d b o κ. (plain.shared (to S d) b o κ, row_seen sync d.at d.slots κ) }

  module _ (A : RattleType) (g : Ghosts A.Denot) where
    pub claim_send : FreesAnywhere A.Denot g → IsSend (claim.the_row R A g)
    claim_send anywhere =
        let S = claim.the_type R A g in let each : AllSend (fields S) = (search sendable, tt) in
        owning_send S each (λ d. anywhere.frees d.alloc _ d.at) (λ k. quiet (to S) (exits_of k (fields S))
        ((struct_send (shape S) each).leaving k))

    pub claim_sync : IsSync (claim.the_row R A g)
    claim_sync =
        let S = claim.the_type R A g in let plain = struct_sync (shape S) (search sendable, tt) in
        record { shared = λ d b o κ. (plain.shared (to S d) b o κ, tt) }
