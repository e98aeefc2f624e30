-- A `&` to a row of places can be made, copied and used for a shorter time, since a `&` to each value can.
use Prim.Native.Nat.{ℕ, ◌+◌}
use Rattle.std.specs.Prelude.{List, [], ◌∷◌, Option, Some, None}
use Rattle.std.specs.Mem.{type_size}
use seplogic.Ra.Ura.{Ura}
use base.Fml.{Lft, Incl, ftrue, ffalse}
use types.Logic.{Logic}
use denote.RattleType.{RattleType, RowLaws}
use denote.Param.Laws.{Laws}
use denote.RawPtr.{Ptr, block_ptr, null_ptr}
use denote.Sharing.{ShrLaws, said}
use denote.SharingLaws.{beside_shr_laws, nothing_shr_laws, said_shr_laws}
use denote.Shares.{Shares-less}
use denote.Struct.Lending.{Lends, Lends-both, Lends-nothing, Lends-said, Lends-false}
use Rattle.line_arena.specs.Ownership.{slot_at, slots_at, is_short, row_at, lent_slot_at, lent_slots_at, lent_row_at}

-- it is copied and shortened
module _ (R : RattleType) (each : RowLaws R) where
  slot_shared : (c : Option R.Denot) (b o : ℕ) → ShrLaws (lent_slot_at R b o c)
  slot_shared None b o = nothing_shr_laws
  slot_shared (Some x) b o = each x b o

  slots_shared : (cs : List (Option R.Denot)) (b o : ℕ) → ShrLaws (lent_slots_at R b o cs)
  slots_shared [] b o = nothing_shr_laws
  slots_shared (c ∷ cs) b o = beside_shr_laws _ _ (slot_shared c b o) (slots_shared cs b (o + type_size R))

  pub row_shared : (p : Ptr) (cs : List (Option R.Denot)) → ShrLaws (lent_row_at R p cs)
  row_shared null_ptr cs = said_shr_laws ffalse tt
  row_shared (block_ptr b o) cs = beside_shr_laws _ _ (said_shr_laws (is_short R cs) tt) (slots_shared cs b o)

-- it is made of a borrow, for a lifetime l within that of the values
module _ (R : RattleType) (L : Laws R) (l : Lft) (within : Incl l R.lives) {M : Type 1} {𝓤 : Ura M}
    (𝓛 : Logic 𝓤) where
  slot_lends : (c : Option R.Denot) (b o : ℕ) → Lends 𝓛 (slot_at R b o c) (lent_slot_at R b o c) l
  slot_lends None b o = Lends-nothing 𝓛 (slot_at R b o None) l
  slot_lends (Some x) b o = λ κ borrow. Shares-less 𝓛 R R.lives l within (L.shares 𝓛) x κ borrow b o

  slots_lend : (cs : List (Option R.Denot)) (b o : ℕ) → Lends 𝓛 (slots_at R b o cs) (lent_slots_at R b o cs) l
  slots_lend [] b o = Lends-nothing 𝓛 ftrue l
  slots_lend (c ∷ cs) b o =
      let after = o + type_size R in
      Lends-both 𝓛 (slot_at R b o c) (slots_at R b after cs) (lent_slot_at R b o c) (lent_slots_at R b after cs) l
      (slot_lends c b o) (slots_lend cs b after)

  pub row_lends : (p : Ptr) (cs : List (Option R.Denot)) → Lends 𝓛 (row_at R p cs) (lent_row_at R p cs) l
  row_lends null_ptr cs = Lends-false 𝓛 (said ffalse) l
  row_lends (block_ptr b o) cs =
      let short = is_short R cs in
      Lends-both 𝓛 short (slots_at R b o cs) (said short) (lent_slots_at R b o cs) l (Lends-said 𝓛 short tt l)
      (slots_lend cs b o)
