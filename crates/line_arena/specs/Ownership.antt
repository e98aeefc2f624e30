-- What the owner of a row of places has, and what a `&` to the row shows. R is the row of the values' type.
use Rattle.std.specs.Prelude.{ℕ, ◌+◌, ◌*◌, ◌^◌, List, [], ◌∷◌, length, Option, Some, None}
use Rattle.std.specs.Mem.{type_size}
use base.Fraction.{full_share}
use base.Fml.{Lft, Fml, ftrue, ffalse, fsep, flt, froom}
use mir.Syntax.{Ty, ty_array}
use mir.Raw.{raw as bare}
use denote.RattleType.{RattleType}
use denote.Memory.{lone, part_at, shared_of}
use denote.Sharing.{nothing, said, beside}
use denote.RawPtr.{Ptr, block_ptr, null_ptr}

module _ (R : RattleType) where
  -- The place at the byte o of the block b is its value, or room for one.
  abbrev pub slot_at : ℕ → ℕ → Option R.Denot → Fml
  slot_at b o None = froom (bare (lone R.mir)) b o
  slot_at b o (Some x) = part_at R full_share x b o

  -- Places lie one after the other.
  abbrev pub slots_at : ℕ → ℕ → List (Option R.Denot) → Fml
  slots_at b o [] = ftrue
  slots_at b o (c ∷ cs) = fsep (slot_at b o c) (slots_at b (o + type_size R) cs)

  -- A row takes fewer than 2 ^ 63 bytes, so no address in it wraps.
  abbrev pub is_short : List (Option R.Denot) → Fml
  is_short cs = flt (length cs * type_size R) (2 ^ 63)

  -- A row is never at null.
  abbrev pub row_at : Ptr → List (Option R.Denot) → Fml
  row_at null_ptr cs = ffalse
  row_at (block_ptr b o) cs = fsep (is_short cs) (slots_at b o cs)

  -- Through a `&` the values are shared, and an empty place is nothing.
  abbrev pub lent_slot_at : ℕ → ℕ → Option R.Denot → Lft → Fml
  lent_slot_at b o None = nothing
  lent_slot_at b o (Some x) = shared_of R x b o

  abbrev pub lent_slots_at : ℕ → ℕ → List (Option R.Denot) → Lft → Fml
  lent_slots_at b o [] = nothing
  lent_slots_at b o (c ∷ cs) = beside (lent_slot_at b o c) (lent_slots_at b (o + type_size R) cs)

  abbrev pub lent_row_at : Ptr → List (Option R.Denot) → Lft → Fml
  lent_row_at null_ptr cs = said ffalse
  lent_row_at (block_ptr b o) cs = beside (said (is_short cs)) (lent_slots_at b o cs)

  -- What the allocator takes back for a block of n places.
  abbrev pub block_claim : (Ty → Ptr → Fml) → Ptr → ℕ → Fml
  block_claim token p n = token (bare (ty_array (lone R.mir) n)) p
