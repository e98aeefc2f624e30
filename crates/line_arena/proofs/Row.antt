-- A row of places as a proof by hand sees it: one place is taken out of the row, put back, or seen through a `&`.
--     base_tells, base_good, base_made, cells_tell, claim_tells, mark_made    machine values of a base, and of
-- structs without bytes
--     filled_within          a place that holds a value is in the row
--     slot_out, slot_in      one place apart from the others, and back
--     room_cut, room_joined  a block of room is a row of empty places
--     slot_seen              what a `&` to the row shows of one place
use Rattle.std.specs.Prelude.{◌≡◌, ℕ, zero, suc, ◌+◌, ◌*◌, ◌<◌, List, [], ◌∷◌, ◌++◌, length, get_or, replicate}
use Rattle.std.specs.Prelude.{Option, None}
use Rattle.std.specs.Mem.{type_size}
use Rattle.std.proofs.Common.{T, lit<, refl, sym, ap, ◌∙◌, arith}
use lib.ListN.{set}
use native.Mathlib.Nat.{zero-mul, suc-mul}
use seplogic.Ra.Ura.{Ura}
use base.Logic.{ent, sep, emp}
use base.Fml.{Fml, Lft, ftrue, fsep, froom}
use mir.Syntax.{ty_array}
use mir.Val.{Val, vstruct, vcons, vnil, of_list, has_ty, WT}
use types.Logic.{Logic, sem}
use types.Kit.{‵, ◌⊛◌, ◌$◌, ◌∵◌, !, qed, by, move, keep, use1, use2, split, frame, fsplit, fjoin, drop, rewrite, done}
use denote.RattleType.{RattleType}
use denote.RawPtr.{Ptr, ptr_val, block_ptr, null_ptr}
use denote.Laws.{Is}
use denote.Param.{layout}
use denote.Shadow.{makes_shadow}
use denote.Struct.Struct.{Struct, Struct-Makes}
use denote.Struct.Owning.{shape}
use Rattle.core.proofs.mem.Param.{El, R, el_x, elτ}
use Rattle.line_arena.specs.Filled.{IsFilled}
use Rattle.line_arena.specs.Ownership.{slot_at, slots_at, lent_slot_at, lent_slots_at}
use Rattle.line_arena.specs.contracts.cells.Cells as cells
use Rattle.core.proofs.alloc.Calls.{Al}
use Rattle.core.proofs.slots.Leases.{P}
use Rattle.line_arena.specs.contracts.cells.Claim as claim
use Rattle.line_arena.specs.contracts.cells.Base as start

-- the machine value of a base at p, and of a struct whose one field takes no bytes
abbrev pub base_val : Ptr → Val
base_val p = vstruct (vcons (ptr_val p) vnil)

abbrev pub no_bytes : Val
no_bytes = vstruct (vcons (vstruct vnil) vnil)

module _ (E : El) where
  abbrev pub CellsRow : RattleType
  CellsRow = cells.the_row (R E)

  abbrev pub BaseRow : RattleType
  BaseRow = start.the_row (R E)

  -- the fields of `Cells`
  abbrev pub Mark : RattleType
  Mark = Struct (shape (cells.the_type (R E)))

  abbrev pub width : ℕ
  width = type_size (R E)

  abbrev pub Place : Type 0
  Place = Option (el_x E)

  abbrev pub base_vals : BaseRow.Denot → List Val
  base_vals d = base_val d.ptr ∷ []

  pub base_tells : (d : BaseRow.Denot) (vs : List Val) → Is BaseRow d vs → vs ≡ base_vals d
  base_tells d vs is = is.1.0 ∙ ap (λ (ws : List Val). vstruct (of_list (ws ++ [])) ∷ []) is.1.1.0

  pub base_made : {M : Type 1} {𝓤 : Ura M} (𝓛 : Logic 𝓤) (d : BaseRow.Denot) →
      ent 𝓤 (emp 𝓤) (sem 𝓛 (BaseRow.own_val d (base_vals d)))
  base_made 𝓛 d = makes_shadow 𝓛 (BaseRow.own_val d (base_vals d)) (λ vss. (tt, (tt, tt))) (
    (ptr_val d.ptr ∷ [], tt),
    (refl, (refl, tt)),
  )

  pub base_good : (p : Ptr) → T (has_ty (layout BaseRow) (base_val p)) × WT (base_val p)
  base_good null_ptr = (tt, (record { fits = lit< tt }, tt))
  base_good (block_ptr b o) = (tt, (tt, tt))

  pub cells_tell : (d : CellsRow.Denot) (vs : List Val) → Is CellsRow d vs → vs ≡ no_bytes ∷ []
  cells_tell d vs is = is.0.1.0 ∙ ap (λ (ws : List Val). vstruct (of_list (ws ++ [])) ∷ []) is.0.1.1.0.1.0

  pub mark_made : {M : Type 1} {𝓤 : Ura M} (𝓛 : Logic 𝓤) →
      ent 𝓤 (emp 𝓤) (sem 𝓛 (Mark.own_val (tt, tt) (no_bytes ∷ [])))
  mark_made 𝓛 = Struct-Makes 𝓛 (shape (cells.the_type (R E))) ((λ d vs. (λ uss. (tt, tt))), tt) (tt, tt)
      (no_bytes ∷ []) ((vstruct vnil ∷ [], tt), (refl, ((tt, (refl, tt)), tt)))

pub filled_within : {X : Type 0} (cs : List (Option X)) (i : ℕ) → IsFilled cs i → i < length cs
filled_within [] i f = let none = f.1 in cc
filled_within (c ∷ cs) zero f = omega arith
filled_within (c ∷ cs) (suc i) f = omega (arith, filled_within cs i f)

-- the machine value of a claim
pub claim_tells : (E : El) (Z : Al) (d : (claim.the_row (R E) (P E Z) Z.g).Denot) (vs : List Val) →
    Is (claim.the_row (R E) (P E Z) Z.g) d vs → vs ≡ no_bytes ∷ []
claim_tells E Z d vs is = is.0.1.0 ∙ ap (λ (ws : List Val). vstruct (of_list (ws ++ [])) ∷ []) is.0.1.1.0.1.0

module _ (E : El) {M : Type 1} {𝓤 : Ura M} (𝓛 : Logic 𝓤) (b : ℕ) where
  open 𝓛 use {H}

  abbrev Slot : ℕ → Place E → Fml
  Slot = slot_at (R E) b

  abbrev Slots : ℕ → List (Place E) → Fml
  Slots = slots_at (R E) b

  -- the row without its place i
  abbrev pub Others : ℕ → List (Place E) → ℕ → Fml
  Others o [] i = ftrue
  Others o (c ∷ cs) zero = Slots (o + width E) cs
  Others o (c ∷ cs) (suc i) = fsep (Slot o c) (Others (o + width E) cs i)

  here : (o at : ℕ) → at ≡ 0 * width E + o → o ≡ at
  here o at e = omega (arith, e, zero-mul (width E))

  later_on : (i o at : ℕ) → at ≡ suc i * width E + o → at ≡ i * width E + (o + width E)
  later_on i o at e = omega (arith, e, suc-mul i (width E))

  pub slot_out : (cs : List (Place E)) (i o at : ℕ) → i < length cs → at ≡ i * width E + o
      → ent 𝓤 (sem 𝓛 (Slots o cs)) (sep 𝓤 (sem 𝓛 (Slot at (get_or cs i None))) (sem 𝓛 (Others o cs i)))
  slot_out [] i o at lt e = absurd (omega arith)
  slot_out (c ∷ cs) zero o at lt e =
      qed 𝓛 (‵ (Slots o (c ∷ cs)) ∷ []) ∵ fsplit ! $ rewrite ! 0 (λ (k : ℕ). ‵ (Slot k c)) (here o at e)
      refl $ frame ! $ done !
  slot_out (c ∷ cs) (suc i) o at lt e =
      qed 𝓛 (‵ (Slots o (c ∷ cs)) ∷ []) ∵ fsplit ! $ move ! (1 ∷ []) $
      use1 𝓛 (‵ (Slot at (get_or cs i None)) ⊛ ‵ (Others (o + width E) cs i))
      (slot_out cs i (o + width E) at (omega arith) (later_on i o at e)) $
      split ! $ frame ! $ move ! (1 ∷ 0 ∷ []) $ fjoin ! $ done !

  pub slot_in : (cs : List (Place E)) (i o at : ℕ) (d : Place E) → i < length cs → at ≡ i * width E + o
      → ent 𝓤 (sep 𝓤 (sem 𝓛 (Slot at d)) (sem 𝓛 (Others o cs i))) (sem 𝓛 (Slots o (set cs i d)))
  slot_in [] i o at d lt e = absurd (omega arith)
  slot_in (c ∷ cs) zero o at d lt e =
      qed 𝓛 (‵ (Slot at d) ∷ ‵ (Slots (o + width E) cs) ∷ []) ∵
      rewrite ! 0 (λ (k : ℕ). ‵ (Slot k d)) (sym (here o at e)) refl $ fjoin ! $ done !
  slot_in (c ∷ cs) (suc i) o at d lt e =
      qed 𝓛 (‵ (Slot at d) ∷ ‵ (fsep (Slot o c) (Others (o + width E) cs i)) ∷ []) ∵ move ! (1 ∷ []) $ fsplit ! $
      move ! (2 ∷ 1 ∷ []) $
      use2 𝓛 (‵ (Slots (o + width E) (set cs i d))) (slot_in cs i (o + width E) at d (omega arith)
      (later_on i o at e)) $
      move ! (1 ∷ 0 ∷ []) $ fjoin ! $ done !

  pub room_cut : (n o : ℕ) → ent 𝓤 (H.room (ty_array (elτ E) n) b o) (sem 𝓛 (Slots o (replicate n None)))
  room_cut zero o = qed 𝓛 (‵ (froom (ty_array (elτ E) 0) b o) ∷ []) ∵ drop ! $ done !
  room_cut (suc n) o =
      let at = o + width E in
      qed 𝓛 (‵ (froom (ty_array (elτ E) (suc n)) b o) ∷ []) ∵
      use1 𝓛 (‵ (froom (elτ E) b o) ⊛ ‵ (froom (ty_array (elτ E) n) b at)) (𝓛.laws.room_uncons (elτ E) n b o)
      $ split ! $
      use1 𝓛 (‵ (Slot o None)) (𝓛.laws.room-raw (elτ E) b o) $ move ! (1 ∷ []) $
      use1 𝓛 (‵ (Slots at (replicate n None))) (room_cut n at) $ move ! (1 ∷ 0 ∷ []) $ fjoin ! $ done !

  pub room_joined : (n o : ℕ) → ent 𝓤 (sem 𝓛 (Slots o (replicate n None))) (H.room (ty_array (elτ E) n) b o)
  room_joined zero o = 𝓛.laws.room_nil (elτ E) b o
  room_joined (suc n) o =
      let at = o + width E in
      qed 𝓛 (‵ (Slots o (None ∷ replicate n None)) ∷ []) ∵ fsplit ! $
      use1 𝓛 (‵ (froom (elτ E) b o)) (𝓛.laws.raw-room (elτ E) b o) $ move ! (1 ∷ []) $
      use1 𝓛 (‵ (froom (ty_array (elτ E) n) b at)) (room_joined n at) $ move ! (1 ∷ 0 ∷ []) $
      use2 𝓛 (‵ (froom (ty_array (elτ E) (suc n)) b o)) (𝓛.laws.room_cons (elτ E) n b o) $ done !

  pub slot_seen : (κ : Lft) (cs : List (Place E)) (i o at : ℕ) → i < length cs → at ≡ i * width E + o
      → ent 𝓤 (sem 𝓛 (lent_slots_at (R E) b o cs κ)) (sem 𝓛 (lent_slot_at (R E) b at (get_or cs i None) κ))
  slot_seen κ [] i o at lt e = absurd (omega arith)
  slot_seen κ (c ∷ cs) zero o at lt e =
      qed 𝓛 (‵ (lent_slots_at (R E) b o (c ∷ cs) κ) ∷ []) ∵ fsplit ! $ keep ! (0 ∷ []) $
      rewrite ! 0 (λ (k : ℕ). ‵ (lent_slot_at (R E) b k c κ)) (here o at e) refl $ done !
  slot_seen κ (c ∷ cs) (suc i) o at lt e =
      qed 𝓛 (‵ (lent_slots_at (R E) b o (c ∷ cs) κ) ∷ []) ∵ fsplit ! $ keep ! (1 ∷ []) $
      by ! (slot_seen κ cs i (o + width E) at (omega arith) (later_on i o at e))
