-- A `&mut` to the owner of the places is opened to one of its places, and closed with something else there.
use Rattle.std.specs.Prelude.{◌≡◌, ℕ, ◌+◌, ◌*◌, ◌<◌, ◌^◌, List, [], ◌∷◌, length, get_or, Some, None}
use Rattle.std.proofs.Common.{refl, sym, subst, arith}
use lib.ListN.{set, length-set}
use seplogic.Ra.Ura.{Ura}
use base.Fraction.{full_share}
use base.Logic.{ent, sep, id⊢, never}
use base.Fml.{Fml, Lft, GName, Share, fsep, flft, fobs, fauth, fbor, fobor}
use mir.Val.{Val}
use types.Logic.{Logic, sem}
use types.Kit.{Item, Goal, Seq, Step, Soaks, step, ‵, ◌⊛◌, ◌$◌, ◌∵◌, !, qed, done, fpack, fsplit3, move, use1, use2}
use types.Kit.{split, fsplit, fjoin, rewrite, flt_l, flt_i}
use types.SemTy.{Body as Borrowed}
use denote.Memory.{mem, cell_at, part_of}
use denote.RawPtr.{Ptr, block_ptr, in_a_block}
use denote.Steps.{opens, closes}
use Rattle.core.proofs.mem.Param.{El, R, el_x}
use Rattle.core.proofs.ptr.Rows.{times_below, one_below}
use Rattle.line_arena.specs.Ownership.{slot_at, slots_at, row_at}
use Rattle.line_arena.proofs.Row.{CellsRow, Mark, Place, width, Others, slot_out, slot_in}

-- every address in the row fits a word
pub record InReach (n i s : ℕ) : Type 0 where
  pub short : n * s < 2 ^ 63
  pub one : s < 2 ^ 64
  pub far : i * s < 2 ^ 64

pub in_reach : (n i s : ℕ) → i < n → n * s < 2 ^ 63 → InReach n i s
in_reach n i s lt short =
    let one = one_below n s (2 ^ 63) (omega arith) short in let far =
    times_below i n s (2 ^ 63) (omega arith) short in
    record { short = short; one = omega arith; far = omega arith }

-- with c in the place i
abbrev pub put : (E : El) → (CellsRow E).Denot → ℕ → Place E → (CellsRow E).Denot
put E d i c = record d { slots = set d.slots i c }

module _ (E : El) {M : Type 1} {𝓤 : Ura M} (𝓛 : Logic 𝓤) (κ : Lft) (q : Share) (γ : GName) (rb ro : ℕ)
    (d : (CellsRow E).Denot) (i : ℕ) where
  abbrev at_byte : ℕ → ℕ
  at_byte o = i * width E + o

  -- the `&mut` to the owner at h, and its token
  abbrev pub Lent : (CellsRow E).Denot → List (Item 𝓤) → List (Item 𝓤)
  Lent h Γ = ‵ (fobs γ ((CellsRow E).coded.code h)) ∷ ‵ (fbor κ (Borrowed (mem (CellsRow E)) rb ro γ)) ∷ ‵
      (flft κ q) ∷ Γ

  -- the place i with c in it, the others, what else the owner is, and the open borrow
  abbrev pub Apart : ℕ → ℕ → List Val → Place E → List (Item 𝓤) → List (Item 𝓤)
  Apart b o vs c Γ =
      ‵ (slot_at (R E) b (at_byte o) c) ∷ ‵ (Others E 𝓛 b o d.slots i) ∷ ‵ ((Mark E).own_val (tt, tt) vs) ∷ ‵
      (cell_at full_share (CellsRow E).mir vs rb ro)
      ∷ ‵ (fobor κ q (Borrowed (mem (CellsRow E)) rb ro γ)) ∷ ‵ (fobs γ ((CellsRow E).coded.code d)) ∷ ‵
      (fauth γ ((CellsRow E).coded.code d)) ∷ Γ

  module _ {K : Type 0} {Γ : List (Item 𝓤)} {G : Goal 𝓤 𝓛.H} where
    pub opens_place : K → Soaks G → i < length d.slots
        → ((vs : List Val) (b o : ℕ) → d.at ≡ block_ptr b o → InReach (length d.slots) i (width E) →
        Seq K 𝓛 (Apart b o vs (get_or d.slots i None) Γ) G)
        → Seq K 𝓛 (Lent d Γ) G
    opens_place t soaks within k =
        opens t soaks (CellsRow E) {h = d} rb ro (λ vs. move t (1 ∷ []) $ fsplit t $ move t (1 ∷ []) $
        in_a_block t d.at (λ p. row_at (R E) p d.slots) (id⊢ 𝓤 (never 𝓤)) (λ b o e. fsplit t $ flt_l t (λ short.
        use1 𝓛 (‵ (slot_at (R E) b (at_byte o) (get_or d.slots i None)) ⊛ ‵ (Others E 𝓛 b o d.slots i))
        (slot_out E 𝓛 b d.slots i o (at_byte o) within refl) $
        split t $ k vs b o e (in_reach (length d.slots) i (width E) within short))))

    -- the row is whole again, with c in the place i
    pub joins_row : K → i < length d.slots → length d.slots * width E < 2 ^ 63 → (b o : ℕ) →
        d.at ≡ block_ptr b o → (c : Place E)
        → Step K 𝓛 (‵ (row_at (R E) d.at (set d.slots i c)) ∷ Γ) G (‵ (slot_at (R E) b (at_byte o) c) ∷ ‵
        (Others E 𝓛 b o d.slots i) ∷ Γ) G
    joins_row t within short b o e c = step (λ s.
        let slots = set d.slots i c in
        use2 𝓛 (‵ (slots_at (R E) b o slots)) (slot_in E 𝓛 b d.slots i o (at_byte o) c within refl) $
        flt_i t (length slots * width E) (2 ^ 63) (subst (λ (n : ℕ). n * width E < 2 ^ 63)
        (sym (length-set d.slots i c)) short) $ fjoin t $
        rewrite t 0 (λ (p : Ptr). ‵ (row_at (R E) p slots)) (sym e) refl $ s)

  pub closes_place : {K : Type 0} {Γ : List (Item 𝓤)} {G : Goal 𝓤 𝓛.H} → K → Soaks G → i < length d.slots →
      length d.slots * width E < 2 ^ 63
      → (vs : List Val) (b o : ℕ) → d.at ≡ block_ptr b o → (c : Place E) → Step K 𝓛 (Lent (put E d i c) Γ) G
      (Apart b o vs c Γ) G
  closes_place t soaks within short vs b o e c = step (λ s.
      joins_row t within short b o e c $ move t (1 ∷ 0 ∷ []) $ fjoin t $ move t (1 ∷ 0 ∷ []) $
      closes t soaks (CellsRow E) (put E d i c) vs rb ro $ s)

  -- all but the place i, while its value is lent
  abbrev pub Rest : ℕ → ℕ → List Val → Fml
  Rest b o vs = fsep (Others E 𝓛 b o d.slots i) (fsep ((Mark E).own_val (tt, tt) vs)
      (cell_at full_share (CellsRow E).mir vs rb ro))

  pub comes_back : i < length d.slots → length d.slots * width E < 2 ^ 63 → (vs : List Val) (b o : ℕ) →
      d.at ≡ block_ptr b o → (w : el_x E)
      → ent 𝓤 (sep 𝓤 (sem 𝓛 ((mem (R E)).own_at w b (at_byte o))) (sem 𝓛 (Rest b o vs)))
      (sem 𝓛 ((mem (CellsRow E)).own_at (put E d i (Some w)) rb ro))
  unfolding part_of
  comes_back within short vs b o e w =
      let owner = λ (us : List Val). fsep (cell_at full_share (CellsRow E).mir us rb ro)
      ((CellsRow E).own_val (put E d i (Some w)) us) in
      qed 𝓛 (‵ (slot_at (R E) b (at_byte o) (Some w)) ∷ ‵ (Rest b o vs) ∷ []) ∵ move ! (1 ∷ []) $ fsplit3 ! $
      move ! (3 ∷ 0 ∷ []) $
      joins_row ! within short b o e (Some w) $ move ! (1 ∷ 0 ∷ []) $ fjoin ! $ move ! (1 ∷ 0 ∷ []) $ fjoin ! $
      fpack ! (List Val) owner vs $ done !
