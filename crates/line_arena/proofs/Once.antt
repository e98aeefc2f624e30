-- No cell occurs twice on a caller's lists.
use Rattle.std.proofs.Common.{◌≡◌, ℕ, ◌<◌, zero, suc, inl, inr, List, [], ◌∷◌, length, get_or, Option, Some, None, refl}
use Rattle.std.proofs.Common.{sym, ap, subst, ◌∙◌, arith}
use Rattle.std.proofs.lemmas.Bool.{cases_lt, cases_eq}
use Rattle.std.proofs.lemmas.List.{get_or_past}
use Rattle.line_arena.specs.declared.chains.Chains.{Chains}
use Rattle.line_arena.specs.Rings.{Has, IsApart}
use Rattle.line_arena.specs.Chains.{rings_of}
use Rattle.line_arena.specs.Arenas.{with_value, values, IsArena, shown, cell_in, IsOnce, AreCells, model}
use Rattle.line_arena.proofs.Ties.{one_list, below}
use Rattle.line_arena.proofs.Seen.{same_some}
use Rattle.line_arena.proofs.Shows.{length-shown, shown_at}

module _ {X : Type 0} where
  has_cell : (r : List (ℕ × Option X)) (i x : ℕ) → cell_in (values r) i ≡ Some x → Has r x
  has_cell [] i x e = cc
  has_cell (a ∷ r) i x e =
      elim a.1 as (λ o. (i : ℕ) → cell_in (with_value a.0 o (values r)) i ≡ Some x → Has (a ∷ r) x) [
        | None ↦ λ i f. inr (has_cell r i x f)
        | Some v ↦ λ i f. elim i as (λ k. cell_in ((a.0, v) ∷ values r) k ≡ Some x → Has (a ∷ r) x)
            [ zero ↦ λ h. inl (same_some a.0 x h) | suc k ↦ λ h. inr (has_cell r k x h) ] f
      ] i e

  two_places : (y x : ℕ) (v : X) (zs : List (ℕ × X)) → ((k : ℕ) → cell_in zs k ≡ Some x → y ≡ x → ⊥) →
      ((i j : ℕ) → cell_in zs i ≡ Some x → cell_in zs j ≡ Some x → i ≡ j)
      → (i j : ℕ) → cell_in ((y, v) ∷ zs) i ≡ Some x → cell_in ((y, v) ∷ zs) j ≡ Some x → i ≡ j
  two_places y x v zs n h zero zero e f = refl
  two_places y x v zs n h zero (suc j) e f = absurd (n j f (same_some y x e))
  two_places y x v zs n h (suc i) zero e f = absurd (n i e (same_some y x f))
  two_places y x v zs n h (suc i) (suc j) e f = ap suc (h i j e f)

  one_place : (r : List (ℕ × Option X)) (i j x : ℕ) → IsApart r → cell_in (values r) i ≡ Some x →
      cell_in (values r) j ≡ Some x → i ≡ j
  one_place [] i j x d e f = cc
  one_place (a ∷ r) i j x d e f = elim a.1 as (λ o. cell_in (with_value a.0 o (values r)) i ≡ Some x →
      cell_in (with_value a.0 o (values r)) j ≡ Some x → i ≡ j) [
        | None ↦ λ e f. one_place r i j x d.1 e f
        | Some v ↦ λ e f. two_places a.0 x v (values r) (λ k g i. d.0 (subst (Has r) (sym i) (has_cell r k x g)))
            (λ i j. one_place r i j x d.1) i j e f
      ] e f

  module _ (c : Chains X) (h : IsArena c) where
    low : (l i x : ℕ) → cell_in (get_or (shown (rings_of c)) l []) i ≡ Some x → l < length c.heads.items
    low l i x e =
        let n = h.tied.tied.many in let long = length-shown (rings_of c) in
        elim (cases_lt l (length c.heads.items)) [
          | inl lt ↦ lt
          | inr le ↦ (let two : None ≡ Some x =
              sym (ap (λ zs. cell_in zs i) (get_or_past (shown (rings_of c)) l [] (omega arith))) ∙ e in cc)
        ]

    seen_at : (l i x : ℕ) → cell_in (get_or (shown (rings_of c)) l []) i ≡ Some x →
        cell_in (values (get_or (rings_of c) l [])) i ≡ Some x
    seen_at l i x e = let n = h.tied.tied.many in let ll = low l i x e in
        ap (λ zs. cell_in zs i) (sym (shown_at (rings_of c) l (omega arith))) ∙ e

    once_at : (l m i j x : ℕ) → cell_in (get_or (shown (rings_of c)) l []) i ≡ Some x →
        cell_in (get_or (shown (rings_of c)) m []) j ≡ Some x → (l ≡ m) × (i ≡ j)
    once_at l m i j x e f =
        let ll = low l i x e in let ml = low m j x f in let rs = rings_of c in
        let a = seen_at l i x e in let b = seen_at m j x f in
        elim (cases_eq m l) [
          | inl s ↦ (
            sym s,
            one_place (get_or rs l []) i j x (h.tied.tied.ring l ll).apart a
                (subst (λ k. cell_in (values (get_or rs k [])) j ≡ Some x) s b),
          )
          | inr ne ↦ absurd (one_list c.block c.capacity c.heads.items rs h.tied.tied l m x x ll ml ne
              (has_cell (get_or rs l []) i x a) (has_cell (get_or rs m []) j x b) refl)
        ]

    pub once : IsOnce (shown (rings_of c))
    once = record { once = once_at }

    below_at : (l i x : ℕ) → cell_in (get_or (shown (rings_of c)) l []) i ≡ Some x → x < c.capacity
    below_at l i x e = below c.block c.capacity c.heads.items (rings_of c) h.tied.tied l x (low l i x e)
        (has_cell (get_or (rings_of c) l []) i x (seen_at l i x e))

    pub are_cells : AreCells (model c)
    are_cells = record { below = below_at }
