-- What a caller's look-up tells of the cells.
use Rattle.std.proofs.Common.{◌≡◌, ℕ, ◌<◌, zero, suc, inl, inr, true, true≢false, List, [], ◌∷◌, map, length}
use Rattle.std.proofs.Common.{get_or, replicate, if◌then◌else◌, Option, Some, None, is_some, refl, sym}
use Rattle.std.proofs.Common.{ap, ◌∙◌, arith, ne_eqb}
use Rattle.std.proofs.lemmas.Bool.{cases_eq}
use Rattle.line_arena.specs.declared.chains.Chains.{Chains}
use Rattle.line_arena.specs.Filled.{IsFilled}
use Rattle.line_arena.specs.Rings.{Has}
use Rattle.line_arena.specs.CellLists.{find_cell, or_else, look_up}
use Rattle.line_arena.specs.Chains.{rings_of}
use Rattle.line_arena.specs.Arenas.{values, AllSome, IsArena, shown}
use Rattle.line_arena.proofs.Ties.{one_list}
use Rattle.line_arena.proofs.Finds.{find_absent, look_at_list}
use Rattle.line_arena.proofs.Shows.{length-shown, shown_at}
use Rattle.line_arena.proofs.Counts.{filled_at}

pub some_of : {A : Type 0} (o : Option A) → is_some o ≡ true → (v : A) × (o ≡ Some v)
some_of None e = absurd (true≢false (sym e))
some_of (Some v) e = (v, refl)

pub same_some : {A : Type 0} (v w : A) → Some v ≡ Some w → v ≡ w
same_some v w e = cc

module _ {A : Type 0} where
  pub look_in : (x : ℕ) (v : A) (ls : List (List (ℕ × A))) → look_up x ls ≡ Some v → (l : ℕ) × (l < length ls) ×
      (find_cell x (get_or ls l []) ≡ Some v)
  look_in x v [] e = cc
  look_in x v (r ∷ ls) e =
      elim (find_cell x r) as (λ o. find_cell x r ≡ o → or_else o (look_up x ls) ≡ Some v → (l : ℕ) ×
      (l < suc (length ls)) × (find_cell x (get_or (r ∷ ls) l []) ≡ Some v)) [
        | None ↦ λ here f. let q = look_in x v ls f in (suc q.0, omega (arith, q.1), q.2)
        | Some w ↦ λ here f. (0, omega arith, here ∙ f)
      ] refl e

module _ {X : Type 0} where
  pub find_has : (x : ℕ) (xs : List (ℕ × Option X)) (o : Option X) → find_cell x xs ≡ Some o → Has xs x
  find_has x [] o e = cc
  find_has x (a ∷ xs) o e = elim (cases_eq a.0 x) [
    | inl i ↦ inl i
    | inr ne ↦ inr (find_has x xs o (sym (ap (λ b. if b then Some a.1 else find_cell x xs) (ne_eqb a.0 x ne)) ∙ e))
  ]

  find_value : (x : ℕ) (v : X) (xs : List (ℕ × Option X)) → AllSome xs → find_cell x (values xs) ≡ Some v →
      find_cell x xs ≡ Some (Some v)
  find_value x v [] h e = cc
  find_value x v (a ∷ xs) h e = let rest = find_value x v xs h.1 in let some = h.0.1 in grind arith

  module _ (c : Chains X) (h : IsArena c) (x : ℕ) (v : X) (e : look_up x (shown (rings_of c)) ≡ Some v) where
    pub here : (l : ℕ) × (l < length c.heads.items) × (find_cell x (get_or (rings_of c) l []) ≡ Some (Some v))
    here =
        let n = h.tied.tied.many in let long = length-shown (rings_of c) in
        let q = look_in x v (shown (rings_of c)) e in let low : q.0 < length c.heads.items = omega (arith, q.1) in (
          q.0,
          low,
          find_value x v (get_or (rings_of c) q.0 []) (h.loaded q.0 low)
              (ap (find_cell x) (sym (shown_at (rings_of c) q.0 (omega arith))) ∙ q.2),
        )

    -- the cell is a used one, and has the value
    pub seen : IsFilled c.block x × (look_up x (rings_of c) ≡ Some (Some v))
    seen =
        let n = h.tied.tied.many in let l = here.0 in let low = here.1 in
        let on = find_has x (get_or (rings_of c) l []) (Some v) here.2 in (
          filled_at c h l x low on,
          look_at_list x (Some v) (rings_of c) l (omega arith) here.2
              (λ m mt ne. find_absent x (get_or (rings_of c) m []) (λ w.
              one_list c.block c.capacity c.heads.items (rings_of c) h.tied.tied l m x x low (omega arith) ne on w
              refl)),
        )

  empty_values : (n : ℕ) → map (values {X = X}) (replicate n []) ≡ replicate n []
  empty_values zero = refl
  empty_values (suc n) = ap (λ zs. [] ∷ zs) (empty_values n)

  pub shown_new : (n : ℕ) (rs : List (List (ℕ × Option X))) → rs ≡ replicate n [] → shown rs ≡ replicate n []
  shown_new n rs e = ap shown e ∙ empty_values n
