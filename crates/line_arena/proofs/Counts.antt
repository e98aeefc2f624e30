-- A cell that is on no list, and how many there are.
use Rattle.std.proofs.Common.{◌≡◌, ◌≢◌, ℕ, ◌+◌, ◌<◌, suc, inl, inr, List, [], ◌∷◌, length, get_or}
use Rattle.std.proofs.Common.{sum_by, Option, Some, None, refl, sym, ap, ◌∙◌, arith}
use Rattle.std.proofs.lemmas.List.Sums.{sum_by-cons}
use Rattle.line_arena.specs.declared.node.Head.{Head}
use Rattle.line_arena.specs.declared.chains.Chains.{Chains}
use Rattle.line_arena.specs.Filled.{IsFilled}
use Rattle.line_arena.specs.Rings.{no_head, node, Has}
use Rattle.line_arena.specs.CellLists.{find_cell, look_up}
use Rattle.line_arena.specs.Chains.{rings_of}
use Rattle.line_arena.specs.Arenas.{values, AllSome, IsArena, Lacks, shown}
use Rattle.line_arena.proofs.Ties.{on_list}
use Rattle.line_arena.proofs.Finds.{look_none}
use Rattle.line_arena.proofs.Shows.{length-shown, shown_at}

pub sum_same : {A B : Type 0} (f : A → ℕ) (g : B → ℕ) (xs : List A) (ys : List B) (d : A) (e : B) →
    length xs ≡ length ys → ((k : ℕ) → k < length xs → f (get_or xs k d) ≡ g (get_or ys k e)) →
    sum_by f xs ≡ sum_by g ys
sum_same f g [] [] d e long h = refl
sum_same f g (x ∷ xs) (y ∷ ys) d e long h =
    let rest = sum_same f g xs ys d e (omega (arith, long)) (λ k lt. h (suc k) (omega (arith, lt))) in
    let first : f x ≡ g y = h 0 (omega arith) in
    sum_by-cons f x xs ∙ (λ i. first i + rest i) ∙ sym (sum_by-cons g y ys)
sum_same f g _ _ d e long h = absurd (omega (arith, long))

module _ {X : Type 0} where
  pub length-values : (xs : List (ℕ × Option X)) → AllSome xs → length (values xs) ≡ length xs
  length-values [] h = refl
  length-values (a ∷ xs) h = let rest = length-values xs h.1 in let some = h.0.1 in grind arith

  pub find_gone : (x : ℕ) (xs : List (ℕ × Option X)) → (Has xs x → ⊥) → find_cell x (values xs) ≡ None
  find_gone x [] no_x = refl
  find_gone x (a ∷ xs) no_x = let rest = find_gone x xs (λ w. no_x (inr w)) in
      let ne : a.0 ≢ x = λ e. no_x (inl e) in grind arith

  module _ (x : ℕ) (c : Chains X) (h : Lacks x c) where
    nowhere : (l : ℕ) → l < length c.heads.items → Has (get_or (rings_of c) l []) x → ⊥
    nowhere l lt w =
        let s = on_list c.block c.capacity c.heads.items (rings_of c) h.tied.tied l x lt w in
        let two : Some (node s.0 s.1 l s.2) ≡ None = sym s.3 ∙ h.gap.1 in cc

    -- the cell occurs nowhere
    pub fresh : look_up x (shown (rings_of c)) ≡ None
    fresh =
        let n = h.tied.tied.many in let long = length-shown (rings_of c) in
        look_none x (shown (rings_of c)) (λ l lt. ap (find_cell x) (shown_at (rings_of c) l (omega (arith, lt, long)))
        ∙ find_gone x (get_or (rings_of c) l []) (nowhere l (omega (arith, lt, long, n))))

  module _ (c : Chains X) (h : IsArena c) where
    pub filled_at : (l x : ℕ) → l < length c.heads.items → Has (get_or (rings_of c) l []) x → IsFilled c.block x
    filled_at l x lt w = let s = on_list c.block c.capacity c.heads.items (rings_of c) h.tied.tied l x lt w in
        (node s.0 s.1 l s.2, s.3)

    pub one_length : (l : ℕ) → l < length c.heads.items →
        length (get_or (shown (rings_of c)) l []) ≡ (get_or c.heads.items l no_head).count
    one_length l lt = let n = h.tied.tied.many in ap length (shown_at (rings_of c) l (omega arith))
        ∙ length-values (get_or (rings_of c) l []) (h.loaded l lt) ∙ sym (h.tied.tied.ring l lt).count

    -- the cells on the lists, and the free ones that were used
    pub counted : sum_by length (shown (rings_of c)) + c.spares ≡ c.used
    counted =
        let n = h.tied.tied.many in let long = length-shown (rings_of c) in
        let same = sum_same length (λ (y : Head). y.count) (shown (rings_of c)) c.heads.items [] no_head (omega arith)
        (λ l lt. one_length l (omega (arith, lt, long, n))) in omega (arith, same, h.total.0)
