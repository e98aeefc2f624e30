-- A cell that is on no list keeps its node in the block; the lists are those of the block without that node.
use Rattle.std.proofs.Common.{◌≡◌, ℕ, ◌<◌, zero, suc, List, ◌∷◌, length, get_or, set, Option, Some, None, option_map}
use Rattle.std.proofs.Common.{refl, sym, ap, ◌∙◌}
use Rattle.std.proofs.Common.{arith, get_or-set_same}
use Rattle.std.proofs.lemmas.List.{set-get_or, set-set}
use Rattle.line_arena.specs.declared.node.Node.{Node}
use Rattle.line_arena.specs.Filled.{IsFilled}
use Rattle.line_arena.specs.Rings.{or_blank, at, edit}

module _ {A : Type 0} where
  pub set_none : (cs : List (Option A)) (x : ℕ) → get_or cs x None ≡ None → set cs x None ≡ cs
  set_none cs x e = ap (set cs x) (sym e) ∙ set-get_or cs x None

  pub filled_back : (cs : List (Option A)) (x y : ℕ) → IsFilled (set cs x None) y → IsFilled cs y
  filled_back (c ∷ cs) zero zero full = let two = full.1 in cc
  filled_back (c ∷ cs) (suc x) (suc y) full = filled_back cs x y full
  filled_back _ _ _ full = full

module _ {X : Type 0} where
  -- a node that was put into a cell
  pub placed : (cs : List (Option (Node X))) (x : ℕ) (n : Node X) → x < length cs →
      let ds = set cs x (Some n) in IsFilled ds x × (at ds x ≡ n) × (set ds x None ≡ set cs x None)
  placed cs x n low =
      let here = get_or-set_same cs x (Some n) None low in ((n, here), ap or_blank here, set-set cs x (Some n) None)

  set_emptied : (f : Node X → Node X) (cs : List (Option (Node X))) (a x : ℕ)
      → set (set cs a (option_map f (get_or cs a None))) x None ≡ set (set cs x None) a
      (option_map f (get_or (set cs x None) a None))
  set_emptied f (c ∷ cs) zero zero = refl
  set_emptied f (c ∷ cs) (suc a) (suc x) = ap (λ zs. c ∷ zs) (set_emptied f cs a x)
  set_emptied f _ _ _ = refl

  -- an edit of the block, and then without the node of x, is an edit of the block without it
  pub edit_emptied : (cap : ℕ) (f : Node X → Node X) (cs : List (Option (Node X))) (a x : ℕ) → set (edit cap f cs a) x
      None ≡ edit cap f (set cs x None) a
  edit_emptied cap f cs a x = let same = set_emptied f cs a x in grind arith

  item_set : (f : Node X → Node X) → ((m : Node X) → (f m).item ≡ m.item) → (cs : List (Option (Node X))) (a x : ℕ)
      → (at (set cs a (option_map f (get_or cs a None))) x).item ≡ (at cs x).item
  item_set f keeps (Some m ∷ cs) zero zero = keeps m
  item_set f keeps (c ∷ cs) (suc a) (suc x) = item_set f keeps cs a x
  item_set f keeps _ _ _ = refl

  -- an edit of links leaves every item
  pub edit_item : (cap : ℕ) (f : Node X → Node X) → ((m : Node X) → (f m).item ≡ m.item) →
      (cs : List (Option (Node X))) (a x : ℕ)
      → (at (edit cap f cs a) x).item ≡ (at cs x).item
  edit_item cap f keeps cs a x = let same = item_set f keeps cs a x in grind arith
