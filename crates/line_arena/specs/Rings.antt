-- How the lists lie in the cells. A list is the cells from its head on and back to it, each with its item.
use Rattle.std.specs.Prelude.{◌≡◌, ℕ, zero, suc, ◌+◌, ◌<◌, ◌⊎◌, ⊤, if◌then◌else◌, nat_lt, List, [], ◌∷◌, map, length}
use Rattle.std.specs.Prelude.{get_or, set, Option, Some, None, option_map}
use Rattle.line_arena.specs.declared.node.Node.{Node}
use Rattle.line_arena.specs.declared.node.Head.{Head}

abbrev pub no_head : Head
no_head = record { first = 0; last = 0; count = 0 }

module _ {X : Type 0} where
  abbrev pub node : ℕ → ℕ → ℕ → Option X → Node X
  node p n l it = record { prev = p; next = n; list = l; item = it }

  abbrev pub or_blank : Option (Node X) → Node X
  or_blank (Some n) = n
  or_blank None = node 0 0 0 None

  -- the node of the cell a
  abbrev pub at : List (Option (Node X)) → ℕ → Node X
  at cs a = or_blank (get_or cs a None)

  abbrev pub with_next : ℕ → Node X → Node X
  with_next to n = node n.prev to n.list n.item

  abbrev pub with_prev : ℕ → Node X → Node X
  with_prev to n = node to n.next n.list n.item

  abbrev pub with_item : Option X → Node X → Node X
  with_item o n = node n.prev n.next n.list o

  -- the cells with w as the value of the cell a
  abbrev pub with_value_of : List (Option (Node X)) → ℕ → X → List (Option (Node X))
  with_value_of cs a w = set cs a (Some (with_item (Some w) (at cs a)))

  -- the cells with f of the node of the cell a, if a isn't the end of a list
  abbrev pub edit : ℕ → (Node X → Node X) → List (Option (Node X)) → ℕ → List (Option (Node X))
  edit cap f cs a = if nat_lt a cap then set cs a (option_map f (get_or cs a None)) else cs

  -- n cells from a on
  abbrev pub chain : List (Option (Node X)) → ℕ → ℕ → List (ℕ × Option X)
  chain cs zero a = []
  chain cs (suc n) a = (a, (at cs a).item) ∷ chain cs n (at cs a).next

  -- what comes after the end of the list before xs, and before the end of the list after xs
  abbrev pub first_of : List (ℕ × Option X) → ℕ → ℕ
  first_of [] e = e
  first_of (a ∷ xs) e = a.0

  abbrev pub last_of : ℕ → List (ℕ × Option X) → ℕ
  last_of p [] = p
  last_of p (a ∷ xs) = last_of a.0 xs

  -- the cells of xs are linked, as a part of the list l between p and e
  abbrev pub Linked : List (Option (Node X)) → ℕ → ℕ → List (ℕ × Option X) → ℕ → Type 0
  Linked cs l p [] e = ⊤
  Linked cs l p (a ∷ xs) e = (get_or cs a.0 None ≡ Some (node p (first_of xs e) l a.1)) × Linked cs l a.0 xs e

  abbrev pub Has : List (ℕ × Option X) → ℕ → Type 0
  Has [] y = ⊥
  Has (a ∷ xs) y = (a.0 ≡ y) ⊎ Has xs y

  abbrev pub IsApart : List (ℕ × Option X) → Type 0
  IsApart [] = ⊤
  IsApart (a ∷ xs) = (Has xs a.0 → ⊥) × IsApart xs

  -- the list l has the cells xs, and its end has the number cap + l
  pub record IsRing (cs : List (Option (Node X))) (cap l : ℕ) (h : Head) (xs : List (ℕ × Option X)) : Type 0 where
    pub linked : Linked cs l (cap + l) xs (cap + l)
    pub first : h.first ≡ first_of xs (cap + l)
    pub last : h.last ≡ last_of (cap + l) xs
    pub count : h.count ≡ length xs
    pub apart : IsApart xs

  -- each list is a ring, and each used cell of a list is on it
  pub record Tied (cs : List (Option (Node X))) (cap : ℕ) (heads : List Head) (rs : List (List (ℕ × Option X))) : Type
      0 where
    pub cells : length cs ≡ cap
    pub many : length rs ≡ length heads
    pub ring : (l : ℕ) → l < length heads → IsRing cs cap l (get_or heads l no_head) (get_or rs l [])
    pub on : (x : ℕ) (n : Node X) → get_or cs x None ≡ Some n → n.list < length heads → Has (get_or rs n.list []) x

  -- n cells of the number l without a value from a on, each after the one before it, and none twice
  abbrev pub Spare : List (Option (Node X)) → ℕ → ℕ → ℕ → Type 0
  Spare cs l zero a = ⊤
  Spare cs l (suc n) a = (m : Node X) × (get_or cs a None ≡ Some m) × (m.list ≡ l) × (m.item ≡ None)
      × Spare (set cs a None) l n m.next

  -- the lists that the heads begin
  unfoldable pub rings : List (Option (Node X)) → List Head → List (List (ℕ × Option X))
  rings cs heads = map (λ h. chain cs h.count h.first) heads
