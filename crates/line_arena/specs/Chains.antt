-- What holds of the fields of the lists.
use Rattle.std.specs.Prelude.{◌≡◌, ◌≢◌, ℕ, ◌+◌, ◌^◌, ◌<◌, ◌≤◌, List, length, get_or, sum_by, set, Option, Some, None}
use Rattle.line_arena.specs.declared.node.Head.{Head}
use Rattle.line_arena.specs.declared.node.Node.{Node}
use Rattle.line_arena.specs.declared.chains.Chains.{Chains}
use Rattle.line_arena.specs.Filled.{IsFilled}
use Rattle.line_arena.specs.Rings.{no_head, Tied, rings}

-- how many cells are on lists
abbrev pub total : List Head → ℕ
total heads = sum_by (λ h. h.count) heads

-- the head of an empty list whose end has this number
abbrev pub empty_head : ℕ → Head
empty_head end = record { first = end; last = end; count = 0 }

-- the heads of count empty lists, of which the first one's end has the number end
pub record AreEmpty (end count : ℕ) (heads : List Head) : Type 0 where
  pub many : length heads ≡ count
  pub each : (l : ℕ) → l < count → get_or heads l no_head ≡ empty_head (end + l)

module _ {X : Type 0} where
  abbrev pub rings_of : Chains X → List (List (ℕ × Option X))
  rings_of c = rings c.block c.heads.items

  -- the lists' fields, with the node of the cell x taken out
  abbrev pub emptied : ℕ → Chains X → Chains X
  emptied x c = record c { block = set c.block x None }

  pub record IsTied (c : Chains X) : Type 0 where
    pub tied : Tied c.block c.capacity c.heads.items (rings_of c)
    pub small : (c.capacity ≤ 2 ^ 24) × (length c.heads.items ≤ 2 ^ 21)

  -- cells other than x are used as before, and free ones unchanged
  abbrev pub SameUse : ℕ → Chains X → Chains X → Type 0
  SameUse x c d = (y : ℕ) → y ≢ x
      → (IsFilled c.block y → IsFilled d.block y) × (get_or c.block y None ≡ None → get_or d.block y None ≡ None)
      × ((n : Node X) → get_or c.block y None ≡ Some n → n.list ≡ length c.heads.items → get_or d.block y None ≡ Some n)

  pub record SameSizes (c d : Chains X) : Type 0 where
    pub capacity : d.capacity ≡ c.capacity
    pub used : d.used ≡ c.used
    pub free : (d.free ≡ c.free) × (d.spares ≡ c.spares)
    pub lists : length d.heads.items ≡ length c.heads.items
