-- The cells are taken out one after the other: a list whose head isn't empty yet has a cell that is still there.
use Rattle.std.proofs.Common.{◌≡◌, ℕ, ◌+◌, ◌<◌, ◌≤◌, ◌⊎◌, inl, inr, [], length, get_or}
use Rattle.std.proofs.Common.{replicate, Option, Some, None, sym, ap, ◌∙◌, arith}
use Rattle.std.proofs.Common.{ext_get_or}
use Rattle.std.proofs.lemmas.Bool.{cases_lt}
use Rattle.std.proofs.lemmas.List.{length-replicate}
use Rattle.line_arena.specs.declared.node.Node.{Node}
use Rattle.line_arena.specs.declared.chains.Chains.{Chains}
use Rattle.line_arena.specs.Filled.{IsFilled}
use Rattle.line_arena.specs.Rings.{no_head, Tied, rings}
use Rattle.line_arena.specs.Chains.{AreEmpty, empty_head, rings_of, total, IsTied}
use Rattle.line_arena.specs.Arenas.{IsArena}
use Rattle.line_arena.proofs.Starts.{none_at, tied_new, total_zero}

module _ {X : Type 0} where
  -- a cell that was filled in c and isn't among the first ones is on the list l
  pub record HasCell (from l : ℕ) (c : Chains X) : Type 0 where
    pub cell : ℕ
    pub node : Node X
    pub past : from ≤ cell
    pub there : get_or c.block cell None ≡ Some node
    pub on : node.list ≡ l

  -- the first cells of c were taken out, which made d
  pub record IsHalfway (at : ℕ) (c d : Chains X) : Type 0 where
    pub bound : at ≤ c.used
    pub before : (y : ℕ) → y < at → get_or d.block y None ≡ None
    pub after : (y : ℕ) → at ≤ y → get_or d.block y None ≡ get_or c.block y None
    pub heads : (l : ℕ) → l < length c.heads.items → (get_or d.heads.items l no_head ≡ empty_head (c.capacity + l))
        ⊎ HasCell at l c
    pub many : length d.heads.items ≡ length c.heads.items
    pub long : length d.block ≡ length c.block
    pub sizes : (d.capacity ≡ c.capacity) × (d.used ≡ c.used)

  -- the places of d are empty, and its heads those of empty lists, as many as c has
  pub record IsEmptied (c d : Chains X) : Type 0 where
    pub cells : d.block ≡ replicate c.capacity None
    pub heads : AreEmpty c.capacity (length c.heads.items) d.heads.items
    pub capacity : d.capacity ≡ c.capacity

  -- no cell counts as used, nor as free after that
  abbrev pub unused : Chains X → Chains X
  unused c = record c { used = 0; spares = 0 }

  -- the next cell is there
  pub halfway_cell : (k : ℕ) (c d : Chains X) → IsArena c → IsHalfway k c d → k < d.used →
      IsFilled d.block k
  halfway_cell k c d a h low =
      let used = h.sizes.1 in let full = a.uses.0 k (omega (arith, low, used)) in
      (full.0, h.after k (omega arith) ∙ full.1)

  pub halfway_cells : (at : ℕ) (c d : Chains X) → IsArena c → IsHalfway at c d → c.used ≤ at →
      d.block ≡ replicate c.capacity None
  halfway_cells at c d a h past =
      ext_get_or None d.block (replicate c.capacity None)
      (h.long ∙ a.tied.tied.cells ∙ sym (length-replicate {A = Option (Node X)} c.capacity None))
      (λ y lt. elim (cases_lt y at) [
        | inl before ↦ h.before y before
        | inr le ↦ h.after y le ∙ a.uses.1 y (omega (arith, le, past))
      ] ∙ sym (none_at c.capacity y))

  pub halfway_heads : (at : ℕ) (c d : Chains X) → IsArena c → IsHalfway at c d → c.used ≤ at →
      AreEmpty c.capacity (length c.heads.items) d.heads.items
  halfway_heads at c d a h past = record {
    many = h.many;
    each = λ l lt. elim (h.heads l lt) [
      | inl is ↦ is
      | inr has ↦ absurd (let none = a.uses.1 has.cell (let p = has.past in omega (arith, p, past)) in
          let two : None ≡ Some has.node = sym none ∙ has.there in cc)
    ];
  }

  -- once all cells were taken out, the lists are as new
  pub halfway_last : (k : ℕ) (c d : Chains X) → IsArena c → IsHalfway k c d → d.used ≤ k →
      IsEmptied c (unused d)
  halfway_last k c d a h past = let used = h.sizes.1 in let all : c.used ≤ k = omega (arith, past, used) in
      record {
        cells = halfway_cells k c d a h all;
        heads = halfway_heads k c d a h all;
        capacity = h.sizes.0;
      }

  pub emptied_tied : (c d : Chains X) → IsArena c → IsEmptied c d →
      (IsTied d × (rings_of d ≡ replicate (length c.heads.items) [])) × (total d.heads.items ≡ 0)
  emptied_tied c d a e =
      let hs = d.heads.items in let m = length c.heads.items in let new = tied_new {X = X} c.capacity m hs e.heads in
      let tied : Tied d.block d.capacity hs (rings_of d) = rw (e.capacity, e.cells) new.0 in
      let cap = e.capacity in let small = a.tied.small in let many = e.heads.many in (
        (
          record { tied = tied; small = (omega (arith, cap, small.0), omega (arith, many, small.1)) },
          ap (λ cs. rings cs hs) e.cells ∙ new.1,
        ),
        total_zero hs (λ l lt. ap (λ h. h.count) (e.heads.each l
            (omega (arith, many, lt)))),
      )
