-- What holds of the cells that are free, and of the lists once a cell comes free or is used again.
use Rattle.std.proofs.Common.{◌≡◌, ℕ, zero, suc, ◌+◌, ◌-◌, ◌<◌, ◌≤◌, inl, inr, List, length, get_or, set, Option}
use Rattle.std.proofs.Common.{Some, None, refl, sym, ap, subst, ◌∙◌, arith, length-set, get_or-set_same}
use Rattle.std.proofs.Common.{get_or-set_other, []}
use Rattle.std.proofs.lemmas.Bool.{cases_eq, cases_lt}
use Rattle.std.proofs.lemmas.List.{set-set}
use Rattle.line_arena.specs.declared.node.Node.{Node}
use Rattle.line_arena.specs.declared.node.Head.{Head}
use Rattle.line_arena.specs.declared.chains.Chains.{Chains}
use Rattle.line_arena.specs.Rings.{node, Tied, Spare, rings}
use Rattle.line_arena.specs.Chains.{rings_of}
use Rattle.line_arena.specs.Arenas.{AllSome, IsArena, Lacks}
use Rattle.line_arena.proofs.Edits.{within}
use Rattle.line_arena.proofs.EmptiedCells.{set_none}
use Rattle.line_arena.proofs.Links.{linked_same}
use Rattle.line_arena.proofs.Ties.{on_list, rings_are}

module _ {X : Type 0} where
  -- the free cells are those that they were
  pub spare_same : (l n a : ℕ) (cs ds : List (Option (Node X))) →
      ((y : ℕ) (m : Node X) → get_or cs y None ≡ Some m → m.list ≡ l → get_or ds y None ≡ Some m) →
      Spare cs l n a → Spare ds l n a
  spare_same l zero a cs ds h s = tt
  spare_same l (suc n) a cs ds h s = (
    s.0,
    h a s.0 s.1 s.2,
    s.2,
    s.3,
    spare_same l n s.0.next (set cs a None) (set ds a None) (λ y m is at. elim (cases_eq y a) [
      | inr ne ↦ get_or-set_other ds a y None None ne
          ∙ h y m (sym (get_or-set_other cs a y None None ne) ∙ is) at
      | inl i ↦ let none = ap (λ k. get_or (set cs a None) k None) i
          ∙ get_or-set_same cs a None None (within cs a s.0 s.1) in
          let two : None ≡ Some m = sym none ∙ is in cc
    ]) s.4,
  )

  pub spare_first : (l n a : ℕ) (cs : List (Option (Node X))) → 0 < n → Spare cs l n a →
      (m : Node X) × (get_or cs a None ≡ Some m) × (m.list ≡ l) × (m.item ≡ None) × Spare (set cs a None) l (n - 1)
      m.next
  spare_first l zero a cs some s = absurd (omega (arith, some))
  spare_first l (suc n) a cs some s = let less : suc n - 1 ≡ n = omega arith in rw less s

  -- what stands in a cell that no list has is changed
  abbrev Unlisted : List Head → Option (Node X) → Type 0
  Unlisted hs o = (n : Node X) → o ≡ Some n → length hs ≤ n.list

  loosened : (cs : List (Option (Node X))) (cap x : ℕ) (o : Option (Node X)) (hs : List Head) →
      Tied cs cap hs (rings cs hs) → Unlisted hs (get_or cs x None) → Unlisted hs o →
      Tied (set cs x o) cap hs (rings (set cs x o) hs) × (rings (set cs x o) hs ≡ rings cs hs)
  loosened cs cap x o hs t was now =
      let ds = set cs x o in let rs = rings cs hs in
      let m : Tied ds cap hs rs = record {
        cells = length-set cs x o ∙ t.cells;
        many = t.many;
        ring = λ l lt. let g = t.ring l lt in record {
          linked = linked_same cs ds l (cap + l) (get_or rs l []) (cap + l) (λ y w. get_or-set_other cs x y o None (λ i.
              let s = on_list cs cap hs rs t l y lt w in
              let high = was (node s.0 s.1 l s.2) (sym (ap (λ k. get_or cs k None) i) ∙ s.3) in
              absurd (omega (arith, high, lt)))) g.linked;
          first = g.first;
          last = g.last;
          count = g.count;
          apart = g.apart;
        };
        on = λ y n is low. elim (cases_eq y x) [
          | inr ne ↦ t.on y n (sym (get_or-set_other cs x y o None ne) ∙ is) low
          | inl i ↦
              let inside = within ds y n is in let long = length-set cs x o in
              let high = now n (sym (get_or-set_same cs x o None (omega (arith, inside, long, i)))
              ∙ sym (ap (λ k. get_or ds k None) i) ∙ is) in absurd (omega (arith, high, low))
        ];
      } in
      let e = rings_are ds cap hs rs m in (subst (Tied ds cap hs) (sym e) m, e)

  -- a cell that comes free
  abbrev pub freed : ℕ → ℕ → Chains X → Chains X
  freed x p c = record c {
    block = set c.block x (Some (node p c.free (length c.heads.items) None));
    spares = c.spares + 1;
    free = x;
  }

  pub released : (x p : ℕ) (c : Chains X) → Lacks x c → IsArena (freed x p c) × (rings_of (freed x p c) ≡ rings_of c)
  released x p c a =
      let cs = c.block in let hs = c.heads.items in let n = node p c.free (length hs) None in
      let made = loosened cs c.capacity x (Some n) hs a.tied.tied (λ m is. let two : None ≡ Some m = sym a.gap.1 ∙ is in
      cc) (λ m is. let same : n.list ≡ m.list = cc in omega (arith, same)) in
      let low = a.gap.0 in let most = a.total.1 in let cells = a.tied.tied.cells in
      let here = get_or-set_same cs x (Some n) None (omega (arith, low, most, cells)) in
      let back : set (set cs x (Some n)) x None ≡ cs = set-set cs x (Some n) None ∙ set_none cs x a.gap.1 in
      let rest : Spare (set (set cs x (Some n)) x None) (length hs) c.spares c.free = rw back a.spare in
      let all : Spare (set cs x (Some n)) (length hs) (suc c.spares) x = (n, here, refl, refl, rest) in
      let more : suc c.spares ≡ c.spares + 1 = omega arith in (
        record {
          tied = record { tied = made.0; small = a.tied.small };
          total = (omega (arith, a.total.0), a.total.1);
          uses = (
            (λ y lt. elim (cases_eq y x) [
              | inl i ↦ (n, ap (λ k. get_or (set cs x (Some n)) k None) i ∙ here)
              | inr ne ↦ (let f = (a.uses y ne).0 lt in (f.0, get_or-set_other cs x y (Some n) None ne ∙ f.1))
            ]),
            λ y le. get_or-set_other cs x y (Some n) None (λ i. absurd (omega (arith, low, le, i)))
                ∙ (a.uses y (λ i. absurd (omega (arith, low, le, i)))).1 le,
          );
          loaded = λ l lt. subst (λ rs. AllSome (get_or rs l [])) (sym made.1) (a.loaded l lt);
          spare = subst (λ k. Spare (set cs x (Some n)) (length hs) k x) more all;
        },
        made.1,
      )

  -- the first free cell is used again
  abbrev pub without_first : ℕ → Chains X → Chains X
  without_first next c = record c { block = set c.block c.free None; spares = c.spares - 1; free = next }

  pub reused : (c : Chains X) (n : Node X) → IsArena c → 0 < c.spares → get_or c.block c.free None ≡ Some n →
      Lacks c.free (without_first n.next c) × (rings_of (without_first n.next c) ≡ rings_of c)
  reused c n a some there =
      let cs = c.block in let hs = c.heads.items in let x = c.free in
      let s = spare_first (length hs) c.spares x cs some a.spare in
      let same : s.0 ≡ n = (let e = sym s.1 ∙ there in cc) in
      let made = loosened cs c.capacity x None hs a.tied.tied (λ m is.
      let same : s.0.list ≡ m.list = (let e = sym s.1 ∙ is in cc) in omega (arith, same, s.2)) (λ m is. cc) in
      let inside = within cs x n there in (
        record {
          tied = record { tied = made.0; small = a.tied.small };
          total = (omega (arith, a.total.0, some), a.total.1);
          gap = (
            elim (cases_lt x c.used) [
              | inl lt ↦ lt
              | inr le ↦ (let two : Some n ≡ None = sym there ∙ a.uses.1 x le in cc)
            ],
            get_or-set_same cs x None None inside,
          );
          uses = λ y ne. let other = get_or-set_other cs x y None None ne in (
            (λ lt. let f = a.uses.0 y lt in (f.0, other ∙ f.1)),
            λ le. other ∙ a.uses.1 y le,
          );
          loaded = λ l lt. subst (λ rs. AllSome (get_or rs l [])) (sym made.1) (a.loaded l lt);
          spare = rw (← same) s.4;
        },
        made.1,
      )
