-- What a caller sees of the lists, and what holds of them after a step.
use Rattle.std.proofs.Common.{suc}
use Rattle.std.proofs.Common.{◌≡◌, ◌≢◌, ℕ, ◌+◌, ◌<◌, inl, inr, true, false, List, [], ◌∷◌, ◌++◌, map}
use Rattle.std.proofs.Common.{length, get_or, set, nat_eq, if◌then◌else◌, Option, Some, None, refl, sym, ap, subst}
use Rattle.std.proofs.Common.{◌∙◌, arith, get_or-set_same, get_or-set_other}
use Rattle.std.proofs.lemmas.Bool.{cases_lt, cases_eq}
use Rattle.std.proofs.lemmas.List.{get_or-map, length-map, map-set}
use Rattle.line_arena.specs.declared.node.Node.{Node}
use Rattle.line_arena.specs.declared.chains.Chains.{Chains}
use Rattle.line_arena.specs.Filled.{IsFilled}
use Rattle.line_arena.specs.CellLists.{without, append_to}
use Rattle.line_arena.specs.Chains.{total, emptied, rings_of, IsTied, SameUse, SameSizes}
use Rattle.line_arena.specs.Rings.{or_blank, at}
use Rattle.line_arena.specs.Arenas.{values, AllSome, IsArena, Lacks, shown, model, pushed}
use Rattle.line_arena.specs.Arenas.{lists_of}
use Rattle.line_arena.proofs.Edits.{within}
use Rattle.line_arena.proofs.FreeCells.{spare_same}

module _ {X : Type 0} where
  some_without : (x : ℕ) (xs : List (ℕ × Option X)) → AllSome xs → AllSome (without x xs)
  some_without x [] h = tt
  some_without x (a ∷ xs) h = elim (nat_eq a.0 x) as (λ b. AllSome (if b then without x xs else a ∷ without x xs))
      [ true ↦ some_without x xs h.1 | false ↦ (h.0, some_without x xs h.1) ]

  some_push : (xs : List (ℕ × Option X)) (a : ℕ × Option X) → AllSome xs → (v : X) × (a.1 ≡ Some v) →
      AllSome (xs ++ a ∷ [])
  some_push [] a h s = (s, tt)
  some_push (b ∷ xs) a h s = (h.0, some_push xs a h.1 s)

  -- sizes that are the same are so with other cells
  pub same_sizes : (c d : Chains X) (bs cs : List (Option (Node X))) → SameSizes c d →
      SameSizes (record c { block = bs }) (record d { block = cs })
  same_sizes c d bs cs s = record { capacity = s.capacity; used = s.used; free = s.free; lists = s.lists }

  pub lacks_from : (x : ℕ) (c e : Chains X) → IsArena c → IsFilled c.block x →
      (at c.block x).list < length c.heads.items → let d = emptied x e in IsTied d →
      total d.heads.items + 1 ≡ total c.heads.items → SameUse x c d → IsFilled e.block x → SameSizes c e →
      rings_of d ≡ map (without x) (rings_of c) → Lacks x d
  lacks_from x c e a full on t less kept filled size are =
      let d = emptied x e in let long = length-map (rings_of c) (without x) in let n = a.tied.tied.many in
      let used = size.used in
      let cap = size.capacity in let lists = size.lists in let spares = size.free.1 in
      let had = within c.block x full.0 full.1 in
      let x_low : x < c.used = elim (cases_lt x c.used) [
        | inl lt ↦ lt
        | inr le ↦ (let two : Some full.0 ≡ None =
            sym full.1 ∙ a.uses.1 x le in cc)
      ] in
      let at_l : (l : ℕ) → l < length c.heads.items → get_or (rings_of d) l [] ≡ without x (get_or (rings_of c) l []) =
      λ l lt. ap (λ rs. get_or rs l []) are ∙ get_or-map (without x) (rings_of c) l [] [] (omega arith) in
      record {
        tied = t;
        total = (omega (arith, less, a.total.0, used, spares), omega (arith, used, cap, a.total.1));
        gap = (omega arith, get_or-set_same e.block x None None (within e.block x filled.0 filled.1));
        uses = λ y ne. (
          (λ lt. (kept y ne).0 (a.uses.0 y (omega arith))),
          λ le. (kept y ne).1
              (a.uses.1 y (omega arith)),
        );
        loaded = λ l lt. subst AllSome (sym (at_l l (omega arith)))
            (some_without x (get_or (rings_of c) l []) (a.loaded l (omega arith)));
        spare = rw (lists, size.free.0, spares) (spare_same (length c.heads.items) c.spares c.free c.block d.block
            (λ y m is lists_is. elim (cases_eq y x) [
              | inr ne ↦ (kept y ne).2 m is lists_is
              | inl i ↦ let same : (at c.block x).list ≡ m.list =
                  ap (λ o. (or_blank o).list) (sym (ap (λ k. get_or c.block k None) i) ∙ is) in
                  absurd (omega (arith, same, on, lists_is))
            ]) a.spare);
      }

  pub arena_from : (l x : ℕ) (v : X) (c d : Chains X) → Lacks x c → l < length c.heads.items →
      IsTied d → total d.heads.items ≡ total c.heads.items + 1 → SameUse x c d → IsFilled d.block x → SameSizes c d
      → rings_of d ≡ set (rings_of c) l (get_or (rings_of c) l [] ++ (x, Some v) ∷ []) → IsArena d
  arena_from l x v c d a low t more kept full size are =
      let r = get_or (rings_of c) l [] in let new = r ++ (x, Some v) ∷ [] in
      let n = a.tied.tied.many in let used = size.used in
      let cap = size.capacity in let lists = size.lists in let spares = size.free.1 in
      let here : get_or (rings_of d) l [] ≡ new =
      ap (λ rs. get_or rs l []) are ∙ get_or-set_same (rings_of c) l new [] (omega arith) in
      let there : (k : ℕ) → k ≢ l → get_or (rings_of d) k [] ≡ get_or (rings_of c) k [] =
      λ k ne. ap (λ rs. get_or rs k []) are ∙ get_or-set_other (rings_of c) l k new [] ne in
      record {
        tied = t;
        total = (omega (arith, more, a.total.0, used, spares), omega (arith, used, cap, a.total.1));
        uses = (
          (λ y lt. elim (cases_eq y x) [
            | inl i ↦ subst (IsFilled d.block) (sym i) full
            | inr ne ↦ (kept y ne).0
                ((a.uses y ne).0 (omega arith))
          ]),
          λ y le. elim (cases_eq y x) [
            | inl i ↦ (let past = a.gap.0 in absurd (omega arith))
            | inr ne ↦ (kept y ne).1
                ((a.uses y ne).1 (omega arith))
          ],
        );
        loaded = λ k lt. elim (cases_eq k l) [
          | inl i ↦ rw (i, here) (some_push r (x, Some v) (a.loaded l low) (v, refl))
          | inr ne ↦ subst AllSome (sym (there k ne)) (a.loaded k (omega arith))
        ];
        spare = rw (lists, size.free.0, spares) (spare_same (length c.heads.items) c.spares c.free c.block d.block
            (λ y m is lists_is. elim (cases_eq y x) [
              | inr ne ↦ (kept y ne).2 m is lists_is
              | inl i ↦ let two : None ≡ Some m =
                  sym a.gap.1 ∙ sym (ap (λ k. get_or c.block k None) i) ∙ is in cc
            ]) a.spare);
      }

  values_without : (x : ℕ) (xs : List (ℕ × Option X)) → values (without x xs) ≡ without x (values xs)
  values_without x [] = refl
  values_without x (a ∷ xs) = let rest = values_without x xs in grind arith

  values_push : (xs : List (ℕ × Option X)) (x : ℕ) (v : X) → values (xs ++ (x, Some v) ∷ []) ≡ values xs
      ++ (x, v) ∷ []
  values_push [] x v = refl
  values_push (a ∷ xs) x v = let rest = values_push xs x v in grind arith

  pub length-shown : (rs : List (List (ℕ × Option X))) → length (shown rs) ≡ length rs
  length-shown rs = length-map rs values

  pub shown_at : (rs : List (List (ℕ × Option X))) (l : ℕ) → l < length rs →
      get_or (shown rs) l [] ≡ values (get_or rs l [])
  shown_at rs l low = get_or-map values rs l [] [] low

  -- a change of each list that shows as another one
  pub shown_mapped : (f : List (ℕ × Option X) → List (ℕ × Option X)) (g : List (ℕ × X) → List (ℕ × X))
      (rs : List (List (ℕ × Option X))) →
      ((l : ℕ) → l < length rs → values (f (get_or rs l [])) ≡ g (values (get_or rs l []))) →
      shown (map f rs) ≡ map g (shown rs)
  shown_mapped f g [] h = refl
  shown_mapped f g (r ∷ rs) h =
      λ k. h 0 (omega arith) k ∷ shown_mapped f g rs (λ l lt. h (suc l) (omega (arith, lt))) k

  pub shown_without : (x : ℕ) (rs : List (List (ℕ × Option X))) →
      shown (map (without x) rs) ≡ map (without x) (shown rs)
  shown_without x rs = shown_mapped (without x) (without x) rs (λ l lt. values_without x (get_or rs l []))

  -- an arena to one of whose lists a cell with a value was put
  pub pushed_to : (rs : List (List (ℕ × Option X))) {ls : List (List (ℕ × X))} (d : Chains X) {l x cell : ℕ}
      (v : X) {cells : ℕ} → shown rs ≡ ls → l < length ls → x ≡ cell →
      rings_of d ≡ append_to l (x, Some v) rs → d.capacity ≡ cells →
      model d ≡ pushed l (cell, v) (lists_of ls cells)
  pushed_to rs {ls} d {l} {x} {cell} v {cells} same low at is sizes =
      let long = length-shown rs in let all = ap length same in let r = get_or rs l [] in
      let lists = ap shown is ∙ map-set values rs l (r ++ (x, Some v) ∷ [])
      ∙ ap (set (shown rs) l) (values_push r x v ∙ ap (λ us. us ++ (x, v) ∷ []) (sym (shown_at rs l (omega arith)))) in
      (λ k. lists_of (lists k) (sizes k)) ∙ (λ k. pushed l (at k, v) (lists_of (same k) cells))
