-- What the lists are once one cell gets another value.
use Rattle.std.proofs.Common.{◌≡◌, ◌≢◌, ℕ, ◌+◌, ◌<◌, suc, inl, inr, true, false, List, [], ◌∷◌, map, length, get_or}
use Rattle.std.proofs.Common.{set, nat_eq, if◌then◌else◌, Option, Some, None, refl, sym, ap, subst, ◌∙◌, arith}
use Rattle.std.proofs.Common.{length-set, get_or-set_same, get_or-set_other, ne_eqb, eq-eqb}
use Rattle.std.proofs.lemmas.Bool.{cases_eq}
use Rattle.std.proofs.lemmas.List.{get_or-map, length-map}
use Rattle.line_arena.specs.declared.node.Node.{Node}
use Rattle.line_arena.specs.declared.node.Head.{Head}
use Rattle.line_arena.specs.declared.chains.Chains.{Chains}
use Rattle.line_arena.specs.Filled.{IsFilled}
use Rattle.line_arena.specs.Rings.{no_head, node, or_blank, at, with_item, with_value_of, first_of, last_of, Linked}
use Rattle.line_arena.specs.Rings.{Has, IsApart, IsRing, Tied, rings}
use Rattle.line_arena.specs.CellLists.{look_up, rewritten}
use Rattle.line_arena.specs.Chains.{rings_of}
use Rattle.line_arena.specs.Arenas.{values, AllSome, IsArena, lists_of, model, shown}
use Rattle.line_arena.proofs.Edits.{within}
use Rattle.line_arena.proofs.Ties.{rings_are}
use Rattle.line_arena.proofs.FreeCells.{spare_same}
use Rattle.line_arena.proofs.Shows.{shown_mapped}
use Rattle.line_arena.proofs.Places.{place, found_is_held}

module _ {X : Type 0} (x : ℕ) (o : Option X) where
  abbrev R : List (ℕ × Option X) → List (ℕ × Option X)
  R xs = rewritten x o xs

  has_r : (xs : List (ℕ × Option X)) (y : ℕ) → Has (R xs) y → Has xs y
  has_r [] y w = w
  has_r (a ∷ xs) y (inl i) = inl i
  has_r (a ∷ xs) y (inr w) = inr (has_r xs y w)

  has_l : (xs : List (ℕ × Option X)) (y : ℕ) → Has xs y → Has (R xs) y
  has_l [] y w = w
  has_l (a ∷ xs) y (inl i) = inl i
  has_l (a ∷ xs) y (inr w) = inr (has_l xs y w)

  apart_r : (xs : List (ℕ × Option X)) → IsApart xs → IsApart (R xs)
  apart_r [] d = tt
  apart_r (a ∷ xs) d = ((λ w. d.0 (has_r xs a.0 w)), apart_r xs d.1)

  first_r : (xs : List (ℕ × Option X)) (e : ℕ) → first_of (R xs) e ≡ first_of xs e
  first_r [] e = refl
  first_r (a ∷ xs) e = refl

  last_r : (p : ℕ) (xs : List (ℕ × Option X)) → last_of p (R xs) ≡ last_of p xs
  last_r p [] = refl
  last_r p (a ∷ xs) = last_r a.0 xs

  length_r : (xs : List (ℕ × Option X)) → length (R xs) ≡ length xs
  length_r [] = refl
  length_r (a ∷ xs) = ap suc (length_r xs)

  module _ (cs : List (Option (Node X))) (n : Node X) (here : get_or cs x None ≡ Some n) where
    abbrev ds : List (Option (Node X))
    ds = set cs x (Some (with_item o n))

    x_is : get_or ds x None ≡ Some (with_item o n)
    x_is = get_or-set_same cs x (Some (with_item o n)) None (within cs x n here)

    y_is : (y : ℕ) → y ≢ x → get_or ds y None ≡ get_or cs y None
    y_is y ne = get_or-set_other cs x y (Some (with_item o n)) None ne

    linked_r : (l p : ℕ) (xs : List (ℕ × Option X)) (e : ℕ) → Linked cs l p xs e → Linked ds l p (R xs) e
    linked_r l p [] e s = tt
    linked_r l p (a ∷ xs) e s = (
      subst (λ f. get_or ds a.0 None ≡ Some (node p f l (if nat_eq a.0 x then o else a.1))) (sym (first_r xs e))
          (elim (cases_eq a.0 x) [
            | inl i ↦
                let same : n ≡ node p (first_of xs e) l a.1 =
                ap or_blank (sym here ∙ sym (ap (λ k. get_or cs k None) i) ∙ s.0) in
                ap (λ k. get_or ds k None) i ∙ x_is ∙ ap (λ m. Some (with_item o m)) same
                ∙ ap (λ b. Some (node p (first_of xs e) l (if b then o else a.1))) (sym (eq-eqb a.0 x i))
            | inr ne ↦ y_is a.0 ne ∙ s.0 ∙ ap (λ b. Some (node p (first_of xs e) l (if b then o else a.1)))
                (sym (ne_eqb a.0 x ne))
          ]),
      linked_r l a.0 xs e s.1,
    )

    pub tied_r : (cap : ℕ) (heads : List Head) → Tied cs cap heads (rings cs heads) →
        Tied ds cap heads (rings ds heads) × (rings ds heads ≡ map (rewritten x o) (rings cs heads))
    tied_r cap heads t =
        let rs = rings cs heads in let ss = map R rs in let long = length-map rs R in let many = t.many in
        let at_l : (l : ℕ) → l < length heads → get_or ss l [] ≡ R (get_or rs l []) =
        λ l lt. get_or-map R rs l [] [] (omega arith) in
        let m : Tied ds cap heads ss = record {
          cells = length-set cs x (Some (with_item o n)) ∙ t.cells;
          many = long ∙ many;
          ring = λ l lt.
              let g = t.ring l lt in let r = get_or rs l [] in
              subst (IsRing ds cap l (get_or heads l no_head)) (sym (at_l l lt)) (record {
                linked = linked_r l (cap + l) r (cap + l) g.linked;
                first = g.first ∙ sym (first_r r (cap + l));
                last = g.last ∙ sym (last_r (cap + l) r);
                count = g.count ∙ sym (length_r r);
                apart = apart_r r g.apart;
              });
          on = λ y q is low. elim (cases_eq y x) [
            | inl i ↦
                let w : q.list ≡ n.list =
                ap (λ z. (or_blank z).list) (sym is ∙ ap (λ k. get_or ds k None) i ∙ x_is) in
                let listed : n.list < length heads = omega (arith, low, w) in
                rw (w, at_l n.list listed) (has_l (get_or rs n.list []) y (rw i (t.on x n here listed)))
            | inr ne ↦ subst (λ zs. Has zs y) (sym (at_l q.list low))
                (has_l (get_or rs q.list []) y (t.on y q (sym (y_is y ne) ∙ is) low))
          ];
        } in
        let e = rings_are ds cap heads ss m in (subst (Tied ds cap heads) (sym e) m, e)

module _ {X : Type 0} where
  some_r : (x : ℕ) (w : X) (xs : List (ℕ × Option X)) → AllSome xs → AllSome (rewritten x (Some w) xs)
  some_r x w [] h = tt
  some_r x w (a ∷ xs) h = (
    elim (nat_eq a.0 x) as (λ b. (v : X) × ((if b then Some w else a.1) ≡ Some v))
        [ true ↦ (w, refl) | false ↦ h.0 ],
    some_r x w xs h.1,
  )

  values_r : (x : ℕ) (w : X) (xs : List (ℕ × Option X)) → AllSome xs → values (rewritten x (Some w) xs) ≡
      rewritten x w (values xs)
  values_r x w [] h = refl
  values_r x w (a ∷ xs) h = let rest = values_r x w xs h.1 in let some = h.0.1 in grind arith

  pub arena_written : (c : Chains X) (h : IsArena c) (x : ℕ) (v w : X) → look_up x (shown (rings_of c)) ≡ Some v →
      let d : Chains X = record c { block = with_value_of c.block x w } in
      IsArena d × (model d ≡ lists_of (map (rewritten x w) (shown (rings_of c))) c.capacity)
  arena_written c h x v w e =
      let p = place c h x v e in let here = found_is_held c h x v e in
      let nd = node (last_of (c.capacity + p.0) p.2) (first_of p.3 (c.capacity + p.0)) p.0 (Some v) in
      let rs = rings_of c in let hs = c.heads.items in
      let is : at c.block x ≡ nd = ap or_blank here in
      let made = tied_r x (Some w) c.block nd here c.capacity hs h.tied.tied in
      let new = Some (with_item (Some w) (at c.block x)) in
      let d : Chains X = record c { block = with_value_of c.block x w } in
      let same : set c.block x (Some (with_item (Some w) nd)) ≡ d.block =
      ap (λ (m : Node X). set c.block x (Some (with_item (Some w) m))) (sym is) in
      let tied = rw same at made.0 in
      let are : rings_of d ≡ map (rewritten x (Some w)) rs = ap (λ bs. rings bs hs) (sym same) ∙ made.1 in
      let n = h.tied.tied.many in let low = p.1 in (
        record {
          tied = record { tied = tied; small = h.tied.small };
          total = h.total;
          uses = (
            (λ y lt. elim (cases_eq y x) [
              | inl i ↦ subst (IsFilled d.block) (sym i) (
                with_item (Some w) (at c.block x),
                get_or-set_same c.block x new None (within c.block x nd here),
              )
              | inr ne ↦ let f = h.uses.0 y lt in (f.0, get_or-set_other c.block x y new None ne ∙ f.1)
            ]),
            λ y le. get_or-set_other c.block x y new None
                (λ i. let two : Some nd ≡ None = sym here ∙ sym (ap (λ k. get_or c.block k None) i) ∙ h.uses.1 y le in
                cc) ∙ h.uses.1 y le,
          );
          loaded = λ l lt. subst AllSome (sym (ap (λ zs. get_or zs l []) are
              ∙ get_or-map (rewritten x (Some w)) rs l [] [] (omega arith)))
              (some_r x w (get_or rs l []) (h.loaded l lt));
          spare = spare_same (length hs) c.spares c.free c.block d.block (λ y m there at_end. elim (cases_eq y x) [
            | inr ne ↦ get_or-set_other c.block x y new None ne ∙ there
            | inl i ↦ let same : p.0 ≡ m.list =
                ap (λ o. (or_blank o).list) (sym here ∙ sym (ap (λ k. get_or c.block k None) i) ∙ there) in
                absurd (omega (arith, same, at_end, low))
          ]) h.spare;
        },
        ap (λ ls. lists_of ls c.capacity) (ap shown are ∙ shown_mapped (rewritten x (Some w)) (rewritten x w) rs
            (λ l lo. values_r x w (get_or rs l []) (h.loaded l (omega (arith, lo, n))))),
      )
