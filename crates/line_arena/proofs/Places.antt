-- A cell on one of a caller's lists: what its node is, and what the functions on the lists tell of it.
use Rattle.std.proofs.Common.{◌≡◌, ◌≢◌, ℕ, ◌+◌, ◌<◌, ◌≤◌, inl, inr, List, [], ◌∷◌, ◌++◌, length, get_or}
use Rattle.std.proofs.Common.{nat_eq, if◌then◌else◌, Option, Some, None, is_some, IsSome, true, map, refl, sym, ap}
use Rattle.std.proofs.Common.{subst, ◌∙◌}
use Rattle.std.proofs.Common.{arith, ne_eqb}
use Rattle.std.proofs.Common.{eq-eqb}
use Rattle.line_arena.specs.declared.node.Node.{Node}
use Rattle.line_arena.specs.declared.chains.Chains.{Chains}
use Rattle.line_arena.specs.Rings.{no_head, node, first_of, last_of, Has, IsApart}
use Rattle.line_arena.specs.CellLists.{find_cell, first_some, look_up, first_cell, next_in, next_cell}
use Rattle.line_arena.specs.CellLists.{without}
use Rattle.line_arena.specs.Chains.{rings_of}
use Rattle.line_arena.specs.Arenas.{with_value, values, AllSome, Lists, IsArena, shown, model}
use Rattle.line_arena.proofs.Links.{has_right, apart_split, parted}
use Rattle.line_arena.proofs.Ties.{one_list, below, detached}
use Rattle.line_arena.proofs.Finds.{find_part, first_some_at}
use Rattle.line_arena.proofs.Shows.{length-shown, shown_at, shown_without}
use Rattle.line_arena.proofs.Counts.{find_gone}
use Rattle.line_arena.proofs.Seen.{same_some, some_of, find_has, here, seen}

module _ {X : Type 0} where
  find_shown : (x : ℕ) (v : X) (us bs : List (ℕ × Option X)) → (Has us x → ⊥) →
      find_cell x (values (us ++ (x, Some v) ∷ bs)) ≡ Some v
  find_shown x v [] bs nu = grind arith
  find_shown x v (a ∷ us) bs nu = let rest = find_shown x v us bs (λ w. nu (inr w)) in
      let ne : a.0 ≢ x = λ e. nu (inl e) in grind arith

  next_shown : (x : ℕ) (v : X) (us bs : List (ℕ × Option X)) → (Has us x → ⊥) →
      next_in x (values (us ++ (x, Some v) ∷ bs)) ≡ first_cell (values bs)
  next_shown x v [] bs nu = grind arith
  next_shown x v (a ∷ us) bs nu = let rest = next_shown x v us bs (λ w. nu (inr w)) in
      let ne : a.0 ≢ x = λ e. nu (inl e) in grind arith

  next_gone : (x : ℕ) (xs : List (ℕ × Option X)) → (Has xs x → ⊥) → next_in x (values xs) ≡ None
  next_gone x [] no_x = refl
  next_gone x (a ∷ xs) no_x = let rest = next_gone x xs (λ w. no_x (inr w)) in
      let ne : a.0 ≢ x = λ e. no_x (inl e) in grind arith

  some_part : (us : List (ℕ × Option X)) (a : ℕ × Option X) (bs : List (ℕ × Option X)) →
      AllSome (us ++ a ∷ bs) → (v : X) × (a.1 ≡ Some v)
  some_part [] a bs h = h.0
  some_part (u ∷ us) a bs h = some_part us a bs h.1

  some_rest : (us : List (ℕ × Option X)) (a : ℕ × Option X) (bs : List (ℕ × Option X)) →
      AllSome (us ++ a ∷ bs) → AllSome bs
  some_rest [] a bs h = h.1
  some_rest (u ∷ us) a bs h = some_rest us a bs h.1

  first_value : (b : ℕ × Option X) (bs : List (ℕ × Option X)) → AllSome (b ∷ bs) →
      first_cell (values (b ∷ bs)) ≡ Some b.0
  first_value b bs h = ap (λ o. first_cell (with_value b.0 o (values bs))) h.0.1

  module _ (c : Chains X) (h : IsArena c) (x l : ℕ) (it : Option X) (us bs : List (ℕ × Option X))
      (parts : get_or (rings_of c) l [] ≡ us ++ (x, it) ∷ bs) (low : l < length c.heads.items) where
    node_at : get_or c.block x None ≡ Some (node (last_of (c.capacity + l) us) (first_of bs (c.capacity + l)) l it)
    node_at = (detached c.block c.capacity c.heads.items (rings_of c) h.tied.tied l x it us bs low parts).0

    not_before : Has us x → ⊥
    not_before = (apart_split us (x, it) bs (subst IsApart parts (h.tied.tied.ring l low).apart)).0

    -- what f tells of the lists, it tells of this one
    shown_first : {B : Type 0} (f : List (ℕ × X) → Option B) → ((xs : List (ℕ × Option X)) → (Has xs x → ⊥) →
        f (values xs) ≡ None) → first_some f (shown (rings_of c)) ≡ f (values (us ++ (x, it) ∷ bs))
    shown_first f gone =
        let n = h.tied.tied.many in let long = length-shown (rings_of c) in
        let on : Has (get_or (rings_of c) l []) x =
        subst (λ zs. Has zs x) (sym parts) (has_right us ((x, it) ∷ bs) x (inl refl)) in
        first_some_at f (shown (rings_of c)) l (omega arith) (λ m mt ne.
        ap f (shown_at (rings_of c) m (omega arith)) ∙ gone (get_or (rings_of c) m [])
        (λ w. one_list c.block c.capacity c.heads.items (rings_of c) h.tied.tied l m x x low (omega arith) ne on w
        refl)) ∙ ap f (shown_at (rings_of c) l (omega arith)) ∙ ap (λ zs. f (values zs)) parts

  module _ (c : Chains X) (h : IsArena c) (x : ℕ) where
    -- a cell of a list is found
    pub listed_is_found : (n : Node X) → get_or c.block x None ≡ Some n → n.list < length c.heads.items →
        IsSome (look_up x (shown (rings_of c)))
    listed_is_found n e low =
        let l = n.list in let p = parted (get_or (rings_of c) l []) x (h.tied.tied.on x n e low) in
        let some = some_part p.0 (x, p.1) p.2 (subst AllSome p.3 (h.loaded l low)) in
        ap is_some (shown_first c h x l p.1 p.0 p.2 p.3 low (find_cell x) (find_gone x)
        ∙ ap (λ o. find_cell x (values (p.0 ++ (x, o) ∷ p.2))) some.1 ∙ find_shown x some.0 p.0 p.2
        (not_before c h x l p.1 p.0 p.2 p.3 low))

    module _ (v : X) (e : look_up x (shown (rings_of c)) ≡ Some v) where
      pub place : (l : ℕ) × (l < length c.heads.items) × (us : List (ℕ × Option X)) × (bs : List (ℕ × Option X)) ×
          (get_or (rings_of c) l [] ≡ us ++ (x, Some v) ∷ bs)
      place =
          let q = here c h x v e in
          let p = parted (get_or (rings_of c) q.0 []) x (find_has x (get_or (rings_of c) q.0 []) (Some v) q.2) in
          let it = find_part x p.1 p.0 p.2 (not_before c h x q.0 p.1 p.0 p.2 p.3 q.1) in
          let same : p.1 ≡ Some v = same_some p.1 (Some v) (sym it ∙ sym (ap (find_cell x) p.3) ∙ q.2) in
          (q.0, q.1, p.0, p.2, p.3 ∙ ap (λ o. p.0 ++ (x, o) ∷ p.2) same)

      -- a cell that is found holds its value
      pub found_is_held : get_or c.block x None ≡ Some (node (last_of (c.capacity + place.0) place.2)
          (first_of place.3 (c.capacity + place.0)) place.0 (Some v))
      found_is_held = node_at c h x place.0 (Some v) place.2 place.3 place.4 place.1

      pub next_is : next_cell x (shown (rings_of c)) ≡ first_cell (values place.3)
      next_is = shown_first c h x place.0 (Some v) place.2 place.3 place.4 place.1 (next_in x) (next_gone x)
          ∙ next_shown x v place.2 place.3 (not_before c h x place.0 (Some v) place.2 place.3 place.4 place.1)

      rest_some : AllSome place.3
      rest_some = some_rest place.2 (x, Some v) place.3 (subst AllSome place.4 (h.loaded place.0 place.1))

      rest_low : (y : ℕ) → Has place.3 y → y < c.capacity
      rest_low y w = below c.block c.capacity c.heads.items (rings_of c) h.tied.tied place.0 y place.1
          (subst (λ zs. Has zs y) (sym place.4) (has_right place.2 ((x, Some v) ∷ place.3) y (inr w)))

      -- the cell after the last is none, and after another the one that its node names
      pub next_none : c.capacity ≤ first_of place.3 (c.capacity + place.0) →
          next_cell x (shown (rings_of c)) ≡ None
      next_none past = next_is ∙ elim place.3 as (λ bs. ((y : ℕ) → Has bs y → y < c.capacity) →
          c.capacity ≤ first_of bs (c.capacity + place.0) → first_cell (values bs) ≡ None) [
            | [] ↦ λ low p. refl
            | b ∷ bs ↦ λ low p. let lt = low b.0 (inl refl) in absurd (omega arith)
          ] rest_low past

      pub next_some : first_of place.3 (c.capacity + place.0) < c.capacity → next_cell x (shown (rings_of c)) ≡
          Some (first_of place.3 (c.capacity + place.0))
      next_some low = next_is ∙ elim place.3 as (λ bs. AllSome bs → first_of bs (c.capacity + place.0) < c.capacity →
          first_cell (values bs) ≡ Some (first_of bs (c.capacity + place.0))) [
            | [] ↦ λ all p. absurd (omega arith)
            | b ∷ bs ↦ λ all p. first_value b bs all
          ] rest_some low

  -- a cell that a caller finds: its value, its node, the cell after it, and the lists without it
  pub record IsHeld (c : Chains X) (x : ℕ) (now : List (List (ℕ × X))) (cell : ℕ) : Type 0 where
    pub value : X
    pub found : look_up cell now ≡ Some value
    pub seen_as : look_up x (shown (rings_of c)) ≡ Some value
    pub inside : Node X
    pub on : inside.list < length c.heads.items
    pub is : get_or c.block x None ≡ Some inside
    pub item : inside.item ≡ Some value
    pub held_as : look_up x (rings_of c) ≡ Some (Some value)
    pub ends : c.capacity ≤ inside.next → next_cell cell now ≡ None
    pub goes_on : inside.next < c.capacity → next_cell cell now ≡ Some inside.next
    pub kept : shown (map (without x) (rings_of c)) ≡ map (without cell) now

  pub held : {c : Chains X} {x cell : ℕ} {now : Lists X} → IsArena c → model c ≡ now → x ≡ cell →
      is_some (look_up cell now.lists) ≡ true → IsHeld c x now.lists cell
  held {c} {x} {cell} {now} h is at some =
      let v = some_of (look_up cell now.lists) some in
      let lists : shown (rings_of c) ≡ now.lists = ap (λ a. a.lists) is in
      let e : look_up x (shown (rings_of c)) ≡ Some v.0 = (λ k. look_up (at k) (lists k)) ∙ v.1 in
      let next : next_cell x (shown (rings_of c)) ≡ next_cell cell now.lists = λ k. next_cell (at k) (lists k) in
      record {
        value = v.0;
        found = v.1;
        seen_as = e;
        inside = _;
        on = (place c h x v.0 e).1;
        is = found_is_held c h x v.0 e;
        item = refl;
        held_as = (seen c h x v.0 e).1;
        ends = λ past. sym next ∙ next_none c h x v.0 e past;
        goes_on = λ low. sym next ∙ next_some c h x v.0 e low;
        kept = shown_without x (rings_of c) ∙ (λ k. map (without (at k)) (lists k));
      }

  -- the first cell of a list
  pub front_is : (c : Chains X) (h : IsArena c) (l : ℕ) → l < length c.heads.items →
      first_cell (get_or (shown (rings_of c)) l []) ≡ (if nat_eq (get_or c.heads.items l no_head).count 0 then
      None else Some (get_or c.heads.items l no_head).first)
  front_is c h l low =
      let n = h.tied.tied.many in let g = h.tied.tied.ring l low in
      let hd = get_or c.heads.items l no_head in
      ap first_cell (shown_at (rings_of c) l (omega arith)) ∙ elim (get_or (rings_of c) l []) as
      (λ r. AllSome r → hd.count ≡ length r → hd.first ≡ first_of r (c.capacity + l) →
      first_cell (values r) ≡ (if nat_eq hd.count 0 then None else Some hd.first)) [
        | [] ↦ λ all count first. sym (ap (λ b. if b then None else Some hd.first) (eq-eqb hd.count 0 count))
        | a ∷ r ↦ λ all count first. first_value a r all ∙ ap Some (sym first)
            ∙ sym (ap (λ b. if b then None else Some hd.first)
            (ne_eqb hd.count 0 (λ e. absurd (omega (arith, e, count)))))
      ] (h.loaded l low) g.count g.first
