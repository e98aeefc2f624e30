-- What the steps of the code leave of the lists.
use Rattle.std.proofs.Common.{◌≡◌, ◌≢◌, ℕ, ◌+◌, ◌-◌, ◌<◌, ◌≤◌, inl, inr, List, [], ◌∷◌, ◌++◌, map, length, get_or}
use Rattle.std.proofs.Common.{set, nat_lt, if◌then◌else◌, Option, Some, None, option_map, refl, sym, ap, subst, ◌∙◌}
use Rattle.std.proofs.Common.{arith, length-set, get_or-set_same, get_or-set_other, length-append, ext_get_or}
use Rattle.std.proofs.lemmas.Bool.{cases_eq}
use Rattle.std.proofs.lemmas.List.{get_or-map, length-map}
use Rattle.line_arena.specs.declared.node.Node.{Node}
use Rattle.line_arena.specs.declared.node.Head.{Head}
use Rattle.line_arena.specs.Filled.{IsFilled}
use Rattle.line_arena.specs.Rings.{no_head, node, or_blank, with_next, with_prev, edit, first_of, last_of, Has}
use Rattle.line_arena.specs.Rings.{IsApart, Tied, rings}
use Rattle.line_arena.specs.CellLists.{without, find_cell, look_up}
use Rattle.line_arena.proofs.Finds.{find_absent, find_part, look_at_list}
use Rattle.line_arena.proofs.Links.{has_left, has_right, apart_split, parted}
use Rattle.line_arena.proofs.Edits.{edit_other, edit_same, last_in, first_in, within}
use Rattle.line_arena.proofs.Ties.{on_list, one_list, rings_are, attached, detached}
use Rattle.std.proofs.Common.{ne_eqb}
use Rattle.std.proofs.lemmas.List.Sums.{sum_by-set}
use Rattle.line_arena.specs.Chains.{total}

module _ {X : Type 0} where
  -- the cell a is a used one, and its node names the list l
  abbrev pub IsOn : ℕ → List (Option (Node X)) → ℕ → Type 0
  IsOn l cs a = (n : Node X) × (get_or cs a None ≡ Some n) × (n.list ≡ l)

  pub edit_on : (cap : ℕ) (f : Node X → Node X) (cs : List (Option (Node X))) (a y l : ℕ) → length cs ≡ cap →
      ((m : Node X) → (f m).list ≡ m.list) → IsOn l cs y → IsOn l (edit cap f cs a) y
  edit_on cap f cs a y l long keeps on = elim (cases_eq y a) [
    | inl e ↦ (
      f on.0,
      subst (λ z. get_or (edit cap f cs z) y None ≡ Some (f on.0)) e (edit_same cap f cs y on.0 long on.1),
      keeps on.0 ∙ on.2,
    )
    | inr ne ↦ (on.0, edit_other cap f cs a y ne ∙ on.1, on.2)
  ]

  pub edit_filled : (cap : ℕ) (f : Node X → Node X) (cs : List (Option (Node X))) (a y : ℕ) → length cs ≡ cap →
      ((m : Node X) → (f m).list ≡ m.list) → IsFilled cs y → IsFilled (edit cap f cs a) y
  edit_filled cap f cs a y long keeps full =
      let on = edit_on cap f cs a y full.0.list long keeps (full.0, full.1, refl) in (on.0, on.1)

  pub edit_none : (cap : ℕ) (f : Node X → Node X) (cs : List (Option (Node X))) (a y : ℕ) → length cs ≡ cap →
      get_or cs y None ≡ None → get_or (edit cap f cs a) y None ≡ None
  edit_none cap f cs a y long none =
      let case = cases_eq y a in let here = get_or-set_same cs a (option_map f (get_or cs a None)) None in
      let there = get_or-set_other cs a y (option_map f (get_or cs a None)) None in grind arith

  pub without_absent : (x : ℕ) (xs : List (ℕ × Option X)) → (Has xs x → ⊥) → without x xs ≡ xs
  without_absent x [] no_x = refl
  without_absent x (a ∷ xs) no_x = ap (λ b. if b then without x xs else a ∷ without x xs)
      (ne_eqb a.0 x (λ e. no_x (inl e))) ∙ ap (λ ys. a ∷ ys) (without_absent x xs (λ w. no_x (inr w)))

  without_parts : (x : ℕ) (it : Option X) (us bs : List (ℕ × Option X)) → (Has us x → ⊥) → (Has bs x → ⊥) →
      without x (us ++ (x, it) ∷ bs) ≡ us ++ bs
  without_parts x it [] bs nu nb = let rest = without_absent x bs nb in grind arith
  without_parts x it (a ∷ us) bs nu nb = let ne : a.0 ≢ x = λ e. nu (inl e) in
      let rest = without_parts x it us bs (λ w. nu (inr w)) nb in grind arith

module _ {X : Type 0} (cs : List (Option (Node X))) (cap : ℕ) (heads : List Head)
    (t : Tied cs cap heads (rings cs heads)) where
  abbrev rs : List (List (ℕ × Option X))
  rs = rings cs heads

  abbrev Result : List (Option (Node X)) → List Head → List (List (ℕ × Option X)) → Type 0
  Result ds hs ss = Tied ds cap hs (rings ds hs) × (rings ds hs ≡ ss)

  from_tied : (ds : List (Option (Node X))) (hs : List Head) (ss : List (List (ℕ × Option X))) →
      Tied ds cap hs ss → Result ds hs ss
  from_tied ds hs ss m = let e = rings_are ds cap hs ss m in (subst (Tied ds cap hs) (sym e) m, e)

  pub attach_made : (l x : ℕ) (it : Option X) (h k : Head) (ds : List (Option (Node X))) →
      l < length heads → x < cap → get_or cs x None ≡ None → h ≡ get_or heads l no_head
      → k ≡ record h { first = if nat_lt h.last cap then h.first else x } → ds ≡ edit cap (with_next x)
      (set cs x (Some (node h.last (cap + l) l it))) h.last
      → Result ds (set heads l (record k { last = x; count = k.count + 1 }))
      (set rs l (get_or rs l [] ++ (x, it) ∷ []))
  attach_made l x it h k ds lt small free eh ek ed =
      rw (ed, ek, eh) (from_tied _ _ _ (attached cs cap heads rs t l x it lt small free))

  -- the last cell of a list is a used one, and on it
  pub last_near : (l x : ℕ) (h : Head) (n : Node X) → l < length heads → get_or cs x None ≡ None →
      h ≡ get_or heads l no_head → h.last < cap → IsOn l (set cs x (Some n)) h.last
  last_near l x h n lt free eh low =
      let r = get_or rs l [] in
      let e : h.last ≡ last_of (cap + l) r = ap (λ h. h.last) eh ∙ (t.ring l lt).last in
      elim (last_in (cap + l) r) [
        | inl i ↦ let at_end = e ∙ i in absurd (omega arith)
        | inr w ↦
            let s = on_list cs cap heads rs t l h.last lt (subst (Has r) (sym e) w) in
            let ne : h.last ≢ x = λ i. let two : Some (node s.0 s.1 l s.2) ≡ None =
            sym s.3 ∙ ap (λ k. get_or cs k None) i ∙ free in cc in
            (node s.0 s.1 l s.2, get_or-set_other cs x h.last (Some n) None ne ∙ s.3, refl)
      ]

  module _ (x : ℕ) (nd : Node X) (here : get_or cs x None ≡ Some nd) (lt : nd.list < length heads) where
    abbrev l : ℕ
    l = nd.list

    abbrev r : List (ℕ × Option X)
    r = get_or rs l []

    parts : (us : List (ℕ × Option X)) × (it : Option X) × (bs : List (ℕ × Option X)) × (r ≡ us ++ (x, it) ∷ bs)
    parts = parted r x (t.on x nd here lt)

    node_is : nd ≡ node (last_of (cap + l) parts.0) (first_of parts.2 (cap + l)) l parts.1
    node_is = ap or_blank (sym here ∙ (detached cs cap heads rs t l x parts.1 parts.0 parts.2 lt parts.3).0)

    cut : (Has parts.0 x → ⊥) × (Has parts.2 x → ⊥) × IsApart (parts.0 ++ parts.2)
    cut = apart_split parts.0 (x, parts.1) parts.2 (subst IsApart parts.3 (t.ring l lt).apart)

    near : (y : ℕ) → Has r y → y ≢ x → IsOn l (set cs x None) y
    near y w ne = let s =
        on_list cs cap heads rs t l y lt w in (node s.0 s.1 l s.2, get_or-set_other cs x y None None ne ∙ s.3, refl)

    -- the neighbours are used cells of the list, or its end
    pub prev_near : nd.prev < cap → IsOn l (set cs x None) nd.prev
    prev_near low =
        let e : nd.prev ≡ last_of (cap + l) parts.0 = ap (λ n. n.prev) node_is in
        elim (last_in (cap + l) parts.0) [
          | inl i ↦ let at_end = e ∙ i in absurd (omega arith)
          | inr w ↦ let v = rw (← e) at w in
              near nd.prev (rw parts.3 (has_left parts.0 ((x, parts.1) ∷ parts.2) nd.prev v))
              (λ i. cut.0 (subst (Has parts.0) i v))
        ]

    pub next_near : nd.next < cap → IsOn l (set cs x None) nd.next
    next_near low =
        let e : nd.next ≡ first_of parts.2 (cap + l) = ap (λ n. n.next) node_is in
        elim (first_in parts.2 (cap + l)) [
          | inl i ↦ let at_end = e ∙ i in absurd (omega arith)
          | inr w ↦ let v = rw (← e) at w in
              near nd.next (rw parts.3 (has_right parts.0 ((x, parts.1) ∷ parts.2) nd.next (inr v)))
              (λ i. cut.1 (subst (Has parts.2) i v))
        ]

    pub some : 1 ≤ (get_or heads l no_head).count
    some = let c = (t.ring l lt).count ∙ ap length parts.3 in
        omega (arith, c, length-append parts.0 ((x, parts.1) ∷ parts.2))

    -- the lists without the cell
    lists_without : set rs l (parts.0 ++ parts.2) ≡ map (without x) rs
    lists_without =
        let long = length-set rs l (parts.0 ++ parts.2) in let many = t.many in
        ext_get_or [] (set rs l (parts.0 ++ parts.2)) (map (without x) rs) (long ∙ sym (length-map rs (without x)))
        (λ m within_all.
        let in_rs : m < length rs = omega arith in
        elim (cases_eq m l) [
          | inl i ↦ ap (λ k. get_or (set rs l (parts.0 ++ parts.2)) k []) i ∙ get_or-set_same rs l
              (parts.0 ++ parts.2) [] (omega (arith, lt))
              ∙ sym (without_parts x parts.1 parts.0 parts.2 cut.0 cut.1) ∙ ap (without x) (sym parts.3)
              ∙ sym (ap (λ k. without x (get_or rs k [])) i) ∙ sym (get_or-map (without x) rs m [] [] in_rs)
          | inr ne ↦ get_or-set_other rs l m (parts.0 ++ parts.2) [] ne
              ∙ sym (without_absent x (get_or rs m []) (λ w. one_list cs cap heads rs t l m x x lt (omega arith) ne
              (t.on x nd here lt) w refl)) ∙ sym (get_or-map (without x) rs m [] [] in_rs)
        ])

    -- what the look-up finds at the cell
    pub found : look_up x rs ≡ Some nd.item
    found =
        let many = t.many in
        look_at_list x parts.1 rs l (omega (arith, lt)) (ap (find_cell x) parts.3 ∙ find_part x parts.1 parts.0
        parts.2 cut.0) (λ m mt ne.
        find_absent x (get_or rs m []) (λ w. one_list cs cap heads rs t l m x x lt (omega arith) ne
        (t.on x nd here lt) w refl))
        ∙ ap (λ (n : Node X). Some n.item) (sym node_is)

    pub detach_made : (h k : Head) (ds : List (Option (Node X))) → h ≡ get_or heads l no_head →
        k ≡ record h {
          first = if nat_lt nd.prev cap then h.first else nd.next;
          last = if nat_lt nd.next cap then h.last else nd.prev;
        } → ds ≡ edit cap (with_prev nd.prev) (edit cap (with_next nd.next) (set cs x None) nd.prev) nd.next
        → Result ds (set heads l (record k { count = k.count - 1 })) (map (without x) rs)
    detach_made h k ds eh ek ed =
        let base = from_tied _ _ _ (detached cs cap heads rs t l x parts.1 parts.0 parts.2 lt parts.3).1 in
        rw (ed, ek, eh, node_is) (base.0, base.1 ∙ lists_without)

module _ {X : Type 0} where
  -- the cells other than x are used as before, and those of the number l unchanged
  abbrev pub Kept : ℕ → ℕ → List (Option (Node X)) → List (Option (Node X)) → Type 0
  Kept l x cs ds =
      (y : ℕ) → y ≢ x → (IsFilled cs y → IsFilled ds y) × (get_or cs y None ≡ None → get_or ds y None ≡ None)
      × ((n : Node X) → get_or cs y None ≡ Some n → n.list ≡ l → get_or ds y None ≡ Some n)

  pub kept_set : (l : ℕ) (cs : List (Option (Node X))) (x : ℕ) (o : Option (Node X)) → Kept l x cs (set cs x o)
  kept_set l cs x o y ne = let same = get_or-set_other cs x y o None ne in
      ((λ full. (full.0, same ∙ full.1)), (λ none. same ∙ none), λ n is _. same ∙ is)

  -- an edit of a cell of another number
  pub kept_edit : (l m cap : ℕ) (f : Node X → Node X) (cs ds : List (Option (Node X))) (a x : ℕ) → length ds ≡ cap →
      ((n : Node X) → (f n).list ≡ n.list) → m < l → (a < cap → IsOn m ds a) → Kept l x cs ds →
      Kept l x cs (edit cap f ds a)
  kept_edit l m cap f cs ds a x long keeps low on k y ne = (
    (λ full. edit_filled cap f ds a y long keeps ((k y ne).0 full)),
    (λ none. edit_none cap f ds a y long ((k y ne).1 none)),
    λ n is at. let was = (k y ne).2 n is at in elim (cases_eq y a) [
      | inr other ↦ edit_other cap f ds a y other ∙ was
      | inl i ↦
          let o = on (omega (arith, within ds y n was, long, i)) in
          let same : n.list ≡ o.0.list = ap (λ q. (or_blank q).list) (sym was ∙ ap (λ k. get_or ds k None) i ∙ o.1) in
          absurd (omega (arith, same, o.2, at, low))
    ],
  )

pub total_down : (heads : List Head) (l : ℕ) (h k : Head) → l < length heads → h ≡ get_or heads l no_head →
    1 ≤ h.count → k.count ≡ h.count - 1 → total (set heads l k) + 1 ≡ total heads
total_down heads l h k lt is some less =
    let changed = sum_by-set (λ (h : Head). h.count) heads l k no_head lt in
    let same : (get_or heads l no_head).count ≡ h.count = ap (λ (h : Head). h.count) (sym is) in
    omega (arith, changed, same, some, less)
