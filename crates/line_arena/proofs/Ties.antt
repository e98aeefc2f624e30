-- What holds of all the lists after a cell is put at the end of one, or taken off.
use Rattle.std.proofs.Common.{◌≡◌, ◌≢◌, ℕ, ◌+◌, ◌-◌, ◌<◌, ◌≤◌, inl, inr, List, [], ◌∷◌, ◌++◌, map, length, get_or}
use Rattle.std.proofs.Common.{set, nat_lt, if◌then◌else◌, Option, Some, None, refl, sym, ap, subst, ◌∙◌, arith}
use Rattle.std.proofs.Common.{length-set, get_or-set_same, get_or-set_other, lt-ltb, le-ltb, length-append}
use Rattle.std.proofs.Common.{ext_get_or}
use Rattle.std.proofs.lemmas.Bool.{cases_eq}
use Rattle.std.proofs.lemmas.List.{get_or-map, length-map, append-nil}
use Rattle.line_arena.specs.declared.node.Node.{Node}
use Rattle.line_arena.specs.declared.node.Head.{Head}
use Rattle.line_arena.specs.Rings.{no_head, node, or_blank, with_next, with_prev, edit, chain, first_of, last_of}
use Rattle.line_arena.specs.Rings.{Linked, Has, IsApart, IsRing, Tied, rings}
use Rattle.line_arena.proofs.Links.{linked_split, linked_join, linked_same, linked_at, has_left, has_right}
use Rattle.line_arena.proofs.Links.{has_either, last_of_snoc, apart_split, apart_push, chain_is}
use Rattle.line_arena.proofs.Edits.{within, length-edit, edit_other, edit_back, last_in, first_in, apart_cross}
use Rattle.line_arena.proofs.Edits.{end_moved, start_moved}

module _ {X : Type 0} where
  first_push : (us : List (ℕ × Option X)) (a : ℕ × Option X) (e cap : ℕ) (first : ℕ) → cap ≤ e →
      first ≡ first_of us e → ((y : ℕ) → Has us y → y < cap)
      → (if nat_lt (last_of e us) cap then first else a.0) ≡ first_of (us ++ a ∷ []) e
  first_push [] a e cap first le is low = ap (λ b. if b then first else a.0) (le-ltb e cap le)
  first_push (u ∷ us) a e cap first le is low =
      let lt : last_of u.0 us < cap =
      low (last_of u.0 us) (elim (last_in u.0 us) [ inl i ↦ inl (sym i) | inr w ↦ inr w ]) in
      ap (λ b. if b then first else a.0) (lt-ltb (last_of u.0 us) cap lt) ∙ is

  last_without : (us : List (ℕ × Option X)) (p : ℕ) (bs : List (ℕ × Option X)) (b : ℕ × Option X) →
      last_of p (us ++ b ∷ bs) ≡ last_of b.0 bs
  last_without [] p bs b = refl
  last_without (a ∷ us) p bs b = last_without us a.0 bs b

  first_cut : (us : List (ℕ × Option X)) (a : ℕ × Option X) (bs : List (ℕ × Option X)) (e cap first : ℕ) → cap ≤ e →
      first ≡ first_of (us ++ a ∷ bs) e → ((y : ℕ) → Has us y → y < cap)
      → (if nat_lt (last_of e us) cap then first else first_of bs e) ≡ first_of (us ++ bs) e
  first_cut [] a bs e cap first le is low = ap (λ b. if b then first else first_of bs e) (le-ltb e cap le)
  first_cut (u ∷ us) a bs e cap first le is low =
      let lt : last_of u.0 us < cap =
      low (last_of u.0 us) (elim (last_in u.0 us) [ inl i ↦ inl (sym i) | inr w ↦ inr w ]) in
      ap (λ b. if b then first else first_of bs e) (lt-ltb (last_of u.0 us) cap lt) ∙ is

  last_cut : (us : List (ℕ × Option X)) (a : ℕ × Option X) (bs : List (ℕ × Option X)) (e cap last : ℕ) → cap ≤ e →
      last ≡ last_of e (us ++ a ∷ bs) → ((y : ℕ) → Has bs y → y < cap)
      → (if nat_lt (first_of bs e) cap then last else last_of e us) ≡ last_of e (us ++ bs)
  last_cut us a [] e cap last le is low = ap (λ b. if b then last else last_of e us) (le-ltb e cap le)
      ∙ ap (last_of e) (sym (append-nil us))
  last_cut us a (b ∷ bs) e cap last le is low =
      ap (λ c. if c then last else last_of e us) (lt-ltb b.0 cap (low b.0 (inl refl))) ∙ is
      ∙ last_without us e (b ∷ bs) a ∙ sym (last_without us e bs b)

  apart_bs : (us bs : List (ℕ × Option X)) → IsApart (us ++ bs) → IsApart bs
  apart_bs [] bs d = d
  apart_bs (a ∷ us) bs d = apart_bs us bs d.1

  apart_us : (us bs : List (ℕ × Option X)) → IsApart (us ++ bs) → IsApart us
  apart_us [] bs d = tt
  apart_us (a ∷ us) bs d = ((λ w. d.0 (has_left us bs a.0 w)), apart_us us bs d.1)

module _ {X : Type 0} (cs : List (Option (Node X))) (cap : ℕ) (heads : List Head) (rs : List (List (ℕ × Option X)))
    (t : Tied cs cap heads rs) where
  abbrev r : ℕ → List (ℕ × Option X)
  r l = get_or rs l []

  abbrev hd : ℕ → Head
  hd l = get_or heads l no_head

  -- a cell on the list l is a used one
  pub on_list : (l y : ℕ) → l < length heads → Has (r l) y → (q : ℕ) × (n : ℕ) × (it : Option X) ×
      (get_or cs y None ≡ Some (node q n l it))
  on_list l y lt w = linked_at cs l (cap + l) (r l) (cap + l) y (t.ring l lt).linked w

  pub below : (l y : ℕ) → l < length heads → Has (r l) y → y < cap
  below l y lt w = let s = on_list l y lt w in omega (arith, within cs y (node s.0 s.1 l s.2) s.3, t.cells)

  -- no cell is on two lists
  pub one_list : (l m y z : ℕ) → l < length heads → m < length heads → m ≢ l → Has (r l) z → Has (r m) y → y ≢ z
  one_list l m y z lt mt ne w v e =
      let a = on_list l z lt w in let b = on_list m y mt v in
      ne (ap (λ o. (or_blank o).list) (sym b.3 ∙ ap (λ k. get_or cs k None) e ∙ a.3))

  -- the lists that the heads begin are these
  pub rings_are : rings cs heads ≡ rs
  unfolding rings
  rings_are =
      let read = λ (h : Head). chain cs h.count h.first in
      ext_get_or [] (map read heads) rs (length-map heads read ∙ sym t.many) (λ l lt.
      let long = length-map heads read in let g = t.ring l (omega arith) in
      get_or-map read heads l no_head [] (omega arith) ∙ (λ k. chain cs (g.count k) (g.first k))
      ∙ chain_is cs l (cap + l) (r l) (cap + l) g.linked)

  -- one list has other cells, and the cells of the others are as before
  retied : (ds : List (Option (Node X))) (l : ℕ) (new : Head) (zs : List (ℕ × Option X)) → l < length heads →
      length ds ≡ cap → IsRing ds cap l new zs →
      ((m y : ℕ) → m < length heads → m ≢ l → Has (r m) y → get_or ds y None ≡ get_or cs y None) →
      ((y : ℕ) (q : Node X) → get_or ds y None ≡ Some q → q.list < length heads → (q.list ≡ l → Has zs y)
      × (q.list ≢ l → Has (r q.list) y)) → Tied ds cap (set heads l new) (set rs l zs)
  retied ds l new zs lt long ring others on =
      let many = t.many in let heads_long = length-set heads l new in
      let here : get_or (set rs l zs) l [] ≡ zs = get_or-set_same rs l zs [] (omega arith) in
      record {
        cells = long;
        many = length-set rs l zs ∙ many ∙ sym heads_long;
        ring = λ m mt. elim (cases_eq m l) [
          | inl i ↦ rw (i, get_or-set_same heads l new no_head lt, here) ring
          | inr ne ↦ (let k = t.ring m (omega arith) in
              rw (get_or-set_other heads l m new no_head ne, get_or-set_other rs l m zs [] ne) (record {
                linked = linked_same cs ds m (cap + m) (r m) (cap + m) (λ y w. others m y (omega arith) ne w) k.linked;
                first = k.first;
                last = k.last;
                count = k.count;
                apart = k.apart;
              }))
        ];
        on = λ y q is low. (let o = on y q is (omega (arith, low, heads_long)) in
            elim (cases_eq q.list l) [
              | inl i ↦ rw (i, here) (o.0 i)
              | inr ne ↦ rw (get_or-set_other rs l q.list zs [] ne) (o.1 ne)
            ]);
      }

  -- a cell that is on no list is put at the end of the list l
  pub attached : (l x : ℕ) (it : Option X) → l < length heads → x < cap → get_or cs x None ≡ None
      → Tied (edit cap (with_next x) (set cs x (Some (node (hd l).last (cap + l) l it))) (hd l).last) cap
      (set heads l (record {
        first = if nat_lt (hd l).last cap then (hd l).first else x;
        last = x;
        count =
            (hd l).count + 1;
      }))
      (set rs l (r l ++ (x, it) ∷ []))
  attached l x it lt small free =
      let e = cap + l in let g = t.ring l lt in let us = r l in let h = hd l in let p = h.last in
      let n = node p e l it in let c1 = set cs x (Some n) in let ds = edit cap (with_next x) c1 p in
      let new : Head = record { first = if nat_lt p cap then h.first else x; last = x; count = h.count + 1 } in
      let long1 = length-set cs x (Some n) in let many = t.many in let cells = t.cells in
      let long : length ds ≡ cap = length-edit cap (with_next x) c1 p ∙ long1 ∙ cells in
      -- a used cell is not the new one
      let apart : (m y : ℕ) → m < length heads → Has (r m) y → y ≢ x = λ m y mt w i.
      let s = on_list m y mt w in
      let two : Some (node s.0 s.1 m s.2) ≡ None = sym s.3 ∙ ap (λ k. get_or cs k None) i ∙ free in cc in
      let high : (y : ℕ) → y < cap → y ≢ e = λ y yl i. absurd (omega arith) in
      let not_new : x ≢ p = λ i. elim (last_in e us) [
        | inl j ↦ high x small (i ∙ g.last ∙ j)
        | inr w ↦ apart l (last_of e us) lt w (sym (i ∙ g.last))
      ] in
      let keep1 : (y : ℕ) → y ≢ x → get_or c1 y None ≡ get_or cs y None =
      λ y ne. get_or-set_other cs x y (Some n) None ne in
      let x_is : get_or ds x None ≡ Some n =
      edit_other cap (with_next x) c1 p x not_new ∙ get_or-set_same cs x (Some n) None (omega arith) in
      let linked1 : Linked c1 l e us e = linked_same cs c1 l e us e (λ y w. keep1 y (apart l y lt w)) g.linked in
      let linked2 : Linked ds l e us x = subst (λ z. Linked (edit cap (with_next x) c1 z) l e us x) (sym g.last)
      (end_moved c1 cap l e us e x (long1 ∙ cells) g.apart linked1) in
      let linked3 : Linked ds l e (us ++ (x, it) ∷ []) e = linked_join ds l e us ((x, it) ∷ []) e linked2
      (subst (λ z. get_or ds x None ≡ Some (node z e l it)) g.last x_is, tt) in
      let ring_l : IsRing ds cap l new (us ++ (x, it) ∷ []) = record {
        linked = linked3;
        first = subst (λ z. (if nat_lt z cap then h.first else x) ≡ first_of (us ++ (x, it) ∷ []) e) (sym g.last)
            (first_push us (x, it) e cap h.first (omega arith) g.first (λ y w. below l y lt w));
        last = sym (last_of_snoc e us (x, it));
        count = omega (arith, g.count, length-append us ((x, it) ∷ []));
        apart = apart_push us (x, it) g.apart (λ w. apart l x lt w refl);
      } in
      retied ds l new (us ++ (x, it) ∷ []) lt long ring_l
      (λ m y mt ne w. edit_other cap (with_next x) c1 p y (λ i. elim (last_in e us) [
        | inl j ↦ high y (below m y mt w) (i ∙ g.last ∙ j)
        | inr v ↦ one_list l m y (last_of e us) lt mt ne v w (i ∙ g.last)
      ]) ∙ keep1 y (apart m y mt w))
      (λ y q is ql. (let b = edit_back cap (with_next x) c1 p (long1 ∙ cells) (λ m. refl) y q is in
      elim (cases_eq y x) [
        | inl i ↦ (let w : q.list ≡ l = b.2 ∙ ap (λ o. (or_blank o).list) (sym b.1 ∙ ap (λ k. get_or c1 k None) i
            ∙ get_or-set_same cs x (Some n) None (omega arith)) in
            ((λ _. has_right us ((x, it) ∷ []) y (inl (sym i))), λ ne. absurd (ne w)))
        | inr ne ↦ (let o = t.on y b.0 (sym (keep1 y ne) ∙ b.1) (omega (arith, ql, b.2)) in
            let on = rw (← b.2) at o in ((λ e. has_left us ((x, it) ∷ []) y (rw e at on)), λ _. on))
      ]))

  -- a cell of the list l is taken off, between us and bs
  pub detached : (l x : ℕ) (it : Option X) (us bs : List (ℕ × Option X)) → l < length heads → r l ≡ us ++ (x, it) ∷ bs
      → let p = last_of (cap + l) us in let n = first_of bs (cap + l) in
      (get_or cs x None ≡ Some (node p n l it))
      × Tied (edit cap (with_prev p) (edit cap (with_next n) (set cs x None) p) n) cap
      (set heads l (record {
        first = if nat_lt p cap then (hd l).first else n;
        last = if nat_lt n cap then (hd l).last
            else p;
        count = (hd l).count - 1;
      }))
      (set rs l (us ++ bs))
  detached l x it us bs lt parts =
      let e = cap + l in let g = t.ring l lt in let h = hd l in let p = last_of e us in let n = first_of bs e in
      let all = us ++ (x, it) ∷ bs in
      let c1 = set cs x None in let c2 = edit cap (with_next n) c1 p in let ds = edit cap (with_prev p) c2 n in
      let new : Head = record {
        first = if nat_lt p cap then h.first else n;
        last = if nat_lt n cap then h.last else
            p;
        count = h.count - 1;
      } in
      let long1 = length-set cs x None in let many = t.many in let cells = t.cells in
      let long2 : length c2 ≡ cap = length-edit cap (with_next n) c1 p ∙ long1 ∙ cells in
      let long : length ds ≡ cap = length-edit cap (with_prev p) c2 n ∙ long2 in
      let linked : Linked cs l e all e = subst (λ zs. Linked cs l e zs e) parts g.linked in
      let cut = apart_split us (x, it) bs (subst IsApart parts g.apart) in
      let halves = linked_split cs l e us ((x, it) ∷ bs) e linked in
      let here : get_or cs x None ≡ Some (node p n l it) = halves.1.0 in
      let on_us : (y : ℕ) → Has us y → Has (r l) y = λ y w. rw parts (has_left us ((x, it) ∷ bs) y w) in
      let on_bs : (y : ℕ) → Has bs y → Has (r l) y = λ y w. rw parts (has_right us ((x, it) ∷ bs) y (inr w)) in
      let on_x : Has (r l) x = rw parts (has_right us ((x, it) ∷ bs) x (inl refl)) in
      let low : (y : ℕ) → Has (r l) y → y < cap = λ y w. below l y lt w in
      let high : (y : ℕ) → y < cap → y ≢ e = λ y yl i. absurd (omega arith) in
      let keep1 : (y : ℕ) → y ≢ x → get_or c1 y None ≡ get_or cs y None =
      λ y ne. get_or-set_other cs x y None None ne in
      let us_x : (y : ℕ) → Has us y → y ≢ x = λ y w i. cut.0 (subst (Has us) i w) in
      let bs_x : (y : ℕ) → Has bs y → y ≢ x = λ y w i. cut.1 (subst (Has bs) i w) in
      let us_n : (y : ℕ) → Has us y → y ≢ n = λ y w i. elim (first_in bs e) [
        | inl j ↦ high y (low y (on_us y w)) (i ∙ j)
        | inr v ↦ apart_cross us bs n cut.2 (subst (Has us) i w) v
      ] in
      let bs_p : (y : ℕ) → Has bs y → y ≢ p = λ y w i. elim (last_in e us) [
        | inl j ↦ high y (low y (on_bs y w)) (i ∙ j)
        | inr v ↦ apart_cross us bs p cut.2 v (subst (Has bs) i w)
      ] in
      let us1 = linked_same cs c1 l e us x (λ y w. keep1 y (us_x y w)) halves.0 in
      let us2 : Linked c2 l e us n = end_moved c1 cap l e us x n (long1 ∙ cells) (apart_us us bs cut.2) us1 in
      let us3 : Linked ds l e us n =
      linked_same c2 ds l e us n (λ y w. edit_other cap (with_prev p) c2 n y (us_n y w)) us2 in
      let bs1 = linked_same cs c1 l x bs e (λ y w. keep1 y (bs_x y w)) halves.1.1 in
      let bs2 : Linked c2 l x bs e =
      linked_same c1 c2 l x bs e (λ y w. edit_other cap (with_next n) c1 p y (bs_p y w)) bs1 in
      let bs3 : Linked ds l p bs e = start_moved c2 cap l x bs e p long2 (apart_bs us bs cut.2) bs2 in
      let ring_l : IsRing ds cap l new (us ++ bs) = record {
        linked = linked_join ds l e us bs e us3 bs3;
        first = first_cut us (x, it) bs e cap h.first (omega arith) (g.first ∙ ap (λ zs. first_of zs e) parts)
            (λ y w. low y (on_us y w));
        last = last_cut us (x, it) bs e cap h.last (omega arith) (g.last ∙ ap (last_of e) parts)
            (λ y w. low y (on_bs y w));
        count = let before =
            g.count ∙ ap length parts in omega (arith, before, length-append us ((x, it) ∷ bs), length-append us bs);
        apart = cut.2;
      } in (
        here,
        retied ds l new (us ++ bs) lt long ring_l
            (λ m y mt ne w.
            let yl = below m y mt w in
            let other : (z : ℕ) → Has (r l) z → y ≢ z = λ z v. one_list l m y z lt mt ne v w in
            edit_other cap (with_prev p) c2 n y
            (λ i. elim (first_in bs e) [ inl j ↦ high y yl (i ∙ j) | inr v ↦ other n (on_bs n v) i ])
            ∙ edit_other cap (with_next n) c1 p y
            (λ i. elim (last_in e us) [ inl j ↦ high y yl (i ∙ j) | inr v ↦ other p (on_us p v) i ])
            ∙ keep1 y (other x on_x))
            (λ y q is ql.
            let b = edit_back cap (with_prev p) c2 n long2 (λ m. refl) y q is in
            let a = edit_back cap (with_next n) c1 p (long1 ∙ cells) (λ m. refl) y b.0 b.1 in
            elim (cases_eq y x) [
              | inl i ↦
                  let two : Some a.0 ≡ None = sym a.1 ∙ ap (λ k. get_or c1 k None) i
                  ∙ get_or-set_same cs x None None (within cs x (node p n l it) here) in cc
              | inr ne ↦ (let same : q.list ≡ a.0.list = b.2 ∙ a.2 in
                  let o = t.on y a.0 (sym (keep1 y ne) ∙ a.1) (omega (arith, ql, same)) in
                  let on = rw (← same) at o in (
                    (λ i. elim (has_either us ((x, it) ∷ bs) y (rw parts at (rw i at on))) [
                      | inl w ↦ has_left us bs y w
                      | inr w ↦ elim w [ inl j ↦ absurd (ne (sym j)) | inr v ↦ has_right us bs y v ]
                    ]),
                    λ _. on,
                  ))
            ]),
      )
