-- Views by number: one seat changes, is made, or is joined.
use Rattle.std.proofs.Common.{◌≡◌, ◌≢◌, ℕ, zero, suc, ◌+◌, ◌<◌, ◌≤◌, false, true≢false}
use Rattle.std.proofs.Common.{List, [], ◌∷◌, ◌++◌, length, set, sym, refl, ap, ◌∙◌, subst, ◌⊎◌, inl, inr, ⊎_elim}
use Rattle.std.proofs.Common.{arith, length-set, length-append, rules}
use mathlib.Core.Option.{some, some-injective, some-ne-none}
use lib.ListN.{get_elem?}
use Rattle.atomic_table.proofs.Lists.{at_set, set_here, set_else, at_longer}
use Rattle.seat_views.proofs.Sums.{put_here, put_else}
use Rattle.seat_views.specs.declared.views.View.{View}
use Rattle.seat_views.specs.Seated.{with_value_at, Shown, IsSpent, Once, seat_view, with_hold, one_more, spent_view}
use Rattle.seat_views.specs.Seated.{first_view, knows}

module _ {A : Type 0} where
  pub within : (l : List A) (i : ℕ) (a : A) → get_elem? l i ≡ some a → i < length l
  within [] i a e = absurd (some-ne-none a (sym e))
  within (x ∷ xs) zero a e = omega arith
  within (x ∷ xs) (suc i) a e = let h = within xs i a e in omega arith

  pub same_at : (l : List A) (i : ℕ) (a b : A) → get_elem? l i ≡ some a → get_elem? l i ≡ some b → a ≡ b
  same_at l i a b p q = some-injective a b (sym p ∙ q)

  nowhere : {B : Type 0} → (i : ℕ) (a : A) → get_elem? [] i ≡ some a → B
  nowhere i a e = absurd (some-ne-none a (sym e))

-- what lies in a list with one more at its end
pub at_end : {A : Type 0} → (l : List A) (a b : A) (j : ℕ) → get_elem? (l ++ a ∷ []) j ≡ some b →
    (get_elem? l j ≡ some b) ⊎ ((j ≡ length l) × (a ≡ b))
at_end [] a b zero e = inr (refl, some-injective a b e)
at_end [] a b (suc j) e = absurd (some-ne-none b (sym e))
at_end (x ∷ xs) a b zero e = inl e
at_end (x ∷ xs) a b (suc j) e = ⊎_elim inl (λ t. inr (ap suc t.0, t.1)) (at_end xs a b j e)

module _ (H : Type 0) (blank : ℕ → H) where
  abbrev V : Type 0
  V = View H

  not_spent : (views : List V) (id j : ℕ) (v : V) → get_elem? views id ≡ some v → v.spent ≡ false →
      IsSpent views j → j ≢ id
  not_spent views id j v at live s e =
      let same = same_at views id s.0 v (ap (get_elem? views) (sym e) ∙ s.1) at in
      true≢false (sym s.2 ∙ ap (λ (u : V). u.spent) same ∙ live)

  still_spent : (views : List V) (id j : ℕ) (w : V) → j ≢ id → IsSpent views j → IsSpent (set views id w) j
  still_spent views id j w ne s = (s.0, set_else views id j w ne ∙ s.1, s.2)

  spent_longer : (views : List V) (w : V) (j : ℕ) → IsSpent views j → IsSpent (views ++ w ∷ []) j
  spent_longer views w j s = (s.0, at_longer views (w ∷ []) j s.0 s.1, s.2)

  module _ (n : ℕ) (views : List V) (seats : ℕ → H) (id : ℕ) (v : V) (s : Shown blank n views seats)
      (at : get_elem? views id ≡ some v) (live : v.spent ≡ false) where
    -- the views after one was set, each of which is the new one or as before
    module _ (w : V) where
      long : length (set views id w) ≡ length views
      long = length-set views id w

      split : {B : Type 0} → (j : ℕ) (u : V) → get_elem? (set views id w) j ≡ some u →
          ((j ≡ id) × (w ≡ u) → B) → ((j ≢ id) × (get_elem? views j ≡ some u) → B) → B
      split j u e new old = ⊎_elim new old (at_set views id j w u e)

      spent_still : (j : ℕ) → IsSpent views j → IsSpent (set views id w) j
      spent_still j t = still_spent views id j w (not_spent views id j v at live t) t

    set_shown : (h : H) → Shown blank n (set views id (with_hold v h)) (with_value_at seats id h)
    set_shown h =
        let w : V = with_hold v h in
        record {
          few = subst (λ z. z ≤ n) (sym (long w)) s.few;
          number = λ j u e lives.
              split w j u e
              (λ x. ap (λ (y : V). y.number) (sym x.1) ∙ s.number id v at live ∙ sym x.0)
              (λ x. s.number j u x.1 lives);
          mine = λ j u e lives.
              split w j u e
              (λ x. ap (with_value_at seats id h) x.0 ∙ put_here seats id h ∙ ap (λ (y : V). y.mine) x.1)
              (λ x. put_else seats id h j x.0 ∙ s.mine j u x.1 lives);
          known = λ j u e q p k.
              let old : (seats p.0 ≡ p.1) × IsSpent views p.0 =
              split w j u e
              (λ x. s.known id v at q p (ap (λ (y : V). get_elem? y.known q) x.1 ∙ k))
              (λ x. s.known j u x.1 q p k) in (
                put_else seats id h p.0 (not_spent views id p.0 v at live old.1) ∙ old.0,
                spent_still w p.0 old.1,
              );
          once = λ j u e.
              split w j u e
              (λ x. subst Once (ap (λ (y : V). y.known) x.1) (s.once id v at))
              (λ x. s.once j u x.1);
          made = λ j u e pos.
              split w j u e
              (λ x.
              let m : v.made ≡ u.made = ap (λ (y : V). y.made) x.1 in
              let t = s.made id v at (subst (λ z. 0 < z) (sym m) pos) in
              (x.0 ∙ t.0, sym m ∙ t.1 ∙ sym (long w)))
              (λ x. let t = s.made j u x.1 pos in (t.0, t.1 ∙ sym (long w)));
          later = λ j le.
              put_else seats id h j (λ (e : j ≡ id). let i = within views id v at in let l = long w in omega arith) ∙
              s.later j (subst (λ z. z ≤ j) (long w) le);
        }

    -- the views after the first seat made one more: the new one, or one that was there and has counted it
    module _ (pos : 0 < v.made) (room : v.made < n) where
      abbrev l : V
      l = one_more v

      abbrev new : V
      new = seat_view v.made (blank v.made)

      is : v.made ≡ length views
      is = (s.made id v at pos).1

      first : id ≡ 0
      first = (s.made id v at pos).0

      all : length (set views id l ++ new ∷ []) ≡ length views + 1
      all = let e = long l in length-append (set views id l) (new ∷ []) ∙ omega arith

      -- a view that was there: but for the count it is as before
      record Was (j : ℕ) (u : V) : Type 0 where
        before : V
        lies : get_elem? views j ≡ some before
        number : before.number ≡ u.number
        mine : before.mine ≡ u.mine
        known : before.known ≡ u.known
        spent : before.spent ≡ u.spent
        made : ((j ≢ id) × (before.made ≡ u.made)) ⊎ ((j ≡ id) × (u.made ≡ length views + 1))

      was : (j : ℕ) (u : V) → get_elem? (set views id l) j ≡ some u → Was j u
      was j u e =
          split l j u e
          (λ x. record {
            before = v;
            lies = ap (get_elem? views) x.0 ∙ at;
            number = ap (λ (y : V). y.number) x.1;
            mine = ap (λ (y : V). y.mine) x.1;
            known = ap (λ (y : V). y.known) x.1;
            spent = ap (λ (y : V). y.spent) x.1;
            made = inr (x.0, ap (λ (y : V). y.made) (sym x.1) ∙ ap (λ z. z + 1) is);
          })
          (λ x. record {
            before = u;
            lies = x.1;
            number = refl;
            mine = refl;
            known = refl;
            spent = refl;
            made = inl (x.0, refl);
          })

      by_end : {B : Type 0} → (j : ℕ) (u : V) → get_elem? (set views id l ++ new ∷ []) j ≡ some u →
          (Was j u → B) → ((j ≡ length views) × (new ≡ u) → B) → B
      by_end j u e old made =
          ⊎_elim (λ x. old (was j u x)) (λ x. made (x.0 ∙ long l, x.1)) (at_end (set views id l) new u j e)

      split_shown : Shown blank n (set views id l ++ new ∷ []) seats
      split_shown =
          record {
            few = let a = all in let b = is in omega arith;
            number = λ j u e lives.
                by_end j u e
                (λ o. sym o.number ∙ s.number j o.before o.lies (o.spent ∙ lives))
                (λ x. ap (λ (y : V). y.number) (sym x.1) ∙ is ∙ sym x.0);
            mine = λ j u e lives.
                by_end j u e
                (λ o. s.mine j o.before o.lies (o.spent ∙ lives) ∙ o.mine)
                (λ x. s.later j (omega arith) ∙ ap blank (x.0 ∙ sym is) ∙ ap (λ (y : V). y.mine) x.1);
            known = λ j u e q p k.
                by_end j u e
                (λ o.
                let t = s.known j o.before o.lies q p (ap (λ z. get_elem? z q) o.known ∙ k) in
                (t.0, spent_longer (set views id l) new p.0 (spent_still l p.0 t.1)))
                (λ x. nowhere q p (ap (λ (y : V). get_elem? y.known q) x.1 ∙ k));
            once = λ j u e.
                by_end j u e
                (λ o. subst Once o.known (s.once j o.before o.lies))
                (λ x q q' p p' k k' same. nowhere q p (ap (λ (y : V). get_elem? y.known q) x.1 ∙ k));
            made = λ j u e some_made.
                by_end j u e
                (λ o.
                ⊎_elim
                (λ m.
                let t = s.made j o.before o.lies (subst (λ z. 0 < z) (sym m.1) some_made) in
                absurd (m.0 (t.0 ∙ sym first)))
                (λ m. (m.0 ∙ first, m.1 ∙ sym all))
                o.made)
                (λ x. let z : u.made ≡ 0 = ap (λ (y : V). y.made) (sym x.1) in absurd (omega arith));
            later = λ j le. let a = all in s.later j (omega arith);
          }

    -- the views after another seat was joined to this one
    module _ (gone : H) (other : ℕ) (u : V) (two : ¬ (other ≡ id))
        (there : get_elem? (set views id (knows v u)) other ≡ some u) (lives : u.spent ≡ false) where
      abbrev k : V
      k = knows v u

      abbrev w : V
      w = spent_view gone

      abbrev after : List V
      after = set (set views id k) other w

      lasts : length after ≡ length views
      lasts = length-set (set views id k) other w ∙ long k

      stood : get_elem? views other ≡ some u
      stood = sym (set_else views id other k two) ∙ there

      -- no other view has the joined one's index
      by_join : {B : Type 0} → (j : ℕ) (x : V) → get_elem? after j ≡ some x → ((j ≡ other) × (w ≡ x) → B) →
          ((j ≡ id) × (k ≡ x) → B) → ((j ≢ id) × (get_elem? views j ≡ some x) → B) → B
      by_join j x e left here else =
          ⊎_elim left (λ t. split k j x t.1 here else) (at_set (set views id k) other j w x e)

      spent : (j : ℕ) → IsSpent views j → IsSpent after j
      spent j t =
          let ne : j ≢ other = not_spent views other j u stood lives t in
          still_spent (set views id k) other j w ne (spent_still k j t)

      now : IsSpent after other
      now = (w, set_here (set views id k) other w (within (set views id k) other u there), refl)

      -- what is known is as before, or the joined seat
      by_known : {B : Type 0} → (q : ℕ) (p : ℕ × H) → get_elem? k.known q ≡ some p →
          (get_elem? v.known q ≡ some p → B) → ((q ≡ length v.known) × ((u.number, u.mine) ≡ p) → B) → B
      by_known q p e old new = ⊎_elim old new (at_end v.known (u.number, u.mine) p q e)

      -- the joined seat wasn't known
      unknown : (q : ℕ) (p : ℕ × H) → get_elem? v.known q ≡ some p → u.number ≢ p.0
      unknown q p e same =
          not_spent views other p.0 u stood lives (s.known id v at q p e).1
          (sym same ∙ s.number other u stood lives)

      once_more : Once k.known
      once_more q q' p p' e e' same =
          by_known q p e
          (λ a.
          by_known q' p' e'
          (λ b. s.once id v at q q' p p' a b same)
          (λ b. absurd (unknown q p a (ap (λ (y : ℕ × H). y.0) b.1 ∙ sym same))))
          (λ a.
          by_known q' p' e'
          (λ b. absurd (unknown q' p' b (ap (λ (y : ℕ × H). y.0) a.1 ∙ same)))
          (λ b. a.0 ∙ sym b.0))

      known_more : (q : ℕ) (p : ℕ × H) → get_elem? k.known q ≡ some p → (seats p.0 ≡ p.1) × IsSpent after p.0
      known_more q p e =
          by_known q p e
          (λ a. let z = s.known id v at q p a in (z.0, spent p.0 z.1))
          (λ a.
          let i : other ≡ p.0 = sym (s.number other u stood lives) ∙ ap (λ (y : ℕ × H). y.0) a.1 in (
            ap seats (sym i) ∙ s.mine other u stood lives ∙ ap (λ (y : ℕ × H). y.1) a.1,
            subst (IsSpent after) i now,
          ))

      not_left : {B : Type 0} → (x : V) → w ≡ x → x.spent ≡ false → B
      not_left x e on = absurd (true≢false (ap (λ (y : V). y.spent) e ∙ on))

      join_shown : Shown blank n after seats
      join_shown =
          record {
            few = subst (λ z. z ≤ n) (sym lasts) s.few;
            number = λ j x e on.
                by_join j x e (λ t. not_left x t.1 on)
                (λ t. ap (λ (y : V). y.number) (sym t.1) ∙ s.number id v at live ∙ sym t.0)
                (λ t. s.number j x t.1 on);
            mine = λ j x e on.
                by_join j x e (λ t. not_left x t.1 on)
                (λ t. ap seats t.0 ∙ s.mine id v at live ∙ ap (λ (y : V). y.mine) t.1)
                (λ t. s.mine j x t.1 on);
            known = λ j x e q p c.
                by_join j x e
                (λ t. nowhere q p (ap (λ (y : V). get_elem? y.known q) t.1 ∙ c))
                (λ t. known_more q p (ap (λ (y : V). get_elem? y.known q) t.1 ∙ c))
                (λ t. let z = s.known j x t.1 q p c in (z.0, spent p.0 z.1));
            once = λ j x e.
                by_join j x e
                (λ t q q' p p' c c' same. nowhere q p (ap (λ (y : V). get_elem? y.known q) t.1 ∙ c))
                (λ t. subst Once (ap (λ (y : V). y.known) t.1) once_more)
                (λ t. s.once j x t.1);
            made = λ j x e pos.
                by_join j x e
                (λ t. let z : x.made ≡ 0 = ap (λ (y : V). y.made) (sym t.1) in absurd (omega arith))
                (λ t.
                let m : v.made ≡ x.made = ap (λ (y : V). y.made) t.1 in
                let z = s.made id v at (subst (λ y. 0 < y) (sym m) pos) in
                (t.0 ∙ z.0, sym m ∙ z.1 ∙ sym lasts))
                (λ t. let z = s.made j x t.1 pos in (z.0, z.1 ∙ sym lasts));
            later = λ j le. s.later j (subst (λ z. z ≤ j) lasts le);
          }

  -- the first seat alone
  pub shown_first : (n : ℕ) → 0 < n → Shown blank n (first_view (blank 0) ∷ []) blank
  shown_first n pos = search rules

  -- what one seat holds changes
  pub shown_set : (n : ℕ) (views : List V) (seats : ℕ → H) (id : ℕ) (v : V) (h : H) → Shown blank n views seats →
      get_elem? views id ≡ some v → v.spent ≡ false → Shown blank n (set views id (with_hold v h))
      (with_value_at seats id h)
  shown_set n views seats id v h s at live = set_shown n views seats id v s at live h

  -- the first seat makes one more
  pub shown_split : (n : ℕ) (views : List V) (seats : ℕ → H) (id : ℕ) (v : V) → Shown blank n views seats →
      get_elem? views id ≡ some v → v.spent ≡ false → 0 < v.made → v.made < n →
      Shown blank n (set views id (one_more v) ++ seat_view v.made (blank v.made) ∷ []) seats
  shown_split n views seats id v s at live pos room = split_shown n views seats id v s at live pos room

  -- a seat is joined to another
  pub shown_join : (gone : H) (n : ℕ) (views : List V) (seats : ℕ → H) (id : ℕ) (v : V) (other : ℕ) (u : V) →
      Shown blank n views seats → get_elem? views id ≡ some v → v.spent ≡ false → ¬ (other ≡ id) →
      get_elem? (set views id (knows v u)) other ≡ some u → u.spent ≡ false →
      Shown blank n (set (set views id (knows v u)) other (spent_view gone)) seats
  shown_join gone n views seats id v other u s at live two there lives =
      join_shown n views seats id v s at live gone other u two there lives
