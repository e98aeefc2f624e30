-- What the last state tells of all drawers, which were joined to the last of them.
use Rattle.std.proofs.Common.{◌≡◌, ◌≢◌, ℕ, zero, suc, ◌<◌, List, [], ◌∷◌, ◌++◌, length, map, Some}
use Rattle.std.proofs.Common.{sym, refl, ap, ◌∙◌, subst, arith, length-set, ⊎_elim}
use Rattle.std.proofs.lemmas.List.{length-map}
use Rattle.std.proofs.lemmas.Option.{slice_get_within}
use Rattle.std.specs.Prelude.{slice_get, slice_set, slice_index_or}
use Rattle.std.specs.declared.vec.Vec.{Vec}
use Rattle.std.specs.declared.alloc.Global.{Global}
use mathlib.Core.Option.{some}
use mathlib.Core.Logic.{dite}
use native.Mathlib.Decide.{ℕ_discrete}
use lib.ListN.{get_elem?}
use Rattle.atomic_table.specs.Table.{Final, Seen}
use Rattle.seat_views.specs.declared.views.View.{View}
use Rattle.seat_views.proofs.Lemmas.{some_is, over_same}
use Rattle.drawn_numbers.specs.declared.drawer.Drawer.{Drawer}
use Rattle.drawn_numbers.specs.Drawn.{times, RisesFrom, Drawn}
use Rattle.drawn_numbers.specs.Drawers.{HasDrawer, HasDrawers}
use Rattle.drawn_numbers.specs.Dealt.{AllDrawn, drawer_entry, drawer_entries, knows_all, lists_filled}
use Rattle.drawn_numbers.proofs.DrawerLists.{none_some, get_snoc, at_more, at_less, read_at}

pub filled_length : (ds : List Drawer) (lists : List (Vec ℕ Global)) → length (lists_filled ds lists) ≡ length lists
filled_length [] lists = refl
filled_length (d ∷ ds) lists = length-set (lists_filled ds lists) d.number d.drawn ∙ filled_length ds lists

-- the last drawer's list comes first
pub filled_snoc : (ds : List Drawer) (d : Drawer) (lists : List (Vec ℕ Global)) →
    lists_filled (ds ++ d ∷ []) lists ≡ lists_filled ds (slice_set lists d.number d.drawn)
filled_snoc [] d lists = refl
filled_snoc (x ∷ xs) d lists = ap (λ l. slice_set l x.number x.drawn) (filled_snoc xs d lists)

module _ {A : Type 0} where
  set_at : (l : List A) (i : ℕ) (a : A) → i < length l → slice_get (slice_set l i a) i ≡ Some a
  set_at [] i a l = absurd (omega arith)
  set_at (x ∷ xs) zero a l = refl
  set_at (x ∷ xs) (suc i) a l = set_at xs i a (omega arith)

  set_apart : (l : List A) (i : ℕ) (a : A) (j : ℕ) → i ≢ j → slice_get (slice_set l i a) j ≡ slice_get l j
  set_apart [] i a j ne = refl
  set_apart (x ∷ xs) zero a zero ne = absurd (ne refl)
  set_apart (x ∷ xs) zero a (suc j) ne = refl
  set_apart (x ∷ xs) (suc i) a zero ne = refl
  set_apart (x ∷ xs) (suc i) a (suc j) ne = set_apart xs i a j (λ e. ne (ap suc e))

  map_at : {B : Type 0} (f : A → B) (l : List A) (i : ℕ) (a : A) → slice_get l i ≡ Some a →
      slice_get (map f l) i ≡ Some (f a)
  map_at f [] i a e = none_some e
  map_at f (x ∷ xs) zero a e = ap (λ z. Some (f z)) (some_is e)
  map_at f (x ∷ xs) (suc i) a e = map_at f xs i a e

-- at each number below the count lies the list of a drawer of this number
abbrev Lies : List Drawer → List (Vec ℕ Global) → ℕ → Type 0
Lies ds lists j =
    (i : ℕ) × (d : Drawer) × (slice_get ds i ≡ Some d) × (d.number ≡ j)
    × (slice_get (lists_filled ds lists) j ≡ Some d.drawn)

at_filled : (ds : List Drawer) (lists : List (Vec ℕ Global)) (j : ℕ) → j < length lists → HasDrawer ds j →
    Lies ds lists j
at_filled [] lists j lt h = none_some h.2
at_filled (x ∷ xs) lists j lt h =
    dite (ℕ_discrete x.number j)
    (λ (e : x.number ≡ j).
    let long = filled_length xs lists in (
      zero,
      x,
      refl,
      e,
      ap (slice_get (slice_set (lists_filled xs lists) x.number x.drawn)) (sym e)
          ∙ set_at (lists_filled xs lists) x.number x.drawn (omega arith),
    ))
    (λ (ne : x.number ≢ j).
    let r = at_filled xs lists j lt (behind x xs j ne h) in
    (suc r.0, r.1, r.2, r.3, set_apart (lists_filled xs lists) x.number x.drawn j ne ∙ r.4))
  where
    behind : (x : Drawer) (xs : List Drawer) (j : ℕ) → x.number ≢ j → HasDrawer (x ∷ xs) j → HasDrawer xs j
    behind x xs j ne (zero, d, e, is) = absurd (ne (ap (λ (y : Drawer). y.number) (some_is e) ∙ is))
    behind x xs j ne (suc i, d, e, is) = (i, d, e, is)

entries_have : (ds : List Drawer) (i : ℕ) (d : Drawer) → slice_get ds i ≡ Some d →
    (q : ℕ) × (get_elem? (drawer_entries ds) q ≡ some (drawer_entry d))
entries_have [] i d e = none_some e
entries_have (x ∷ xs) zero d e =
    at_more (drawer_entries xs) (drawer_entry x ∷ []) 0 (drawer_entry d) (ap (λ z. some (drawer_entry z)) (some_is e))
entries_have (x ∷ xs) (suc i) d e =
    let r = entries_have xs i d e in (r.0, at_less (drawer_entries xs) (drawer_entry x ∷ []) r.0 (drawer_entry d) r.1)

module _ (n id : ℕ) (all rest : List Drawer) (last : Drawer) (lists : List (Vec ℕ Global)) (words : List ℕ)
    (nothing : List (Unit {0})) (split : all ≡ rest ++ last ∷ []) (long : length lists ≡ n)
    (below : (i : ℕ) (d : Drawer) → slice_get all i ≡ Some d → d.number < n) (whole : HasDrawers all n)
    (end : Final (Seen (Drawn n) id (knows_all last.seat.me.0 rest)) words nothing) where
  abbrev v : View (List ℕ)
  v = last.seat.me.0

  abbrev w : View (List ℕ)
  w = knows_all v rest

  abbrev given : List (List ℕ)
  given = map (λ (xs : Vec ℕ Global). xs.items) (lists_filled all lists)

  abbrev r : Drawn n end.0
  r = end.1.0

  own : (i : ℕ) (d : Drawer) → slice_get all i ≡ Some d → r.drawn d.number ≡ d.drawn.items
  own i d e =
      ⊎_elim
      (λ x.
      let m = entries_have rest i d x in
      let l = at_more v.known (drawer_entries rest) m.0 (drawer_entry d) m.1 in
      ap r.drawn (sym d.tied.number) ∙ (r.shown.known id w end.1.1 l.0 (drawer_entry d) l.1).0 ∙ d.tied.drawn)
      (λ x.
      ap (λ (y : Drawer). r.drawn y.number) (sym x.1)
      ∙ (ap r.drawn (sym last.tied.number ∙ r.shown.number id w end.1.1 last.tied.live)
      ∙ r.shown.mine id w end.1.1 last.tied.live ∙ last.tied.drawn)
      ∙ ap (λ (y : Drawer). y.drawn.items) x.1)
      (get_snoc rest last d i (ap (λ y. slice_get y i) (sym split) ∙ e))

  listed : (j : ℕ) → j < n → slice_get given j ≡ Some (r.drawn j)
  listed j lt =
      let l = at_filled all lists j (omega arith) (whole.there j lt) in
      cc (map_at (λ (xs : Vec ℕ Global). xs.items) (lists_filled all lists) j l.1.drawn l.4, own l.0 l.1 l.2)

  length_given : length given ≡ n
  length_given = length-map (lists_filled all lists) (λ (xs : Vec ℕ Global). xs.items) ∙ filled_length all lists ∙ long

  pub all_drawn : AllDrawn n all given
  all_drawn =
      record {
        long = length_given;
        own = λ i d e. listed d.number (below i d e) ∙ ap Some (own i d e);
        rising = λ j xs e.
            let within = slice_get_within given j xs e in
            let l = length_given in
            subst (RisesFrom 0) (some_is (sym (listed j (omega arith)) ∙ e)) (r.rising j).0;
        bound = slice_index_or end.0.words 0 0;
        dealt = λ x.
            over_same n (λ j. times x (slice_index_or given j [])) (λ j. times x (r.drawn j))
            (λ j lt. ap (times x) (read_at given j (r.drawn j) [] (listed j lt)))
            ∙ r.dealt x;
      }
