-- Lists of drawers: those that are looked for, those that are made, and those that are joined from the last on.
use Rattle.std.proofs.Common.{◌≡◌, ◌≢◌, ℕ, zero, suc, ◌+◌, ◌<◌, List, [], ◌∷◌, ◌++◌, length, append_assoc}
use Rattle.std.proofs.Common.{Option, Some, None, option_to_list, ◌⊎◌, inl, inr, ⊎_elim, sym, refl}
use Rattle.std.proofs.Common.{ap, ◌∙◌, subst, arith}
use Rattle.std.specs.Prelude.{slice_get, slice_index_or, All}
use Rattle.std.proofs.lemmas.Option.{slice_get_within}
use mathlib.Core.Option.{some, some-ne-none}
use mathlib.Core.Logic.{dite}
use native.Mathlib.Decide.{ℕ_discrete}
use lib.ListN.{get_elem?}
use Rattle.seat_views.proofs.Lemmas.{some_is}
use Rattle.drawn_numbers.specs.declared.numbers.Numbers.{Numbers}
use Rattle.drawn_numbers.specs.declared.drawer.Drawer.{Drawer}
use Rattle.drawn_numbers.specs.Ties.{CounterSeat}
use Rattle.drawn_numbers.specs.Drawers.{IsNewDrawer, AllNewDrawers}

pub none_some : {A B : Type 0} {y : A} → None ≡ Some y → B
none_some e = cc

-- what holds of all numbers below n, and of n
pub one_further : (P : ℕ → Type 0) (n : ℕ) → ((j : ℕ) → j < n → P j) → P n → (j : ℕ) → j < n + 1 → P j
one_further P n before here j lt = grind arith

-- no drawer so far has the number
pub not_so_far : (ds : List Drawer) (i : ℕ) (d : Drawer) (n : ℕ) → slice_get ds i ≡ Some d → d.number ≢ n →
    ((j : ℕ) (e : Drawer) → j < i → slice_get ds j ≡ Some e → e.number ≢ n) →
    (j : ℕ) (e : Drawer) → j < i + 1 → slice_get ds j ≡ Some e → e.number ≢ n
not_so_far ds i d n here not before j y lt e = grind arith

pub get_snoc : {A : Type 0} → (xs : List A) (x y : A) (i : ℕ) → slice_get (xs ++ x ∷ []) i ≡ Some y →
    (slice_get xs i ≡ Some y) ⊎ ((i ≡ length xs) × (x ≡ y))
get_snoc [] x y zero e = inr (refl, some_is e)
get_snoc [] x y (suc i) e = none_some e
get_snoc (z ∷ xs) x y zero e = inl e
get_snoc (z ∷ xs) x y (suc i) e = ⊎_elim inl (λ t. inr (ap suc t.0, t.1)) (get_snoc xs x y i e)

-- one more new drawer at the end of a list, and one more at its front
pub more_drawers : (m : Numbers) (from : ℕ) (ds all : List Drawer) (d : Drawer) → all ≡ ds ++ d ∷ [] →
    AllNewDrawers m from ds → IsNewDrawer m (from + length ds) d → AllNewDrawers m from all
more_drawers m from ds all d is old new i e at =
    grind (arith, get_snoc ds d e i (ap (λ y. slice_get y i) (sym is) ∙ at))

pub front_drawer : (m : Numbers) (ds : List Drawer) (d : Drawer) → AllNewDrawers m 1 ds → IsNewDrawer m 0 d →
    AllNewDrawers m 0 (d ∷ ds)
front_drawer m ds d all new zero e at = subst (λ y. IsNewDrawer m 0 y) (some_is at) new
front_drawer m ds d all new (suc i) e at = subst (λ k. IsNewDrawer m k e) (omega arith) (all i e at)

-- what a drawer is once it is made of a counter_seat of this number
pub new_drawer : (m : Numbers) (n : ℕ) (d : Drawer) (counter_seat : CounterSeat) → n < m.drawers →
    counter_seat.table_id ≡ m.table.shared.table_id → d.seat ≡ counter_seat → d.number ≡ n → d.drawn.items ≡ [] →
    IsNewDrawer m n d
new_drawer m n d counter_seat lt table seat number drawn = grind arith

module _ {A : Type 0} where
  pub get_index : (xs : List A) (i : ℕ) (d : A) → i < length xs → slice_get xs i ≡ Some (slice_index_or xs i d)
  get_index [] i d lt = absurd (omega arith)
  get_index (x ∷ xs) zero d lt = refl
  get_index (x ∷ xs) (suc i) d lt = get_index xs i d (omega arith)

  pub read_at : (l : List A) (i : ℕ) (a d : A) → slice_get l i ≡ Some a → slice_index_or l i d ≡ a
  read_at [] i a d e = none_some e
  read_at (x ∷ xs) zero a d e = some_is e
  read_at (x ∷ xs) (suc i) a d e = read_at xs i a d e

  -- what holds of all values of a list holds of each that is looked up
  pub each_of : (P : A → Type 0) (xs : List A) → All P xs → (i : ℕ) (x : A) → slice_get xs i ≡ Some x → P x
  each_of P xs all i x e = subst P (read_at xs i x x e) (all i x (slice_get_within xs i x e))

  pub get_middle : (xs : List A) (x : A) (ys : List A) → slice_get (xs ++ x ∷ ys) (length xs) ≡ Some x
  get_middle [] x ys = refl
  get_middle (z ∷ xs) x ys = get_middle xs x ys

  pub get_front : (xs ys : List A) (i : ℕ) (x : A) → slice_get xs i ≡ Some x → slice_get (xs ++ ys) i ≡ Some x
  get_front [] ys i x e = none_some e
  get_front (y ∷ xs) ys zero x e = e
  get_front (y ∷ xs) ys (suc i) x e = get_front xs ys i x e

  pub at_more : (xs ys : List A) (i : ℕ) (a : A) → get_elem? ys i ≡ some a →
      (j : ℕ) × (get_elem? (xs ++ ys) j ≡ some a)
  at_more [] ys i a e = (i, e)
  at_more (x ∷ xs) ys i a e = let r = at_more xs ys i a e in (suc r.0, r.1)

  pub at_less : (xs ys : List A) (i : ℕ) (a : A) → get_elem? xs i ≡ some a → get_elem? (xs ++ ys) i ≡ some a
  at_less [] ys i a e = absurd (some-ne-none a (sym e))
  at_less (x ∷ xs) ys zero a e = e
  at_less (x ∷ xs) ys (suc i) a e = at_less xs ys i a e

  -- the last of a list is behind the others
  pub joined : (all old new done : List A) (o : Option A) (p : A) → all ≡ old ++ done → old ≡ new ++ option_to_list o →
      o ≡ Some p → all ≡ new ++ p ∷ done
  joined all old new done o p a b e = cc (append_assoc new (p ∷ []) done)

  pub split_of : (all rest : List A) (o : Option A) (last : A) → all ≡ rest ++ option_to_list o → o ≡ Some last →
      all ≡ rest ++ last ∷ []
  split_of all rest o last a is = a ∙ ap (λ (x : Option A). rest ++ option_to_list x) is
