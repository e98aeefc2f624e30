-- The entries of a hash map, sorted by key, are the list of the finite map that they make.
use Rattle.std.proofs.Common.{◌≡◌, ℕ, ◌<◌, ◌≤◌, Bool, true, false, nat_eq, ◌&&◌, T, List, [], ◌∷◌, length, get_or}
use Rattle.std.proofs.Common.{Option, Some, None, refl, sym, ap, subst, ◌∙◌, arith, suc}
use Rattle.std.proofs.lemmas.Bool.Decides.{nat_tests}
use Rattle.std.specs.Ordering.{nat_cmp, is_lt}
use Rattle.std.specs.Cmp.{nat_cmp_total, nat_eq_equiv}
use Rattle.std.specs.Map.{lookup, keys_of}
use Rattle.std.specs.List.{IsDistinct, AllByRecursion as Each}
use Rattle.std.specs.List.Sorted.{IsPermutation, IsNonDecreasingBy}
use Rattle.std.proofs.lemmas.List.Sorted.{IsPermutation-map, IsPermutation-sym, Contains-permutation}
use Rattle.std.proofs.lemmas.Map.Keys.{IsDistinct-IsPermutation}
use Rattle.std.proofs.lemmas.Map.Views.{Contains-from_lookup, lookup-from_Contains}
use Rattle.std.specs.FinMap.{from_entries, from_sorted, entries, is_sorted, get-from_sorted, entries-from_sorted}
use Rattle.std.specs.FinMap.{same_map, nat_cmp-IsAntisymmetric}
use Rattle.std.specs.FinMap.Entries.{below_all}
use Rattle.number_map.proofs.HashedMaps.{get_hashed, find_hashed}

same_keys : (x y : ℕ) → nat_eq x y ≡ true → x ≡ y
same_keys x y e = grind (arith, nat_tests)

flips : (x y : ℕ) → nat_eq x y ≡ nat_eq y x
flips x y = grind (arith, nat_tests)

less : (n k : ℕ) → n ≤ k → nat_eq n k ≡ false → is_lt (nat_cmp n k) ≡ true
less n k le ne = grind (arith, nat_tests)

both : (a b : Bool) → T a → T b → T (a && b)
both true b h k = k
both false b h k = absurd h

module _ {X : Type 0} where
  agree : (a b : Option X) → ((v : X) → a ≡ Some v → b ≡ Some v) → ((v : X) → b ≡ Some v → a ≡ Some v) → b ≡ a
  agree None None f g = refl
  agree None (Some v) f g = sym (g v refl)
  agree (Some v) b f g = f v refl

  same_lookups : (es ys : List (ℕ × X)) (q : ℕ) → IsDistinct nat_eq (keys_of es) → IsDistinct nat_eq (keys_of ys) →
      IsPermutation es ys → lookup (nat_eq q) ys ≡ lookup (nat_eq q) es
  same_lookups es ys q distinct distinct' moved =
      agree (lookup (nat_eq q) es) (lookup (nat_eq q) ys)
      (λ v h. lookup-from_Contains nat_eq_equiv q v ys distinct' (Contains-permutation es ys (q, v) moved
      (Contains-from_lookup same_keys q v es h)))
      (λ v h. lookup-from_Contains nat_eq_equiv q v es distinct (Contains-permutation ys es (q, v)
      (IsPermutation-sym es ys moved) (Contains-from_lookup same_keys q v ys h)))

  each_above : (n : ℕ) (es : List (ℕ × X)) → ((j : ℕ) (d : ℕ × X) → j < length es → n ≤ (get_or es j d).0) →
      Each (λ e. n ≤ e.0) es
  each_above n [] h = tt
  each_above n (e ∷ es) h = (h 0 e (omega arith), each_above n es (λ j d lt. h (suc j) d (omega arith)))

  below : (n : ℕ) (es : List (ℕ × X)) → Each (λ e. n ≤ e.0) es → Each (λ k. nat_eq n k ≡ false) (keys_of es) →
      T (below_all nat_cmp n es)
  below n [] h k = tt
  below n (e ∷ es) h k = both (is_lt (nat_cmp n e.0)) (below_all nat_cmp n es) (subst T (sym (less n e.0 h.0 k.0)) tt)
      (below n es h.1 k.1)

  strictly : (es : List (ℕ × X)) → IsNonDecreasingBy (λ e. e.0) es → IsDistinct nat_eq (keys_of es) →
      T (is_sorted nat_cmp es)
  unfolding IsDistinct
  strictly [] h k = tt
  strictly (e ∷ es) h k =
      both (below_all nat_cmp e.0 es) (is_sorted nat_cmp es)
      (below e.0 es (each_above e.0 es (λ j d lt. h 0 (suc j) d (omega arith) (omega arith))) k.0)
      (strictly es (λ i j d le lt. h (suc i) (suc j) d (omega arith) (omega arith)) k.1)

  pub rising_entries : (es ys : List (ℕ × X)) → IsDistinct nat_eq (keys_of es) → IsPermutation es ys →
      IsNonDecreasingBy (λ e. e.0) ys → ys ≡ entries (from_entries {R = nat_cmp} es)
  rising_entries es ys distinct moved rises =
      let distinct' = IsDistinct-IsPermutation nat_eq flips (keys_of es) (keys_of ys) (IsPermutation-map (λ e. e.0) es
      ys moved) distinct in
      let s = strictly ys rises distinct' in
      sym (entries-from_sorted nat_cmp ys s)
      ∙ ap entries (same_map nat_cmp_total nat_cmp-IsAntisymmetric (from_sorted ys) (from_entries es)
      (λ q. get-from_sorted nat_cmp ys q s ∙ find_hashed ys q ∙ same_lookups es ys q distinct distinct' moved
      ∙ sym (get_hashed es q)))
