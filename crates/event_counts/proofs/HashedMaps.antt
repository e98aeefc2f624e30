-- The finite map that a hash map's entries make.
use Rattle.std.proofs.Common.{◌≡◌, ℕ, nat_eq, List, [], ◌∷◌, cond, Some, sym, ap, ◌∙◌, refl, arith}
use Rattle.std.proofs.lemmas.Bool.Decides.{nat_tests}
use Rattle.std.specs.Ordering.{nat_cmp, eq_by_cmp}
use Rattle.std.specs.Cmp.{nat_cmp_total, eq_by_cmp_equiv}
use Rattle.std.specs.Map.{lookup}
use Rattle.std.specs.FinMap.{from_entries, get, insert, find, get-from_entries, get-insert, same_map}
use Rattle.std.specs.FinMap.{nat_cmp-IsAntisymmetric}

pub same_test : (a b : ℕ) → eq_by_cmp nat_cmp a b ≡ nat_eq a b
same_test a b = grind (arith, nat_tests)

module _ {X : Type 0} where
  find_hashed : (es : List (ℕ × X)) (q : ℕ) → find nat_cmp q es ≡ lookup (nat_eq q) es
  find_hashed [] q = refl
  find_hashed (e ∷ es) q = ap (λ b. cond b (Some e.1) (find nat_cmp q es)) (same_test q e.0)
      ∙ ap (cond (nat_eq q e.0) (Some e.1)) (find_hashed es q)

  -- what the map has at a key is what the entries have there
  pub get_hashed : (es : List (ℕ × X)) (q : ℕ) → get (from_entries {R = nat_cmp} es) q ≡ lookup (nat_eq q) es
  get_hashed es q = get-from_entries nat_cmp_total es q ∙ find_hashed es q

  -- entries with the same values make the same map
  pub same_hashed : (es fs : List (ℕ × X)) → ((q : ℕ) → lookup (nat_eq q) fs ≡ lookup (nat_eq q) es) →
      from_entries {R = nat_cmp} fs ≡ from_entries es
  same_hashed es fs h = same_map nat_cmp_total nat_cmp-IsAntisymmetric _ _ (λ q.
      get_hashed fs q ∙ h q ∙ sym (get_hashed es q))

  -- entries that differ at one key make maps that differ there
  pub changed_hashed : (es fs : List (ℕ × X)) (k : ℕ) (v : X) →
      ((q : ℕ) → lookup (nat_eq q) fs ≡ cond (nat_eq k q) (Some v) (lookup (nat_eq q) es)) →
      from_entries {R = nat_cmp} fs ≡ insert (from_entries es) k v
  changed_hashed es fs k v h = same_map nat_cmp_total nat_cmp-IsAntisymmetric _ _ (λ q.
      get_hashed fs q ∙ h q ∙ ap (λ b. cond b (Some v) (lookup (nat_eq q) es)) (sym (same_test k q)
      ∙ (eq_by_cmp_equiv nat_cmp_total).symm k q)
      ∙ sym (get-insert nat_cmp_total (from_entries es) k v q ∙ ap (cond (eq_by_cmp nat_cmp q k) (Some v))
      (get_hashed es q)))
