-- The ends of all layers, in any order, are the ends of the test.
use Rattle.std.proofs.Common.{◌≡◌, ℕ, suc, ◌+◌, ◌-◌, ◌*◌, ◌^◌, ◌<◌, ◌≤◌, min, List, [], ◌∷◌, length, map, Contains}
use Rattle.std.proofs.Common.{refl, sym, ap, ◌∙◌, subst, arith, inl, inr}
use Rattle.std.specs.List.{list_any, AllByRecursion as Each}
use Rattle.std.specs.List.Sorted.{IsPermutation}
use Rattle.std.specs.Str.{bytes_eq}
use Rattle.std.proofs.lemmas.Bool.{cases_lt}
use Rattle.std.proofs.lemmas.List.{length-map}
use Rattle.std.proofs.lemmas.List.Sorted.{All-permutation, IsPermutation-map, IsPermutation-sym}
use Rattle.std.proofs.lemmas.List.Elements.{All-from_recursion, All-contains, All-contains_itself}
use Rattle.std.proofs.lemmas.Slice.Eq.{bytes_eq-Decides}
use Rattle.indexmap.proofs.CallerLemmas.{Contains-list_any}
use Rattle.litmus_reader.specs.Litmus.{Litmus}
use Rattle.sequential_machine.specs.Turns.{Point, Reached, IsEnd}
use Rattle.sequential_machine.proofs.Lemmas.{turns_few}
use Rattle.sequential_ends.specs.Packed.{packed}
use Rattle.sequential_ends.specs.Rows.{rows_in}
use Rattle.sequential_ends.specs.Every.{IsTooMany}
use Rattle.sequential_ends.specs.Layers.{layer, ends_before, kept_at}
use Rattle.sequential_ends.proofs.LayerPoints.{sound, ends_sound, every_end, empty_from, behind_few}

first_few : (test : Litmus) (k : ℕ) (points : List Point) → Each (Reached test k) points → 0 < length points →
    k ≤ test.threads * length test.cells
first_few test k [] h lt = absurd (omega (arith, lt))
first_few test k (p ∷ points) h lt = turns_few test k p h.0

pub layer_long : (test : Litmus) (k : ℕ) (rows : List (List ℕ × List ℕ)) → rows_in rows ≡ map packed (layer test k) →
    length rows ≡ length (layer test k)
layer_long test k rows is =
    sym (length-map rows (λ (r : List ℕ × List ℕ). r.0)) ∙ ap length is ∙ length-map (layer test k) packed

-- a layer that has points is one of so many
pub layer_few : (test : Litmus) (k : ℕ) (rows : List (List ℕ × List ℕ)) → rows_in rows ≡ map packed (layer test k) →
    0 < length rows → k ≤ test.threads * length test.cells
layer_few test k rows is lt =
    let long = layer_long test k rows is in
    first_few test k (layer test k) (sound test k) (omega (arith, lt, long))

no_points : (points : List Point) → length points ≤ 0 → points ≡ []
no_points [] le = refl
no_points (p ∷ points) le = absurd (omega (arith, le))

pub layer_empty : (test : Litmus) (k : ℕ) (rows : List (List ℕ × List ℕ)) → rows_in rows ≡ map packed (layer test k) →
    length rows ≤ 0 → layer test k ≡ []
layer_empty test k rows is le =
    let long = layer_long test k rows is in no_points (layer test k) (omega (arith, le, long))

-- where a list stops, and what is enough there
pub stops : (test : Litmus) (k most enough : ℕ) → ((j : ℕ) → j < k → kept_at test j ≤ most) → most < kept_at test k →
    most < 2 ^ 64 - 1 → enough ≡ min (length (layer test k) * (1 + test.threads)) (2 ^ 64 - 1) →
    IsTooMany test most enough
stops test k most enough before over small is =
    let few = behind_few test (layer test k) in
    record {
      stop = k;
      before = before;
      over = over;
      enough_is = is;
      fits = omega (arith, few, is);
      greater = omega (arith, few, over, small, is);
    }

module _ (test : Litmus) (k : ℕ) (none : layer test k ≡ []) (rows sorted : List (List ℕ × List ℕ))
    (are : rows_in rows ≡ ends_before test k) (same : IsPermutation rows sorted) where
  same_rows : IsPermutation (rows_in rows) (rows_in sorted)
  same_rows = IsPermutation-map (λ (row : List ℕ × List ℕ). row.0) rows sorted same

  pub each_is_end : (values : List ℕ) → Contains (rows_in sorted) values → IsEnd test values
  each_is_end values there =
      All-contains (IsEnd test) (rows_in sorted) values
      (All-permutation (IsEnd test) (rows_in rows) (rows_in sorted) same_rows
      (All-from_recursion (IsEnd test) (rows_in rows) (subst (Each (IsEnd test)) (sym are) (ends_sound test k)))) there

  pub each_end_is : (values : List ℕ) → IsEnd test values → Contains (rows_in sorted) values
  each_end_is values e =
      let there : Contains (rows_in rows) values =
      Contains-list_any bytes_eq (λ x y h. (bytes_eq-Decides x y).0 h) (rows_in rows) values
      (ap (list_any (bytes_eq values)) are ∙ every_end test k values none e) in
      All-contains (Contains (rows_in sorted)) (rows_in rows) values
      (All-permutation (Contains (rows_in sorted)) (rows_in sorted) (rows_in rows)
      (IsPermutation-sym (rows_in rows) (rows_in sorted) same_rows) (All-contains_itself (rows_in sorted))) there

  pub few_kept : (most : ℕ) → ((j : ℕ) → j < k → kept_at test j ≤ most) → (j : ℕ) → kept_at test j ≤ most
  few_kept most few j =
      elim (cases_lt j k) [
        | inl lt ↦ few j lt
        | inr le ↦
            let here = ap length (empty_from test k j none le) in
            let next = ap length (empty_from test k (suc j) none (omega (arith, le))) in omega (arith, here, next)
      ]
