-- The rows that an indexed map keeps.
use Rattle.std.proofs.Common.{◌≡◌, Bool, true, false, ◌||◌, if◌then◌else◌, List, [], ◌∷◌, ◌++◌, ℕ, ◌+◌, map, refl}
use Rattle.std.proofs.Common.{sym, ap, ◌∙◌, arith, cond, Option, Some, None, is_some}
use Rattle.std.specs.Map.{keys_of, lookup}
use Rattle.std.specs.List.{list_any, IsDistinct, AllByRecursion as Each}
use Rattle.std.specs.Str.{bytes_eq}
use Rattle.std.specs.Global.{Vec}
use Rattle.std.specs.List.Sorted.{IsSorted}
use Rattle.std.specs.Ordering.{nat_cmp}
use Rattle.std.specs.Cmp.Lexicographic.{slice_cmp}
use Rattle.std.proofs.lemmas.List.{get_or-map, length-map, map-append}
use Rattle.sequential_ends.specs.Rows.{of_one_row, rows_in, with_ordered, with_row}

abbrev pub rows_of : List (Vec ℕ) → List (List ℕ)
rows_of = map (λ row. row.items)

-- what a map adds to a list, if the list has none that is the same
pub added_by : {X Y : Type 0} (same : Y → Y → Bool) (f : X → Y) (xs : List X) (x : X) →
    (if list_any (same (f x)) (map f xs) then map f xs else map f xs ++ f x ∷ [])
    ≡ map f (if list_any (λ y. same (f x) (f y)) xs then xs else xs ++ x ∷ [])
added_by {X} same f xs x = rw (any xs) (by (list_any (λ y. same (f x) (f y)) xs))
  where
    any : (ys : List X) → list_any (same (f x)) (map f ys) ≡ list_any (λ y. same (f x) (f y)) ys
    any [] = refl
    any (y ∷ ys) = ap (λ (b : Bool). same (f x) (f y) || b) (any ys)

    by : (b : Bool) → (if b then map f xs else map f xs ++ f x ∷ []) ≡ map f (if b then xs else xs ++ x ∷ [])
    by true = refl
    by false = sym (map-append f xs (x ∷ []))

pub ordered_added : (rows : List (List ℕ × List ℕ)) (row : List ℕ × List ℕ) →
    with_row (rows_in rows) row.0 ≡ rows_in (with_ordered rows row)
ordered_added rows row = added_by bytes_eq (λ (r : List ℕ × List ℕ). r.0) rows row

-- ---- the entries of an indexed map

abbrev pub ordered_of : List (Vec ℕ × Vec ℕ) → List (List ℕ × List ℕ)
ordered_of = map (λ row. (row.0.items, row.1.items))

pub keys_are_rows : (es : List (Vec ℕ × Vec ℕ)) → rows_of (keys_of es) ≡ rows_in (ordered_of es)
keys_are_rows [] = refl
keys_are_rows (e ∷ es) = ap (λ (rows : List (List ℕ)). e.0.items ∷ rows) (keys_are_rows es)

found_by : (row : Vec ℕ) (order : List ℕ) (es : List (Vec ℕ × Vec ℕ)) →
    list_any (of_one_row (row.items, order)) (ordered_of es)
    ≡ is_some (lookup (λ key. bytes_eq row.items key.items) es)
found_by row order [] = refl
found_by row order (e ∷ es) = by (bytes_eq row.items e.0.items) _ (found_by row order es)
  where
    by : (b : Bool) (o : Option (Vec ℕ)) {c : Bool} → c ≡ is_some o → (b || c) ≡ is_some (cond b (Some e.1) o)
    by true o h = refl
    by false o h = h

pub is_none : {X : Type 0} (o : Option X) → is_some o ≡ false → o ≡ None
is_none None h = refl
is_none (Some x) h = absurd cc

pub row_there : (es : List (Vec ℕ × Vec ℕ)) (row order : Vec ℕ) →
    is_some (lookup (λ key. bytes_eq row.items key.items) es) ≡ true →
    ordered_of es ≡ with_ordered (ordered_of es) (row.items, order.items)
row_there es row order h = rw (found_by row order.items es ∙ h) refl

pub row_new : (es : List (Vec ℕ × Vec ℕ)) (row order : Vec ℕ) →
    is_some (lookup (λ key. bytes_eq row.items key.items) es) ≡ false →
    ordered_of (es ++ (row, order) ∷ []) ≡ with_ordered (ordered_of es) (row.items, order.items)
row_new es row order h =
    rw (found_by row order.items es ∙ h)
    (map-append (λ (e : Vec ℕ × Vec ℕ). (e.0.items, e.1.items)) es ((row, order) ∷ []))

apart : (row : Vec ℕ) (keys : List (Vec ℕ)) → Each (λ (key : Vec ℕ). bytes_eq row.items key.items ≡ false) keys →
    Each (λ (other : List ℕ). bytes_eq row.items other ≡ false) (rows_of keys)
apart row [] h = tt
apart row (key ∷ keys) h = (h.0, apart row keys h.1)

pub rows_once : (keys : List (Vec ℕ)) → IsDistinct (λ (a b : Vec ℕ). bytes_eq a.items b.items) keys →
    IsDistinct bytes_eq (rows_of keys)
unfolding IsDistinct
rows_once [] h = tt
rows_once (key ∷ keys) h = (apart key keys h.0, rows_once keys h.1)

pub rows_sorted : (keys : List (Vec ℕ)) → IsSorted (λ (a b : Vec ℕ). slice_cmp nat_cmp a.items b.items) keys →
    IsSorted (slice_cmp nat_cmp) (rows_of keys)
rows_sorted [] h = λ k d low high. absurd (omega (arith, high))
rows_sorted (key ∷ keys) h = λ k d low high.
    let long = length-map (key ∷ keys) (λ (row : Vec ℕ). row.items) in
    let above = get_or-map (λ (row : Vec ℕ). row.items) (key ∷ keys) (k + 1) key d (omega (arith, high, long)) in
    let below = get_or-map (λ (row : Vec ℕ). row.items) (key ∷ keys) k key d (omega (arith, high, long)) in
    rw (above, below) (h k key low (omega (arith, high, long)))
