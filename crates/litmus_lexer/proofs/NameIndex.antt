-- The index of a name among names that a set keeps in their order.
use Rattle.std.proofs.Common.{◌≡◌, ℕ, ◌+◌, ◌≤◌, Bool, true, false, cond, ltb, List, [], ◌∷◌, ◌++◌, length, map, not}
use Rattle.std.proofs.Common.{Some, None, refl, sym, ap, ◌∙◌, inl, inr, arith}
use Rattle.std.specs.List.{position, position_or_len, list_any}
use Rattle.std.specs.Str.{bytes_eq}
use Rattle.std.specs.Global.{Vec}
use Rattle.std.proofs.lemmas.Bool.{cases_Bool, ltb-false}
use Rattle.std.proofs.lemmas.List.{length-map}
use Rattle.std.proofs.lemmas.List.Sums.{prefix_len-le-length}
use Rattle.std.proofs.lemmas.Slice.Eq.{bytes_eq-Decides}
use Rattle.litmus_lexer.specs.Naming.{place_of}

swapped : (a b : List ℕ) → bytes_eq a b ≡ bytes_eq b a
swapped a b =
    elim (cases_Bool (bytes_eq a b)) [
      | inl e ↦ let f : bytes_eq b a ≡ true = (bytes_eq-Decides b a).1 (sym ((bytes_eq-Decides a b).0 e)) in cc
      | inr e ↦ elim (cases_Bool (bytes_eq b a)) [
        | inl f ↦ let g : bytes_eq a b ≡ true =
            (bytes_eq-Decides a b).1 (sym ((bytes_eq-Decides b a).0 f)) in absurd cc
        | inr f ↦ cc
      ]
    ]

abbrev names_of : List (Vec ℕ) → List (List ℕ)
names_of = map (λ key. key.items)

index-of_keys : (name : List ℕ) (keys : List (Vec ℕ)) → position_or_len (λ key. bytes_eq name key.items) keys ≡
    place_of name (names_of keys)
index-of_keys name [] = refl
index-of_keys name (key ∷ keys) =
    rw (swapped name key.items) (ap (λ n. cond (not (bytes_eq key.items name)) (1 + n) 0) (index-of_keys name keys))

pub index-found : (name : List ℕ) (keys : List (Vec ℕ)) (i : ℕ)
    → position (λ key. bytes_eq name key.items) keys ≡ Some i → i ≡ place_of name (names_of keys)
index-found name keys i is = from (ltb _ (length keys)) is ∙ index-of_keys name keys
  where
    from : (b : Bool) → cond b (Some (position_or_len (λ key. bytes_eq name key.items) keys)) None ≡ Some i →
        i ≡ position_or_len (λ key. bytes_eq name key.items) keys
    from true e = cc
    from false e = absurd cc

pub index-none : (name : List ℕ) (keys : List (Vec ℕ))
    → position (λ key. bytes_eq name key.items) keys ≡ None → length (names_of keys) ≡ place_of name (names_of keys)
index-none name keys is =
    let p : ℕ = position_or_len (λ key. bytes_eq name key.items) keys in
    let most : p ≤ length keys = prefix_len-le-length (λ key. not (bytes_eq name key.items)) keys in
    elim (cases_Bool (ltb p (length keys))) [
      | inl e ↦ let some : Some p ≡ None = rw e at is in absurd cc
      | inr e ↦ let least : length keys ≤ p = ltb-false _ _ e in let same : length keys ≡ p =
          omega arith in length-map keys (λ (key : Vec ℕ). key.items) ∙ same ∙ index-of_keys name keys
    ]

none-equal : (name : List ℕ) (keys : List (Vec ℕ))
    → place_of name (names_of keys) ≡ length (names_of keys) → list_any (λ key. bytes_eq name key.items) keys ≡ false
none-equal name [] is = refl
none-equal name (key ∷ keys) is =
    elim (cases_Bool (bytes_eq key.items name)) [
      | inl e ↦ let zero_there : place_of name (names_of (key ∷ keys)) ≡ 0 =
          rw e refl in absurd (omega (arith, is, zero_there))
      | inr e ↦ let further : place_of name (names_of (key ∷ keys)) ≡ 1 + place_of name (names_of keys) = rw e refl in
          rw (swapped name key.items, e) (none-equal name keys (omega (arith, is, further)))
    ]

map-push : (keys : List (Vec ℕ)) (key : Vec ℕ) → names_of (keys ++ key ∷ []) ≡ names_of keys ++ key.items ∷ []
map-push [] key = refl
map-push (other ∷ keys) key = ap (λ names. other.items ∷ names) (map-push keys key)

-- a name that is not among them is put after them
pub name-pushed : (name : List ℕ) (keys : List (Vec ℕ)) (key : Vec ℕ) (new : List (Vec ℕ)) → key.items ≡ name
    → new ≡ cond (list_any (λ other. bytes_eq key.items other.items) keys) keys (keys ++ key ∷ [])
    → place_of name (names_of keys) ≡ length (names_of keys) → names_of new ≡ names_of keys ++ name ∷ []
name-pushed name keys key new same is absent =
    let none : list_any (λ other. bytes_eq key.items other.items) keys ≡ false =
    rw same (none-equal name keys absent) in
    let pushed : new ≡ keys ++ key ∷ [] = rw none at is in
    ap names_of pushed ∙ map-push keys key ∙ ap (λ n. names_of keys ++ n ∷ []) same
