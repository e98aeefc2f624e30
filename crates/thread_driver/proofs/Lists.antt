-- Lists by index: what is there.
use Rattle.std.proofs.Common.{◌≡◌, ℕ, zero, suc, ◌<◌, List, [], ◌∷◌, length, Option, Some, None, sym, refl, arith}
use Rattle.std.specs.Prelude.{slice_get, slice_index_or, is_none, ◌&&◌, true}
use Rattle.std.proofs.lemmas.Bool.{true≢false}
use Rattle.std.proofs.lemmas.Option.{slice_get_read}

pub none_some : {A B : Type 0} {y : A} → None ≡ Some y → B
none_some e = cc

pub some_is : {A : Type 0} {x y : A} → Some x ≡ Some y → x ≡ y
some_is e = cc

-- two options that are both none
pub both_none : {A B : Type 0} (a : Option A) (b : Option B) → (is_none a && is_none b) ≡ true →
    (a ≡ None) × (b ≡ None)
both_none None None e = (refl, refl)
both_none None (Some b) e = absurd (true≢false (sym e))
both_none (Some a) b e = absurd (true≢false (sym e))

module _ {A : Type 0} where
  -- a value at each index below the length
  pub there : (xs : List A) (i : ℕ) → i < length xs → (x : A) × (slice_get xs i ≡ Some x)
  there [] i lt = absurd (omega arith)
  there (x ∷ xs) zero lt = (x, refl)
  there (x ∷ xs) (suc i) lt = there xs i (omega arith)

  -- the value that is read at an index is there
  pub read_there : (xs : List A) (i : ℕ) (other : A) → i < length xs → slice_get xs i ≡ Some (slice_index_or xs i other)
  read_there [] i other lt = absurd (omega arith)
  read_there (x ∷ xs) zero other lt = refl
  read_there (x ∷ xs) (suc i) other lt = read_there xs i other (omega arith)

  -- a value that was read at an index is there
  pub here : (xs : List A) (i : ℕ) (x : A) → i < length xs → x ≡ slice_index_or xs i x → slice_get xs i ≡ Some x
  here xs i x lt e = slice_get_read xs (length xs) i x refl lt e
