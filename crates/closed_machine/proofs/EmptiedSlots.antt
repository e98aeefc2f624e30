-- Slots that are emptied one by one.
use Rattle.std.proofs.Common.{◌≡◌, ◌≢◌, ℕ, zero, suc, ◌+◌, ◌<◌, Bool, false, List, [], ◌∷◌, ◌++◌, length}
use Rattle.std.proofs.Common.{take, get_or, Some, sym, ap, ◌∙◌, arith}
use Rattle.std.proofs.lemmas.List.{take_more, get_or-set_same, get_or-set_other}
use Rattle.std.proofs.lemmas.Option.{slice_get_within}
use Rattle.std.specs.Prelude.{slice_get, slice_set}
use Rattle.std.specs.Mem.Slots.Ownership.{Filled}
use mathlib.Core.Option.{some, some-injective, some-ne-none}
use mathlib.Core.Logic.{dite}
use native.Mathlib.Decide.{ℕ_discrete}
use lib.ListN.{get_elem?}

module _ {A : Type 0} where
  pub sliced : (xs : List A) (i : ℕ) (a : A) → get_elem? xs i ≡ some a → slice_get xs i ≡ Some a
  sliced [] i a e = absurd (some-ne-none a (sym e))
  sliced (x ∷ xs) zero a e = ap Some (some-injective x a e)
  sliced (x ∷ xs) (suc i) a e = sliced xs i a e

  read_at : (xs : List A) (i : ℕ) (a d : A) → get_elem? xs i ≡ some a → get_or xs i d ≡ a
  read_at [] i a d e = absurd (some-ne-none a (sym e))
  read_at (x ∷ xs) zero a d e = some-injective x a e
  read_at (x ∷ xs) (suc i) a d e = read_at xs i a d e

  -- the contents of one more slot
  pub one_more_taken : (xs : List A) (i : ℕ) (x : A) (old new : List A) → get_elem? xs i ≡ some x →
      old ≡ take i xs → new ≡ old ++ x ∷ [] → new ≡ take (i + 1) xs
  one_more_taken xs i x old new e was is =
      is ∙ ap (λ z. z ++ x ∷ []) was
      ∙ sym (take_more xs i x (slice_get_within xs i x (sliced xs i x e))
      ∙ ap (λ y. take i xs ++ y ∷ []) (read_at xs i x x e))

-- slots that are emptied from the first to the last
module _ (old new : List Bool) (i : ℕ) where
  pub still_filled : (long longer : ℕ) → new ≡ slice_set old i false → longer ≡ long → Filled old i long →
      Filled new (i + 1) longer
  still_filled long longer is same full k le lt =
      ap (λ fs. get_or fs k false) is
      ∙ get_or-set_other old i k false false (λ e. absurd (omega arith))
      ∙ full k (omega arith) (omega arith)

  pub emptied : i < length old → new ≡ slice_set old i false →
      ((k : ℕ) → k < i → get_or old k false ≡ false) → (k : ℕ) → k < i + 1 → get_or new k false ≡ false
  emptied within is before k lt =
      ap (λ fs. get_or fs k false) is
      ∙ dite (ℕ_discrete k i)
      (λ (e : k ≡ i).
      ap (λ j. get_or (slice_set old i false) j false) e ∙ get_or-set_same old i false false within)
      (λ (ne : k ≢ i). get_or-set_other old i k false false ne ∙ before k (omega arith))
