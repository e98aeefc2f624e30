-- A vector of words, as a word is set in it.
use Rattle.std.proofs.Common.{◌≡◌, ℕ, zero, suc, ◌<◌, List, [], ◌∷◌, ◌++◌, length, slice_set, refl, ap, arith}
use Rattle.sequential_machine.specs.Turns.{with_word_in, words_set}

pub set_within : (words : List ℕ) (a v : ℕ) → a < length words → slice_set words a v ≡ with_word_in words a v
set_within [] a v lt = absurd (omega (arith, lt))
set_within (w ∷ words) zero v lt = refl
set_within (w ∷ words) (suc a) v lt = ap (λ (ws : List ℕ). w ∷ ws) (set_within words a v (omega (arith, lt)))

pub set_behind : (words : List ℕ) (a v : ℕ) → length words ≡ a → words ++ v ∷ [] ≡ with_word_in words a v
set_behind [] zero v e = refl
set_behind [] (suc a) v e = absurd (omega (arith, e))
set_behind (w ∷ words) zero v e = absurd (omega (arith, e))
set_behind (w ∷ words) (suc a) v e = ap (λ (ws : List ℕ). w ∷ ws) (set_behind words a v (omega (arith, e)))

-- a zero more behind the words shows in none of them
pub zero_behind : (words : List ℕ) (a v : ℕ) → length words < a →
    with_word_in (words ++ 0 ∷ []) a v ≡ with_word_in words a v
zero_behind [] zero v lt = absurd (omega (arith, lt))
zero_behind [] (suc a) v lt = refl
zero_behind (w ∷ words) zero v lt = absurd (omega (arith, lt))
zero_behind (w ∷ words) (suc a) v lt = ap (λ (ws : List ℕ). w ∷ ws) (zero_behind words a v (omega (arith, lt)))

-- words, with those that entries set, the last entry first
abbrev pub set_over : List (ℕ × ℕ) → List ℕ → List ℕ
set_over [] words = words
set_over (e ∷ es) words = with_word_in (set_over es words) e.0 e.1

pub set_from_none : (es : List (ℕ × ℕ)) → set_over es [] ≡ words_set es
set_from_none [] = refl
set_from_none (e ∷ es) = ap (λ (ws : List ℕ). with_word_in ws e.0 e.1) (set_from_none es)

pub set_last : (es : List (ℕ × ℕ)) (e : ℕ × ℕ) (words : List ℕ) → set_over (es ++ e ∷ []) words ≡ set_over es
    (with_word_in words e.0 e.1)
set_last [] e words = refl
set_last (d ∷ es) e words = ap (λ (ws : List ℕ). with_word_in ws d.0 d.1) (set_last es e words)
