-- The words of the opening memory, set in DRAM one by one from the last one to the first.
use Rattle.std.proofs.Common.{◌≡◌, ℕ, zero, suc, ◌+◌, ◌<◌, ◌/◌, ◌%◌, ◌++◌, eqb, List, [], ◌∷◌, length, length-set}
use Rattle.std.proofs.Common.{get_or, set, replicate, refl, sym, ap, ap₂, ◌∙◌, arith}
use Rattle.std.specs.Ordering.{nat_cmp}
use Rattle.std.specs.FinMap.{FinMap, empty}
use Rattle.std.proofs.lemmas.Bool.{eq-eqb, ne_eqb, cond-true, cond-false}
use Rattle.std.proofs.Math.Nat.{mod-lt}
use Rattle.machine_table.specs.declared.config.Config.{Config}
use Rattle.machine_table.specs.Opening.{with_word, dram_of, row}
use Rattle.interleaving_core.specs.OpeningWords.{word_set}

abbrev Drams : Type 0
Drams = List (FinMap nat_cmp (List ℕ))

abbrev pub no_words : Config → Drams
no_words c = replicate c.banks empty

abbrev pub filled : Config → List (ℕ × ℕ) → Drams → Drams
filled c [] drams = drams
filled c (word ∷ words) drams = word_set c word (filled c words drams)

-- the last word is set first
pub filled_last : (c : Config) (words : List (ℕ × ℕ)) (word : ℕ × ℕ) (drams : Drams) → filled c (words ++ word ∷ [])
    drams ≡ filled c words (word_set c word drams)
filled_last c [] word drams = refl
filled_last c (w ∷ words) word drams = ap (word_set c w) (filled_last c words word drams)

pub set_counts : (c : Config) (word : ℕ × ℕ) (drams : Drams) → length (word_set c word drams) ≡ length drams
set_counts c word drams = length-set drams _ _

-- the home of a word's line
abbrev home : Config → ℕ × ℕ → ℕ
home c word = (word.0 / c.line_words) % c.banks

others : (c : Config) (word : ℕ × ℕ) (words : List (ℕ × ℕ)) (start n : ℕ) → home c word < start →
    row (λ b. dram_of c b words) start n ≡ row (λ b. dram_of c b (word ∷ words)) start n
others c word words start zero below = refl
others c word words start (suc n) below =
    ap₂ (λ (x : FinMap nat_cmp (List ℕ)) (xs : Drams). x ∷ xs)
    (sym (cond-false (eqb (home c word) start) _ (dram_of c start words)
    (ne_eqb (home c word) start (λ e. absurd (omega arith)))))
    (others c word words (start + 1) n (omega arith))

-- one more word
one_more : (c : Config) (word : ℕ × ℕ) (words : List (ℕ × ℕ)) (start n k : ℕ) → k < n → home c word ≡ start + k →
    set (row (λ b. dram_of c b words) start n) k (with_word (get_or (row (λ b. dram_of c b words) start n) k empty)
    (word.0 / c.line_words) (word.0 % c.line_words) word.1) ≡ row (λ b. dram_of c b (word ∷ words)) start n
one_more c word words start zero k below is = absurd (omega arith)
one_more c word words start (suc n) zero below is =
    ap₂ (λ (x : FinMap nat_cmp (List ℕ)) (xs : Drams). x ∷ xs)
    (sym (cond-true (eqb (home c word) start) _ (dram_of c start words) (eq-eqb (home c word) start (omega arith))))
    (others c word words (start + 1) n (omega arith))
one_more c word words start (suc n) (suc k) below is =
    ap₂ (λ (x : FinMap nat_cmp (List ℕ)) (xs : Drams). x ∷ xs)
    (sym (cond-false (eqb (home c word) start) _ (dram_of c start words)
    (ne_eqb (home c word) start (λ e. absurd (omega arith)))))
    (one_more c word words (start + 1) n k (omega arith) (omega arith))

none_yet : (c : Config) (start n : ℕ) → replicate n empty ≡ row (λ b. dram_of c b []) start n
none_yet c start zero = refl
none_yet c start (suc n) = ap (λ (xs : Drams). empty ∷ xs) (none_yet c (start + 1) n)

pub filled_is : (c : Config) → 0 < c.banks → (words : List (ℕ × ℕ)) → filled c words (no_words c) ≡
    row (λ b. dram_of c b words) 0 c.banks
filled_is c some [] = none_yet c 0 c.banks
filled_is c some (word ∷ words) =
    ap (word_set c word) (filled_is c some words)
    ∙ one_more c word words 0 c.banks (home c word) (mod-lt (word.0 / c.line_words) some) (omega arith)
