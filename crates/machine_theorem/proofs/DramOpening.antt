-- A DRAM opens with the words of the opening memory, eight to a line.
use Rattle.std.proofs.Common.{◌≡◌, ◌≢◌, ℕ, suc, ◌/◌, ◌%◌, ◌<◌, ◌≤◌, Bool, true, cond, eqb, List, [], ◌∷◌, length}
use Rattle.std.proofs.Common.{replicate, set, get_or, Option, Some, refl, sym, ap, ◌∙◌, arith, ⊎_elim, inl, inr}
use Rattle.std.proofs.Common.{get_or-set_same, get_or-set_other, length-set, unwrap_or, mod-lt, div-add-mod', rules}
use Rattle.std.specs.Ordering.{nat_cmp, eq_by_cmp}
use Rattle.std.specs.FinMap.{FinMap, empty, find, get-empty}
use Rattle.std.specs.Cmp.{unsigned_tied}
use Rattle.std.proofs.lemmas.Bool.{cond_both, cases_eq, eq-eqb, ne_eqb, cond-true, cond-false}
use Rattle.dram_mts.specs.Lines.{words_of}
use Rattle.machine_table.specs.declared.config.Config.{Config}
use Rattle.machine_table.specs.Opening.{with_word, dram_of}
use Rattle.machine_theorem.proofs.DramWords.{words-insert_same, words-insert_other}

pub get_replicate : {X : Type 0} (n i : ℕ) (x : X) → get_or (replicate n x) i x ≡ x
get_replicate (suc n) (suc i) x = get_replicate n i x
get_replicate _ _ x = refl

empty_words : (l : ℕ) → words_of empty l ≡ replicate 8 0
empty_words l = ap (λ (o : Option (List ℕ)). unwrap_or o (replicate 8 0)) (get-empty nat_cmp l)

module _ (c : Config) (bank : ℕ) where
  word_long : (lines : FinMap nat_cmp (List ℕ)) (line index v l : ℕ) → ((k : ℕ) → length (words_of lines k) ≡ 8) →
      length (words_of (with_word lines line index v) l) ≡ 8
  word_long lines line index v l long = elim (cases_eq l line) [
    | inl e ↦ rw (e, words-insert_same lines line (set (words_of lines line) index v))
        (length-set (words_of lines line) index v ∙ long line)
    | inr ne ↦ rw (words-insert_other lines line l (set (words_of lines line) index v) ne) (long l)
  ]

  pub dram_long : (es : List (ℕ × ℕ)) (l : ℕ) → length (words_of (dram_of c bank es) l) ≡ 8
  dram_long [] l = ap length (empty_words l)
  dram_long (e ∷ es) l =
      let long = dram_long es in
      cond_both (eqb ((e.0 / c.line_words) % c.banks) bank) _ _ (λ lines. length (words_of lines l) ≡ 8)
      (λ here. word_long (dram_of c bank es) (e.0 / c.line_words) (e.0 % c.line_words) e.1 l long) (λ there. long l)

  -- a word that isn't the one that is set stays
  word_stays : (lines : FinMap nat_cmp (List ℕ)) (line i v l k : ℕ) → (l ≡ line → k ≢ i) →
      get_or (words_of (with_word lines line i v) l) k 0 ≡ get_or (words_of lines l) k 0
  word_stays lines line i v l k apart = elim (cases_eq l line) [
    | inl q ↦ rw (q, words-insert_same lines line (set (words_of lines line) i v))
        (get_or-set_other (words_of lines line) i k v 0 (apart q))
    | inr ne ↦ rw (words-insert_other lines line l (set (words_of lines line) i v) ne) refl
  ]

  -- no word is set behind those that lines have
  pub dram_zeros : 0 < c.line_words → (es : List (ℕ × ℕ)) (l k : ℕ) → c.line_words ≤ k →
      get_or (words_of (dram_of c bank es) l) k 0 ≡ 0
  dram_zeros some [] l k le = ap (λ ws. get_or ws k 0) (empty_words l) ∙ get_replicate 8 k 0
  dram_zeros some (e ∷ es) l k le =
      let zeros = dram_zeros some es l k le in
      cond_both (eqb ((e.0 / c.line_words) % c.banks) bank) _ _ (λ ds. get_or (words_of ds l) k 0 ≡ 0)
      (λ here. word_stays lines line (e.0 % c.line_words) e.1 l k (λ q. apart) ∙ zeros) (λ there. zeros)
    where
      lines : FinMap nat_cmp (List ℕ)
      lines = dram_of c bank es

      line : ℕ
      line = e.0 / c.line_words

      apart : k ≢ e.0 % c.line_words
      apart same = let lt = mod-lt e.0 some in omega (arith, le, same, lt)

  module _ (some : 0 < c.line_words) (most : c.line_words ≤ 8) where
    abbrev word : FinMap nat_cmp (List ℕ) → ℕ → ℕ
    word lines a = get_or (words_of lines (a / c.line_words)) (a % c.line_words) 0

    written : (lines : FinMap nat_cmp (List ℕ)) (a v : ℕ) → length (words_of lines (a / c.line_words)) ≡ 8 →
        word (with_word lines (a / c.line_words) (a % c.line_words) v) a ≡ v
    written lines a v long = search (rules, words-insert_same, get_or-set_same, mod-lt)

    others : (lines : FinMap nat_cmp (List ℕ)) (a d v : ℕ) → a ≢ d →
        word (with_word lines (d / c.line_words) (d % c.line_words) v) a ≡ word lines a
    others lines a d v ne = search (rules, word_stays, div-add-mod')

    pub dram_word : (es : List (ℕ × ℕ)) (a : ℕ) → (a / c.line_words) % c.banks ≡ bank → word (dram_of c bank es)
        a ≡ unwrap_or (find nat_cmp a es) 0
    dram_word [] a home = ap (λ ws. get_or ws (a % c.line_words) 0) (empty_words (a / c.line_words))
        ∙ get_replicate 8 (a % c.line_words) 0
    dram_word (e ∷ es) a home =
        ⊎_elim
        (λ (q : a ≡ e.0).
        let test : eqb ((e.0 / c.line_words) % c.banks) bank ≡ true =
        eq-eqb _ _ (ap (λ (n : ℕ). (n / c.line_words) % c.banks) (sym q) ∙ home) in
        ap (λ (b : Bool). word (cond b (with_word (dram_of c bank es) (e.0 / c.line_words) (e.0 % c.line_words) e.1)
        (dram_of c bank es)) a) test
        ∙ ap (λ (n : ℕ). word (with_word (dram_of c bank es) (n / c.line_words) (n % c.line_words) e.1) a) (sym q)
        ∙ written (dram_of c bank es) a e.1 (dram_long es (a / c.line_words))
        ∙ sym (ap (λ (o : Option ℕ). unwrap_or o 0) (cond-true (eq_by_cmp nat_cmp a e.0) (Some e.1)
        (find nat_cmp a es) (unsigned_tied a e.0 ∙ eq-eqb a e.0 q))))
        (λ (ne : a ≡ e.0 → ⊥).
        let rest = dram_word es a home in
        cond_both (eqb ((e.0 / c.line_words) % c.banks) bank) _ _
        (λ ds. word ds a ≡ unwrap_or (find nat_cmp a es) 0)
        (λ here. others (dram_of c bank es) a e.0 e.1 ne ∙ rest) (λ there. rest)
        ∙ sym (ap (λ (o : Option ℕ). unwrap_or o 0) (cond-false (eq_by_cmp nat_cmp a e.0) (Some e.1)
        (find nat_cmp a es) (unsigned_tied a e.0 ∙ ne_eqb a e.0 ne))))
        (cases_eq a e.0)
