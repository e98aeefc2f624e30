-- The number, the flag and the word that an option's text says.
use Rattle.std.proofs.Common.{◌≡◌, ℕ, ◌<◌, ◌≤◌, ◌^◌, ◌⊎◌, Bool, true, false, List, [], Option, Some, None, Result, Ok}
use Rattle.std.proofs.Common.{Err, codes, refl, sym, ap, subst, ◌∙◌, arith, inl, inr}
use Rattle.std.specs.Prelude.{option_map, unwrap_or}
use Rattle.std.specs.Borrow.{Bor}
use Rattle.std.specs.Str.Parse.{ParsesBool, ParsesUnsigned, digits_value, without_leading_plus}
use Rattle.clap.specs.Words.{ReadsOne, Text, first_of, first_value, one_text, one_of, rows_of}
use Rattle.clap.specs.declared.parser.matches.Found.{Found}
use Rattle.clap.proofs.WalkLemmas.{first_value-rows, one_text-rows}
use Rattle.command_line.specs.Options.{IsNumberIn, Writes, WritesWithin}

module _ {E : Type 0} (gives : List ℕ → Result ℕ E → Type 0) (parses : (bs : List ℕ) (r : Result ℕ E) → gives bs r →
    ParsesUnsigned 64 10 bs r) (least most : ℕ) (few : most < 2 ^ 64) where
  -- what is read of an option's text, or nothing where it has none
  abbrev Reads : Option Text → Option ℕ → Type 0
  Reads o r = (o ≡ None → r ≡ None) × ((t : List ℕ) → o ≡ Some t → ReadsOne gives t r)

  writes_read : (text : Text) (n : ℕ) → gives text (Ok n) → Writes text n
  writes_read text n g = let p = parses text (Ok n) g in (p.0.0, sym p.1)

  writes_none : (text : Text) → ReadsOne gives text None → (n : ℕ) → WritesWithin text least most n → ⊥
  writes_none text g n w =
      let small : n < 2 ^ 64 = let high = w.2 in omega (arith, high, few) in
      parses text (Err g.0) g.1 (w.0.0, rw (w.0.1) small)

  within : (o : Option Text) (r : Option ℕ) → Reads o r → (n : ℕ) → r ≡ Some n → least ≤ n → n ≤ most →
      IsNumberIn o least most (Some n)
  within None r reads n is low high = let none : None ≡ Some n = sym (reads.0 refl) ∙ is in absurd cc
  within (Some text) (Some k) reads n is low high =
      let same : k ≡ n = cc in
      (text, refl, (subst (Writes text) same (writes_read text k (reads.1 text refl)), low, high))
  within (Some text) None reads n is low high = absurd cc

  without : (o : Option Text) (r : Option ℕ) → Reads o r →
      ((n : ℕ) → r ≡ Some n → (n < least) ⊎ (most < n)) → IsNumberIn o least most None
  without None r reads out = λ t n is w. absurd cc
  without (Some text) None reads out = λ t n is w.
      let same : text ≡ t = cc in
      writes_none text (reads.1 text refl) n (subst (λ s. WritesWithin s least most n) (sym same) w)
  without (Some text) (Some k) reads out = λ t n is w.
      let same : text ≡ t = cc in
      let read = writes_read text k (reads.1 text refl) in
      let wrote : digits_value 10 (without_leading_plus text) ≡ n = rw (same) (w.0.1) in
      let equal : k ≡ n = sym read.1 ∙ wrote in
      let low = w.1 in
      let high = w.2 in
      elim (out k refl) [
        | inl less ↦ absurd (omega (arith, less, equal, low))
        | inr more ↦ absurd (omega (arith, more, equal, high))
      ]

  module _ (f : Found) (name : Text) (r : Option ℕ) (none : one_text f name ≡ None → r ≡ None)
      (value : (t : List ℕ) → one_text f name ≡ Some t → ReadsOne gives t r) where
    by_rows : Reads (one_of name (rows_of f)) r
    by_rows = (λ e. none (one_text-rows f name ∙ e), λ t e. value t (one_text-rows f name ∙ e))

    -- the number that was read, if it lies in its range
    pub number_within : (n : ℕ) → r ≡ Some n → least ≤ n → n ≤ most →
        IsNumberIn (one_of name (rows_of f)) least most (Some n)
    number_within = within (one_of name (rows_of f)) r by_rows

    -- or none
    pub number_without : ((n : ℕ) → r ≡ Some n → (n < least) ⊎ (most < n)) →
        IsNumberIn (one_of name (rows_of f)) least most None
    number_without = without (one_of name (rows_of f)) r by_rows

-- a flag is there exactly if its text is true
module _ (E : Type 0) where
  flag_by : (o : Option Text) (r : Option Bool) → (o ≡ None → r ≡ None) →
      ((t : List ℕ) → o ≡ Some t → ReadsOne {T = Bool} {E = E} ParsesBool t r) →
      (o ≡ Some (codes "true") → unwrap_or r false ≡ true)
      × ((o ≡ Some (codes "true") → ⊥) → unwrap_or r false ≡ false)
  flag_by None r none value =
      (λ e. absurd cc, λ other. ap (λ (x : Option Bool). unwrap_or x false) (none refl))
  flag_by (Some text) (Some true) none value =
      let is : text ≡ codes "true" = value text refl in (λ e. refl, λ other. absurd (other (ap Some is)))
  flag_by (Some text) (Some false) none value =
      let is : text ≡ codes "false" = value text refl in
      (λ e. let bad : codes "false" ≡ codes "true" = sym is ∙ cc in absurd cc, λ other. refl)
  flag_by (Some text) None none value =
      let apart = (value text refl).1 in
      (λ e. absurd (apart.0 cc), λ other. refl)

  pub flag_is : (f : Found) (name : Text) (r : Option Bool) → (one_text f name ≡ None → r ≡ None) →
      ((t : List ℕ) → one_text f name ≡ Some t → ReadsOne {T = Bool} {E = E} ParsesBool t r) →
      (one_of name (rows_of f) ≡ Some (codes "true") → unwrap_or r false ≡ true)
      × ((one_of name (rows_of f) ≡ Some (codes "true") → ⊥) → unwrap_or r false ≡ false)
  flag_is f name r none value = flag_by (one_of name (rows_of f)) r (λ e. none (one_text-rows f name ∙ e))
      (λ t e. value t (one_text-rows f name ∙ e))

-- the text of an argument, or the empty one where it has none
word_by : (o : Option Text) (r : Option (Bor (List ℕ))) (other : Bor (List ℕ)) → option_map (λ s. s.now) r ≡ o →
    other.now ≡ [] → (unwrap_or r other).now ≡ unwrap_or o []
word_by o None other is empty = empty ∙ ap (λ (x : Option Text). unwrap_or x []) is
word_by o (Some s) other is empty = ap (λ (x : Option Text). unwrap_or x []) is

pub word_is : (f : Found) (name : Text) (r : Option (Bor (List ℕ))) (other word : Bor (List ℕ)) →
    option_map (λ s. s.now) r ≡ first_value f name → word ≡ unwrap_or r other → other.now ≡ [] →
    word.now ≡ unwrap_or (first_of name (rows_of f)) []
word_is f name r other word given is empty =
    ap (λ (b : Bor (List ℕ)). b.now) is
    ∙ word_by (first_of name (rows_of f)) r other (given ∙ first_value-rows f name) empty

-- the first word is this one, which isn't empty, exactly if the text is
pub word_says : (o : Option Text) (text word : Text) → text ≡ unwrap_or o [] → text ≡ word → (word ≡ [] → ⊥) →
    o ≡ Some word
word_says None text word is same some = absurd (some (sym same ∙ is))
word_says (Some first) text word is same some = ap Some (sym is ∙ same)
