-- Numbers as they are written are read as the same numbers.
use Rattle.std.proofs.Common.{◌≡◌, ℕ, zero, suc, ◌+◌, ◌-◌, ◌*◌, ◌/◌, ◌%◌, ◌^◌}
use Rattle.std.proofs.Common.{◌<◌, ◌≤◌, Bool, true, false, List, [], ◌∷◌}
use Rattle.std.proofs.Common.{◌++◌, length, refl, ap, ◌∙◌, arith, length-append, decimal, inl, inr, zero-add}
use Rattle.std.specs.Prelude.{nat_lt, nat_le, ◌==◌}
use Rattle.std.specs.List.{list_all}
use Rattle.std.proofs.lemmas.Bool.{cases_lt}
use Rattle.std.proofs.lemmas.Bool.Decides.{nat_tests}
use Rattle.std.proofs.Math.Nat.{pow-suc}
use Rattle.std.proofs.lemmas.Fmt.{decimal_by_steps, length-decimal-le}
use Rattle.std.proofs.lemmas.List.Folds.{list_all-append}
use Rattle.std.proofs.lemmas.List.Sums.{fold_push}
use Rattle.trace_lines.specs.Spelling.{is_digit, is_hex_digit, is_few, decimal_of, hex_digit, hex_of}
use Rattle.trace_lines.specs.Grammar.{IsNumber, IsAddress}
use Rattle.report_lines.specs.Hexadecimal.{hex_glyph, hex_digits, address_text}
use Rattle.report_lines.proofs.Lemmas.{hex-one, hex-more}

-- each byte stands above #, and so above blanks and line feeds
abbrev pub IsPlain : List ℕ → Type 0
IsPlain [] = Unit {0}
IsPlain (b ∷ bytes) = (35 < b) × IsPlain bytes

pub plain-append : (xs ys : List ℕ) → IsPlain xs → IsPlain ys → IsPlain (xs ++ ys)
plain-append [] ys h k = k
plain-append (x ∷ xs) ys h k = (h.0, plain-append xs ys h.1 k)

all-push : (p : ℕ → Bool) (xs : List ℕ) (y : ℕ) → list_all p xs ≡ true → p y ≡ true → list_all p (xs ++ y ∷ []) ≡ true
all-push p xs y h k = list_all-append p xs (y ∷ []) ∙ rw (h, k) refl

-- ---- decimal

digit-of : (d : ℕ) → d < 10 → is_digit (48 + d) ≡ true
digit-of d lt =
    let low : nat_le 48 (48 + d) ≡ true = grind (arith, nat_tests) in
    let high : nat_le (48 + d) 57 ≡ true = grind (arith, nat_tests) in
    rw (low, high) refl

pub record IsNumeral (n : ℕ) (digits : List ℕ) : Type 0 where
  pub digit : list_all is_digit digits ≡ true
  pub plain : IsPlain digits
  pub some : 0 < length digits
  pub value : decimal_of digits ≡ n

numeral-one : (d : ℕ) → d < 10 → IsNumeral d ((48 + d) ∷ [])
numeral-one d lt = record {
  digit = rw (digit-of d lt) refl;
  plain = (omega arith, tt);
  some = omega arith;
  value = omega arith;
}

numeral-more : (n : ℕ) (ds : List ℕ) → 10 ≤ n → IsNumeral (n / 10) ds → IsNumeral n (ds ++ ((48 + n % 10) ∷ []))
numeral-more n ds ge k =
    let last : n % 10 < 10 = omega arith in
    record {
      digit = all-push is_digit ds (48 + n % 10) k.digit (digit-of (n % 10) last);
      plain = plain-append ds ((48 + n % 10) ∷ []) k.plain (omega arith, tt);
      some = omega (arith, length-append ds ((48 + n % 10) ∷ []));
      value = fold_push (λ value digit. 10 * value + (digit - 48)) 0 ds (48 + n % 10) ∙ (let v = k.value in omega
          (arith, v));
    }

pub decimal-numeral : (n : ℕ) → n < 2 ^ 64 → IsNumeral n (decimal n)
decimal-numeral n h = decimal_by_steps IsNumeral numeral-one numeral-more n h

few : (p : ℕ → Bool) (most : ℕ) (bytes : List ℕ) → list_all p bytes ≡ true → 0 < length bytes → length bytes ≤ most →
    is_few p most bytes ≡ true
few p most bytes h some le =
    let not_none : (length bytes == 0) ≡ false = grind (arith, nat_tests) in
    let within : nat_le (length bytes) most ≡ true = grind (arith, nat_tests) in
    rw (h, not_none, within) refl

pub number-read : (digits bound n : ℕ) → 0 < digits → n < 10 ^ digits → n < 2 ^ 64 → n < bound →
    IsNumber digits bound (decimal n) n
number-read digits bound n some lt h below =
    let k = decimal-numeral n h in
    (few is_digit digits (decimal n) k.digit k.some (length-decimal-le digits n some lt h), k.value, below)

-- ---- hexadecimal

pub record IsHex (places n : ℕ) (digits : List ℕ) : Type 0 where
  pub digit : list_all is_hex_digit digits ≡ true
  pub plain : IsPlain digits
  pub some : 0 < length digits
  pub short : length digits ≤ places
  pub value : hex_of digits ≡ n

glyph-of : (d : ℕ) → d < 16 →
    (is_hex_digit (hex_glyph d) ≡ true) × (35 < hex_glyph d) × (hex_digit (hex_glyph d) ≡ d)
glyph-of d lt =
    elim (cases_lt d 10) [
      | inl small ↦ let t : nat_lt d 10 ≡ true = grind (arith, nat_tests) in
          let low : nat_le 48 (48 + d) ≡ true = grind (arith, nat_tests) in
          let high : nat_le (48 + d) 57 ≡ true = grind (arith, nat_tests) in
          let letter : nat_le 97 (48 + d) ≡ false = grind (arith, nat_tests) in
          (rw (t, low, high) refl, rw t (omega arith), rw (t, letter) (omega arith))
      | inr large ↦ let t : nat_lt d 10 ≡ false = grind (arith, nat_tests) in
          let digit : nat_le (87 + d) 57 ≡ false = grind (arith, nat_tests) in
          let low : nat_le 97 (87 + d) ≡ true = grind (arith, nat_tests) in
          let first : nat_le 48 (87 + d) ≡ true = grind (arith, nat_tests) in
          let high : nat_le (87 + d) 102 ≡ true = grind (arith, nat_tests) in
          (rw (t, first, digit, low, high) refl, rw t (omega arith), rw (t, low) (omega arith))
    ]

hex-front : (places n : ℕ) → n < 16 ^ suc places → n / 16 < 16 ^ places
hex-front places n lt = let p = pow-suc 16 places in omega (arith, p, lt)

hex-places : (places n : ℕ) → n < 16 ^ suc places → 16 ≤ n → places ≡ 0 → ⊥
hex-places places n lt ge e =
    let none : 16 ^ places ≡ 1 = ap (λ k. 16 ^ k) e in let p = pow-suc 16 places in omega (arith, p, lt, none)

hex-more-numeral : (places n : ℕ) (ds : List ℕ) → 16 ≤ n → IsHex places (n / 16) ds →
    IsHex (suc places) n (ds ++ hex_glyph (n % 16) ∷ [])
hex-more-numeral places n ds ge k =
    let last : n % 16 < 16 = omega arith in
    let g = glyph-of (n % 16) last in
    let len = length-append ds (hex_glyph (n % 16) ∷ []) in
    record {
      digit = all-push is_hex_digit ds (hex_glyph (n % 16)) k.digit g.0;
      plain = plain-append ds (hex_glyph (n % 16) ∷ []) k.plain (g.1, tt);
      some = omega (arith, len);
      short = let s = k.short in omega (arith, len, s);
      value = fold_push (λ value digit. 16 * value + hex_digit digit) 0 ds (hex_glyph (n % 16))
          ∙ (let v = k.value in let w = g.2 in omega (arith, v, w));
    }

less : (places : ℕ) → suc places - 1 ≡ places
less places = omega arith

hex-numeral : (places n : ℕ) → (places ≡ 0 → ⊥) → n < 16 ^ places → IsHex places n (hex_digits places n)
hex-numeral zero n some lt = absurd (some refl)
hex-numeral (suc places) n some lt =
    elim (cases_lt n 16) [
      | inl small ↦ let g = glyph-of n small in
          rw (hex-one (suc places) n some small) (record {
            digit = rw g.0 refl;
            plain = (g.1, tt);
            some = omega arith;
            short = omega arith;
            value = zero-add (hex_digit (hex_glyph n)) ∙ g.2;
          })
      | inr large ↦ let more = hex-places places n lt large in
          rw (hex-more (suc places) n some large, less places)
          (hex-more-numeral places n (hex_digits places (n / 16)) large
          (hex-numeral places (n / 16) more (hex-front places n lt)))
    ]

pub address-plain : (word : ℕ) → word < 2 ^ 61 →
    IsPlain (address_text word) × (0 < length (address_text word)) × (length (address_text word) ≤ 20)
    × IsAddress (address_text word) word
unfolding address_text
address-plain word h =
    let k = hex-numeral 16 (8 * word) (λ e. cc) (omega arith) in
    let short = k.short in (
      (omega arith, (omega arith, k.plain)),
      omega arith,
      omega (arith, short),
      (hex_digits 16 (8 * word), refl, few is_hex_digit 16 (hex_digits 16 (8 * word)) k.digit k.some k.short, k.value),
    )

pub short-decimal : (n : ℕ) → n < 18446744073709551616 → length (decimal n) ≤ 20
short-decimal n lt = length-decimal-le 20 n (omega arith) (omega (arith, lt)) lt
