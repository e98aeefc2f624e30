-- The number of the field in front: read digit by digit, and as a whole.
use Rattle.std.proofs.Common.{◌≡◌, ℕ, ◌+◌, ◌<◌, ◌≤◌, ◌&&◌, Bool, true, false, ltb, cond, List, [], ◌∷◌, drop, length}
use Rattle.std.proofs.Common.{get_or, Option, Some, None, refl, sym, arith, inl, inr}
use Rattle.std.proofs.lemmas.Grind.{common_steps}
use Rattle.std.specs.Prelude.{◌^◌, nat_lt, if◌then◌else◌}
use Rattle.std.specs.List.{fold, prefix_len}
use Rattle.std.proofs.lemmas.Bool.{cases_Bool}
use Rattle.std.proofs.lemmas.List.{drop_more, drop_all}
use Rattle.std.proofs.lemmas.Bool.Decides.{nat_tests}
use Rattle.text_lines.proofs.Lemmas.{take-one_more}
use Rattle.trace_lines.specs.Fields.{is_within}
use Rattle.trace_lines.specs.Fronts.{is_digit_of, put_digit, number_of}

-- digit by digit, the number of the field in front, behind digits whose number is known, and the field's length;
-- nothing if it isn't all digits, or the number doesn't fit 64 bits
unfoldable pub number_read : (ℕ → Bool) → (ℕ → ℕ → ℕ) → ℕ → ℕ → List ℕ → Option (ℕ × ℕ)
number_read is_one put value count [] = Some (value, count)
number_read is_one put value count (b ∷ bytes) =
    if is_one b then (if nat_lt (put value b) (2 ^ 64) then number_read is_one put (put value b) (count + 1) bytes
    else None) else if is_within b then None else Some (value, count)

-- a digit only makes a number greater
grown : (put : ℕ → ℕ → ℕ) → ((value b : ℕ) → value ≤ put value b) → (digits : List ℕ) (value : ℕ) →
    value ≤ fold put value digits
grown put more [] value = omega arith
grown put more (b ∷ digits) value = let q0 = grown put more digits (put value b) in grind (arith, nat_tests, q0)

never : (b : Bool) (x : Option (ℕ × ℕ)) → None ≡ cond (b && false) x None
never true x = refl
never false x = refl

ended-here : (is_one : ℕ → Bool) (put : ℕ → ℕ → ℕ) (value count : ℕ) → value < 18446744073709551616 →
    number_of is_one put value count [] ≡ Some (value, count)
ended-here is_one put value count fits = grind (arith, nat_tests)

pub number-read : (is_one : ℕ → Bool) (put : ℕ → ℕ → ℕ) → ((b : ℕ) → is_one b ≡ true → is_within b ≡ true)
    → ((value b : ℕ) → value ≤ put value b) → (bytes : List ℕ) (value count : ℕ) → value < 18446744073709551616 →
    number_read is_one put value count bytes ≡ number_of is_one put value count bytes
unfolding number_read
number-read is_one put inside more [] value count fits = sym (ended-here is_one put value count fits)
number-read is_one put inside more (b ∷ bytes) value count fits =
    let n : ℕ = prefix_len is_within bytes in
    elim (cases_Bool (is_one b)) [
      | inl e ↦ elim (cases_Bool (ltb (put value b) 18446744073709551616)) [
        | inl lt ↦ let fits' : put value b < 18446744073709551616 = grind (arith, nat_tests) in
            let same : count + (1 + n) ≡ count + 1 + n = omega arith in
            rw (e, lt, inside b e, take-one_more n b bytes, e, same)
            (number-read is_one put inside more bytes (put value b) (count + 1) fits')
        | inr ge ↦ grind (arith, nat_tests, common_steps, grown, never, take-one_more)
      ]
      | inr e ↦ grind (arith, nat_tests, common_steps, cases_Bool, ended-here, take-one_more)
    ]

-- what is read from a byte on gives the whole
abbrev pub Goes : Bool → List ℕ → ℕ → ℕ → Type 0
Goes hex bytes value i = number_read (is_digit_of hex) (put_digit hex) value i (drop i bytes)
    ≡ number_of (is_digit_of hex) (put_digit hex) 0 0 bytes

pub goes-on : (hex : Bool) (bytes : List ℕ) (value i next : ℕ) → Goes hex bytes value i → i < length bytes →
    is_digit_of hex (get_or bytes i 0) ≡ true → put_digit hex value (get_or bytes i 0) < 18446744073709551616 →
    next ≡ put_digit hex value (get_or bytes i 0) → Goes hex bytes next (i + 1)
unfolding number_read
goes-on hex bytes value i next known lt h fits e = grind (arith, nat_tests, common_steps, drop_more, get_or)

pub goes-over : (hex : Bool) (bytes : List ℕ) (value i : ℕ) → Goes hex bytes value i → i < length bytes →
    is_digit_of hex (get_or bytes i 0) ≡ true → (put_digit hex value (get_or bytes i 0) < 18446744073709551616 → ⊥) →
    None ≡ number_of (is_digit_of hex) (put_digit hex) 0 0 bytes
unfolding number_read
goes-over hex bytes value i known lt h over = grind (arith, nat_tests, common_steps, drop_more, get_or)

pub goes-wrong : (hex : Bool) (bytes : List ℕ) (value i : ℕ) → Goes hex bytes value i → i < length bytes →
    is_digit_of hex (get_or bytes i 0) ≡ false → is_within (get_or bytes i 0) ≡ true →
    None ≡ number_of (is_digit_of hex) (put_digit hex) 0 0 bytes
unfolding number_read
goes-wrong hex bytes value i known lt h w = rw (drop_more bytes i 0 lt, h, w) at known

pub goes-to : (hex : Bool) (bytes : List ℕ) (value i : ℕ) → Goes hex bytes value i → i < length bytes →
    is_digit_of hex (get_or bytes i 0) ≡ false → is_within (get_or bytes i 0) ≡ false →
    Some (value, i) ≡ number_of (is_digit_of hex) (put_digit hex) 0 0 bytes
unfolding number_read
goes-to hex bytes value i known lt h w = rw (drop_more bytes i 0 lt, h, w) at known

pub goes-through : (hex : Bool) (bytes : List ℕ) (value i : ℕ) → Goes hex bytes value i → length bytes ≤ i →
    Some (value, i) ≡ number_of (is_digit_of hex) (put_digit hex) 0 0 bytes
unfolding number_read
goes-through hex bytes value i known le = rw (drop_all i bytes le) at known

digit-inside : (hex : Bool) (b : ℕ) → is_digit_of hex b ≡ true → is_within b ≡ true
digit-inside true b e = grind (arith, nat_tests)
digit-inside false b e = grind (arith, nat_tests)

digit-more : (hex : Bool) (value b : ℕ) → value ≤ put_digit hex value b
digit-more true value b = omega arith
digit-more false value b = omega arith

pub digits-go : (hex : Bool) (bytes : List ℕ) → Goes hex bytes 0 0
digits-go hex bytes = grind (arith, nat_tests, common_steps, digit-inside, digit-more, number-read)
