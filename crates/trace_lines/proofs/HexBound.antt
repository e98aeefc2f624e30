-- Sixteen hexadecimal digits fit 64 bits, so that an address is read like a number.
use Rattle.std.proofs.Common.{◌≡◌, ℕ, ◌+◌, ◌*◌, ◌^◌, ◌<◌, ◌≤◌, true, List, [], ◌∷◌, length, arith, refl}
use Rattle.std.proofs.Common.{◌/◌, ◌%◌, drop, get_or, Option, Some, None, sym}
use Rattle.std.proofs.lemmas.Grind.{common_steps}
use Rattle.std.specs.Prelude.{option_map, option_and_then}
use Rattle.std.specs.List.{list_all, fold}
use Rattle.std.proofs.lemmas.Bool.{cases_Bool, and_parts}
use Rattle.std.proofs.lemmas.Bool.Decides.{nat_tests}
use Rattle.std.proofs.Math.Nat.{pow-suc, pow-le-pow_right}
use Rattle.text_lines.proofs.Lemmas.{take-one_more, drop-one_more}
use Rattle.trace_lines.specs.Fronts.{front_says, number_in}
use Rattle.trace_lines.specs.Reading.{hex_in, word_at_byte, address_in}
use Rattle.trace_lines.specs.Spelling.{is_hex_digit, is_few, hex_digit, hex_of}
use Rattle.trace_lines.proofs.Rules.{beside}

digit-bound : (b : ℕ) → is_hex_digit b ≡ true → hex_digit b ≤ 15
digit-bound b h = grind (arith, nat_tests)

next : (acc d power most : ℕ) → d ≤ 15 → power ≡ most → (((16 * acc + d) + 1) * power) ≤ ((acc + 1) * (most * 16))
next acc d power most le e = grind arith

pub fold-bound : (digits : List ℕ) (acc : ℕ) → list_all is_hex_digit digits ≡ true →
    fold (λ value digit. 16 * value + hex_digit digit) acc digits < (acc + 1) * 16 ^ length digits
fold-bound [] acc h = omega arith
fold-bound (d ∷ digits) acc h =
    let q = and_parts (is_hex_digit d) (list_all is_hex_digit digits) h in
    let i = fold-bound digits (16 * acc + hex_digit d) q.1 in
    let n = next acc (hex_digit d) (16 ^ length digits) (16 ^ length digits) (digit-bound d q.0) refl in
    rw (pow-suc 16 (length digits)) (omega (arith, i, n))

pub hex-bound : (digits : List ℕ) → list_all is_hex_digit digits ≡ true → length digits ≤ 16 →
    hex_of digits < 18446744073709551616
hex-bound digits h le = grind (arith, nat_tests, common_steps, fold-bound, pow-le-pow_right)

pub few-bound : (digits : List ℕ) → is_few is_hex_digit 16 digits ≡ true → hex_of digits < 18446744073709551616
few-bound digits h = grind (arith, nat_tests, common_steps, and_parts, hex-bound)

hex-number : (field : List ℕ) → hex_in field ≡ number_in true 16 (2 ^ 64) field
hex-number field = grind (arith, nat_tests, common_steps, cases_Bool, few-bound)

-- what a byte address stands for, with the fields after it
abbrev pub worded : Option (ℕ × List (List ℕ)) → Option (ℕ × List (List ℕ))
worded None = None
worded (Some read) = option_map (λ word. (word, read.1)) (word_at_byte read.0)

beside-worded : (o : Option ℕ) (fields : List (List ℕ)) →
    beside fields (option_and_then word_at_byte o) ≡ worded (beside fields o)
beside-worded (Some byte) fields = refl
beside-worded None fields = refl

behind-prefix : (digits : List ℕ) → front_says address_in (48 ∷ 120 ∷ digits)
    ≡ worded (front_says (number_in true 16 (2 ^ 64)) digits)
behind-prefix digits = grind (arith, nat_tests, common_steps, beside-worded, drop-one_more, hex-number, take-one_more)

pub address-front : (bytes digits : List ℕ) (o : Option (ℕ × List (List ℕ))) → 2 ≤ length bytes →
    get_or bytes 0 0 ≡ 48 → get_or bytes 1 0 ≡ 120 → digits ≡ drop 2 bytes →
    o ≡ front_says (number_in true 16 (2 ^ 64)) digits → worded o ≡ front_says address_in bytes
address-front (x ∷ y ∷ left) digits o le a b e f =
    rw (f, e, a, b) (sym (behind-prefix left))
address-front _ digits o le a b e f = absurd (omega arith)

pub word-read : (byte word : ℕ) (fields : List (List ℕ)) → byte % 8 ≡ 0 → word ≡ byte / 8 →
    Some (word, fields) ≡ worded (Some (byte, fields))
word-read byte word fields whole e = rw (e, whole) refl
