-- What the field in front says, where no blank comes before it.
use Rattle.std.specs.Prelude.{ℕ, ◌+◌, ◌*◌, ◌-◌, ◌^◌, ◌&&◌, nat_lt, Bool}
use Rattle.std.specs.Prelude.{if◌then◌else◌, List, [], ◌∷◌, take, drop, Option, Some, None}
use Rattle.std.specs.Prelude.{option_map}
use Rattle.std.specs.List.{list_all, fold, prefix_len}
use Rattle.trace_lines.specs.Fields.{is_within, fields_of}
use Rattle.trace_lines.specs.Spelling.{is_digit, is_hex_digit, is_few, hex_digit}

-- what the field in front says, and the fields after it
abbrev pub front_says : {X : Type 0} → (List ℕ → Option X) → List ℕ → Option (X × List (List ℕ))
front_says says bytes = option_map (λ x. (x, fields_of (drop (prefix_len is_within bytes) bytes)))
    (says (take (prefix_len is_within bytes) bytes))

abbrev pub is_digit_of : Bool → ℕ → Bool
is_digit_of is_hexadecimal b = if is_hexadecimal then is_hex_digit b else is_digit b

-- a number with one more digit
abbrev pub put_digit : Bool → ℕ → ℕ → ℕ
put_digit is_hexadecimal value b = if is_hexadecimal then 16 * value + hex_digit b else 10 * value + (b - 48)

-- a number below a bound, in at most so many digits
abbrev pub number_in : Bool → ℕ → ℕ → List ℕ → Option ℕ
number_in is_hexadecimal most bound field =
    if is_few (is_digit_of is_hexadecimal) most field && nat_lt (fold (put_digit is_hexadecimal) 0 field) bound
    then Some (fold (put_digit is_hexadecimal) 0 field) else None

abbrev pub letter_in : List ℕ → Option ℕ
letter_in (a ∷ []) = Some a
letter_in field = None

-- the number of a field, if it is all digits and the number fits 64 bits, and the field's length
abbrev pub number_of : (ℕ → Bool) → (ℕ → ℕ → ℕ) → ℕ → ℕ → List ℕ → Option (ℕ × ℕ)
number_of is_one put value count bytes =
    if list_all is_one (take (prefix_len is_within bytes) bytes)
    && nat_lt (fold put value (take (prefix_len is_within bytes) bytes)) (2 ^ 64)
    then Some (fold put value (take (prefix_len is_within bytes) bytes), count + prefix_len is_within bytes) else None
