-- How numbers are written, and how many cores a trace may name.
use Rattle.std.specs.Prelude.{ℕ, ◌+◌, ◌-◌, ◌*◌, ◌==◌, ◌&&◌, ◌||◌, nat_le, Bool, not}
use Rattle.std.specs.Prelude.{if◌then◌else◌, List, length}
use Rattle.std.specs.List.{list_all, fold}
use Rattle.trace_lines.specs.declared.steps.Form.{Form}
use Rattle.trace_lines.specs.declared.steps.Form.TheVariants.{One, Two}

abbrev pub between : ℕ → ℕ → ℕ → Bool
between low high b = nat_le low b && nat_le b high

abbrev pub is_digit : ℕ → Bool
is_digit b = between 48 57 b

-- 0 to 9 and a to f
abbrev pub is_hex_digit : ℕ → Bool
is_hex_digit b = between 48 57 b || between 97 102 b

-- 1 to most of these bytes
abbrev pub is_few : (ℕ → Bool) → ℕ → List ℕ → Bool
is_few p most field = list_all p field && not (length field == 0) && nat_le (length field) most

-- the value of decimal digits, leading zeros included
abbrev pub decimal_of : List ℕ → ℕ
decimal_of digits = fold (λ value digit. 10 * value + (digit - 48)) 0 digits

abbrev pub hex_digit : ℕ → ℕ
hex_digit b = if nat_le 97 b then b - 87 else b - 48

-- the value of hexadecimal digits
abbrev pub hex_of : List ℕ → ℕ
hex_of digits = fold (λ value digit. 16 * value + hex_digit digit) 0 digits

-- how many cores a trace may name
abbrev pub most_cores_named : Form → ℕ
most_cores_named One = 16
most_cores_named Two = 64
