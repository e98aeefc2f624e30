-- Addresses in hexadecimal.
use Rattle.std.specs.Prelude.{ℕ, zero, suc, ◌+◌, ◌*◌, ◌/◌, ◌%◌, nat_lt, if◌then◌else◌, List, [], ◌∷◌, ◌++◌, codes}

-- 0 to 9, a to f
abbrev pub hex_glyph : ℕ → ℕ
hex_glyph d = if nat_lt d 10 then 48 + d else 87 + d

-- a number in at most n hexadecimal digits, without leading zeros
abbrev pub hex_digits : ℕ → ℕ → List ℕ
hex_digits zero n = []
hex_digits (suc places) n = if nat_lt n 16 then hex_glyph n ∷ [] else
    hex_digits places (n / 16) ++ hex_glyph (n % 16) ∷ []

-- the byte address of a word
unfoldable pub address_text : ℕ → List ℕ
address_text word = codes "0x" ++ hex_digits 16 (8 * word)
