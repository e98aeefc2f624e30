-- The tag of a line, by which its row finds it.
use Rattle.std.specs.Prelude.{ℕ, ◌*◌, ◌/◌, ◌%◌, ◌^◌}

-- the upper eight of 64 bits of the product of a line with an odd number (2^64 by the golden ratio)
unfoldable pub tag_of : ℕ → ℕ
tag_of line = line * 11400714819323198485 % 2 ^ 64 / 2 ^ 56
