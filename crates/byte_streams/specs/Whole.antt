-- All the bytes that come, and a part of those that are written.
use Rattle.std.specs.Prelude.{◌≡◌, ◌≤◌, ℕ, List, length, ◌++◌, Option, Some, None}
use Rattle.byte_streams.specs.Device.{Grows, Loses}

-- these are all the bytes, where they are known
abbrev pub ReadsAll : Option (List ℕ) → List ℕ → Type 0
ReadsAll None bytes = Unit {0}
ReadsAll (Some known) bytes = bytes ≡ known

-- at most n bytes came, and what remains is what came after them
abbrev pub TakesAtMost : ℕ → Option (List ℕ) → Option (List ℕ) → Type 0
TakesAtMost n old new = (came : List ℕ) × (length came ≤ n) × Loses old new came

-- the bytes that were written are a beginning of the text
abbrev pub GrowsByFront : Option (List ℕ) → Option (List ℕ) → List ℕ → Type 0
GrowsByFront old new text = (front rest : List ℕ) × (text ≡ front ++ rest) × Grows old new front
