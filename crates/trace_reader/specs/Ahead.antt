-- The bytes in a block, and the next line among them and what is still to come.
use Rattle.std.specs.Prelude.{◌≡◌, ℕ, ◌+◌, ◌≤◌, List, [], ◌∷◌, ◌++◌, take, drop, slice_range}
use Rattle.std.specs.Prelude.{Option, Some, None}
use Rattle.trace_reader.specs.declared.blocks.Block.{Block}
use Rattle.trace_reader.specs.declared.limits.TheConstants.{MOST_BYTES}
use Rattle.text_lines.specs.Lines.{lines_of}

abbrev pub ahead : Block → List ℕ
ahead block = slice_range block.bytes block.start block.end

-- If the bytes were known before, they are known after, and this holds of both.
abbrev pub Both : Option (List ℕ) → Option (List ℕ) → (List ℕ → List ℕ → Type 0) → Type 0
Both None new P = Unit {0}
Both (Some old) None P = ⊥
Both (Some old) (Some new) P = P old new

-- The first line begins with n bytes of these; it is no longer, if a line may be so long.
abbrev pub IsNextLine : ℕ → List ℕ → List ℕ → Type 0
IsNextLine n bytes coming = (more : List ℕ) × (later : List (List ℕ))
    × (lines_of (bytes ++ coming) ≡ (take n bytes ++ more) ∷ later)
    × (n ≤ MOST_BYTES → (more ≡ []) × (later ≡ lines_of (drop (n + 1) bytes ++ coming)))
