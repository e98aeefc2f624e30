-- The memory that a test opens.
use Rattle.std.specs.Prelude.{ℕ, Bool, true, false, List, [], ◌∷◌}
use Rattle.std.specs.FinMap as finite
use Rattle.std.specs.Ordering.{nat_cmp}
use Rattle.litmus_parser.specs.declared.syntax.Name.{Name}
use Rattle.litmus_parser.specs.declared.syntax.Name.TheVariants.{Register, Location}
use Rattle.litmus_parser.specs.declared.syntax.Setting.{Setting}
use Rattle.litmus_parser.specs.declared.syntax.Setting.TheVariants.{Number}

abbrev pub Words : Type 0
Words = finite.FinMap nat_cmp ℕ

-- the name is a location
abbrev pub is_of_location : Name → Bool
is_of_location (Location l) = true
is_of_location (Register t r) = false

-- an item that sets a location sets its word
abbrev pub with_setting : Name → Setting → Words → Words
with_setting (Location l) (Number value) words = finite.insert words l value
with_setting name setting words = words

-- the words that the items set
unfoldable pub words_opened : List (Name × Setting) → Words → Words
words_opened [] words = words
words_opened (item ∷ items) words = words_opened items (with_setting item.0 item.1 words)
