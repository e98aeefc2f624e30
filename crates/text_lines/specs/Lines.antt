-- A text as its first line and what follows it, and as all its lines.
use Rattle.std.specs.Prelude.{ℕ, ◌+◌, ◌==◌, not, Bool, if◌then◌else◌, List, [], ◌∷◌, take, drop}
use Rattle.std.specs.List.{prefix_len}

-- every byte but the line feed
abbrev pub is_within_line : ℕ → Bool
is_within_line b = not (b == 10)

-- a text before its first line feed: all of it, if it has none
abbrev pub before_line_feed : List ℕ → List ℕ
before_line_feed text = take (prefix_len is_within_line text) text

-- a text after its first line feed: nothing, if it has none
abbrev pub behind_line_feed : List ℕ → List ℕ
behind_line_feed text = drop (prefix_len is_within_line text + 1) text

-- lines with one more byte at the front of the first
abbrev pub begun : ℕ → List (List ℕ) → List (List ℕ)
begun b [] = (b ∷ []) ∷ []
begun b (line ∷ lines) = (b ∷ line) ∷ lines

-- the lines of a text, each ended by a line feed, which the last one may lack
unfoldable pub lines_of : List ℕ → List (List ℕ)
lines_of [] = []
lines_of (b ∷ bytes) = if b == 10 then [] ∷ lines_of bytes else begun b (lines_of bytes)
