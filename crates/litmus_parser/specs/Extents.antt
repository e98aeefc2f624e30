-- How far a text can be read, and what is wrong after that.
use Rattle.std.specs.Prelude.{ℕ, ◌+◌, ◌-◌, ◌==◌, ◌||◌, Bool, if◌then◌else◌, List, length, take}
use Rattle.std.specs.List.{count_by, prefix_len, suffix_len}
use Rattle.text_lines.specs.Lines.{is_within_line}
use Rattle.litmus_lexer.specs.Pieces.{between}
use Rattle.litmus_lexer.specs.declared.errors.Kind.TheVariants.{BadByte, CutShort}
use Rattle.litmus_lexer.specs.declared.errors.LitmusError.{LitmusError}

-- printable ASCII, tab, carriage return and line feed
abbrev pub is_allowed : ℕ → Bool
is_allowed b = between 32 126 b || b == 9 || b == 10 || b == 13

abbrev pub line_feeds : List ℕ → ℕ
line_feeds text = count_by (λ b. b == 10) text

-- a line feed at the very end begins no line
abbrev pub inner_line_feeds : List ℕ → ℕ
inner_line_feeds text = line_feeds (take (length text - 1) text)

-- the bytes before the first that is not allowed
abbrev pub good : List ℕ → List ℕ
good text = take (prefix_len is_allowed text) text

-- the bytes up to the last line feed
abbrev pub whole_lines : List ℕ → List ℕ
whole_lines text = take (length text - suffix_len is_within_line text) text

-- what can be read, and the fault of a text that should go on after it
abbrev pub reach : List ℕ → List ℕ × LitmusError
reach text =
    if prefix_len is_allowed text == length text
    then (text, record { line = 1 + inner_line_feeds text; kind = CutShort })
    else (whole_lines (good text), record { line = 1 + line_feeds (good text); kind = BadByte })
