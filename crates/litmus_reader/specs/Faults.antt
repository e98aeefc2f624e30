-- Why a text is refused: where it can't go on, what is wrong there, and in which line.
use Rattle.std.specs.Prelude.{◌≡◌, ◌≢◌, ℕ, ◌+◌, ◌<◌, ◌≤◌, ◌⊎◌, true, false, List, [], length}
use Rattle.std.specs.List.{list_all}
use Rattle.litmus_lexer.specs.declared.limits.TheConstants.{MOST_BYTES}
use Rattle.litmus_lexer.specs.declared.errors.Kind.{Kind}
use Rattle.litmus_lexer.specs.declared.errors.Kind.TheVariants.{TooLarge, BadByte, CutShort}
use Rattle.piece_forms.specs.Faults.{Cause}
use Rattle.litmus_parser.specs.Extents.{is_allowed, line_feeds, inner_line_feeds, good, reach}
use Rattle.litmus_parser.specs.Header.{text_pieces, preamble}
use Rattle.litmus_reader.specs.Litmus.{Litmus}
use Rattle.litmus_reader.specs.Grammar.{whole_test, IsTest}

-- What is wrong before the initial block, and in which line.
abbrev pub FaultBefore : List ℕ → Kind → ℕ → Type 0
FaultBefore text kind n = Cause preamble 1 (text_pieces text []) kind n

-- Why a text can't go on, and in which line.
abbrev pub FaultIn : List ℕ → Kind → ℕ → Type 0
FaultIn text kind n = Cause whole_test 1 (text_pieces text []) kind n

-- the lines before the one with the first byte that isn't allowed, or the whole text if there is none
abbrev pub good_lines : List ℕ → List ℕ
good_lines text = (reach text).0

-- the text is a test, or the beginning of one, after which more is wanted
abbrev pub IsTestOrBeginning : List ℕ → Type 0
IsTestOrBeginning text = ((test : Litmus) × IsTest text test) ⊎ ((n : ℕ) × FaultIn text CutShort n)

-- The cause of a kind of fault, in line n of a text.
pub data Fault (text : List ℕ) : Kind → ℕ → Type 0 where
  -- the text is longer than 65536 bytes
  too_large : MOST_BYTES < length text → Fault text TooLarge 1
  -- its good lines can't go on, for another reason than their end
  in_part : {kind : Kind} {n : ℕ} → length text ≤ MOST_BYTES → FaultIn (good_lines text) kind n →
      kind ≢ CutShort → Fault text kind n
  -- a byte isn't allowed; the first such one stands in this line, and the lines before it have no fault of their own
  bad_byte : length text ≤ MOST_BYTES → list_all is_allowed text ≡ false → IsTestOrBeginning (good_lines text) →
      Fault text BadByte (1 + line_feeds (good text))
  -- every byte is allowed, but they end too early; the line is the last
  cut_short : {n : ℕ} → length text ≤ MOST_BYTES → list_all is_allowed text ≡ true → FaultIn text CutShort n →
      Fault text CutShort (1 + inner_line_feeds text)
