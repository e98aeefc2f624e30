-- The grammar of the lines before the initial block, as forms: each of these lines is one word.
use Rattle.std.specs.Prelude.{◌≢◌, ℕ, zero, suc, ◌==◌, ◌&&◌, Bool, true, false, if◌then◌else◌, List, [], ◌∷◌, ◌++◌}
use Rattle.std.specs.Prelude.{ok_or}
use Rattle.std.specs.List.{list_all}
use Rattle.text_lines.specs.Lines.{behind_line_feed}
use Rattle.litmus_lexer.specs.declared.limits.TheConstants.{MOST_BYTES}
use Rattle.litmus_lexer.specs.declared.signs.TheConstants.{OPENING_BRACE}
use Rattle.litmus_lexer.specs.Pieces.{Piece, Word, LineEnd, is_blank, pieces_of}
use Rattle.litmus_lexer.specs.FirstLines.{title_of, is_header_line}
use Rattle.litmus_lexer.specs.declared.errors.Kind.TheVariants.{NoMemory, BadHeader, CutShort}
use Rattle.litmus_lexer.specs.declared.errors.ReadError.{ReadError}
use Rattle.litmus_lexer.specs.declared.errors.ReadError.TheVariants.{Memory, Fault}
use Rattle.piece_forms.specs.Forms.{Verdict, Takes, Leaves, Refuses, Form, Gives, ◌>>=◌, word, one, line_end, many}
use Rattle.piece_forms.specs.Forms.{refused}

-- the pieces of a text whose first line begins with these bytes: each line before the one that begins with { is a word,
-- and what follows is in pieces
unfoldable pub text_pieces : List ℕ → List ℕ → List Piece
text_pieces [] [] = []
text_pieces [] line = Word line ∷ LineEnd ∷ []
text_pieces (b ∷ bytes) line =
    if b == 10 then Word line ∷ LineEnd ∷ text_pieces bytes []
    else if b == OPENING_BRACE && list_all is_blank line then pieces_of (b ∷ bytes)
    else text_pieces bytes (line ++ b ∷ [])

-- a text behind so many of its lines
abbrev pub behind_lines : ℕ → List ℕ → List ℕ
behind_lines zero text = text
behind_lines (suc n) text = behind_lines n (behind_line_feed text)

-- title := RISCV NAME
unfoldable pub title : Form (List ℕ)
title = do
  name ← one (word BadHeader (λ line. ok_or (title_of line) BadHeader))
  _ ← line_end BadHeader
  Gives name

-- a header line, or the initial block
abbrev pub line_or_block : Piece → Verdict Bool
line_or_block (Word line) = if is_header_line line then Takes true else Refuses BadHeader
line_or_block piece = Leaves false

-- preamble := title { LINE }
-- up to the initial block; there are fewer lines than bytes, so the steps end with {
unfoldable pub preamble : Form (List ℕ)
preamble = do
  name ← title
  _ ← many (refused CutShort) (λ _. one line_or_block) (λ _. line_end BadHeader) MOST_BYTES tt
  Gives name

-- a fault, of another kind than want of memory
abbrev pub TakesNoMemory : ReadError → Type 0
TakesNoMemory Memory = ⊥
TakesNoMemory (Fault f) = f.kind ≢ NoMemory
