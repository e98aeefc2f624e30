-- The grammar of instructions, as forms within a line.
use Rattle.std.specs.Prelude.{ℕ, ◌-◌, min, Bool, if◌then◌else◌, List, Result, Ok}
use Rattle.std.specs.Prelude.{Err, ok_or, codes}
use Rattle.std.specs.Str.{bytes_eq}
use Rattle.litmus_lexer.specs.declared.limits.TheConstants.{MOST_ORI, VALUE_BOUND}
use Rattle.litmus_lexer.specs.declared.signs.TheConstants.{CLOSING_PARENTHESIS, COMMA, OPENING_PARENTHESIS}
use Rattle.litmus_lexer.specs.Spelling.{is_number, value_of_digits, register_of}
use Rattle.litmus_lexer.specs.declared.errors.Kind.{Kind}
use Rattle.litmus_lexer.specs.declared.errors.Kind.TheVariants.{BadInstruction}
use Rattle.piece_forms.specs.Forms.{Form, Gives, ◌>>=◌, here, word, sign}
use Rattle.litmus_parser.specs.Mnemonics.{mnemonic_of, is_fence_set}
use Rattle.litmus_parser.specs.declared.forms.Mnemonic.{Mnemonic}
use Rattle.litmus_parser.specs.declared.forms.Mnemonic.TheVariants as word_of
use Rattle.litmus_parser.specs.declared.forms.Form.{Form as Written}
use Rattle.litmus_parser.specs.declared.forms.Form.TheVariants as written

abbrev pub passes : Bool → Result (Unit {0}) Kind
passes b = if b then Ok tt else Err BadInstruction

abbrev pub operand : {A : Type 0} → (List ℕ → Result A Kind) → Form A
operand test = here BadInstruction (word BadInstruction test)

abbrev pub mark : ℕ → Form (Unit {0})
mark wanted = here BadInstruction (sign BadInstruction wanted)

-- x, where a comma comes next
abbrev pub comma : {A : Type 0} → A → Form A
comma x = mark COMMA >>= λ _. Gives x

abbrev pub register : Form ℕ
register = operand (λ w. ok_or (register_of w) BadInstruction)

-- a number; all that are no value count as the bound of values
abbrev pub number : Form ℕ
number = operand (λ w. if is_number w then Ok (min (value_of_digits w) VALUE_BOUND) else Err BadInstruction)

-- base := "(" xB ")"
unfoldable pub base : Form ℕ
base = do
  _ ← mark OPENING_PARENTHESIS
  b ← register
  _ ← mark CLOSING_PARENTHESIS
  Gives b

-- offset := xR , 0 base
unfoldable pub offset : Form (ℕ × ℕ)
offset = do
  r ← register >>= comma
  _ ← operand (λ w. passes (bytes_eq w (codes "0")))
  b ← base
  Gives (r, b)

-- swapped := xD , xS , base
unfoldable pub swapped : Form (ℕ × ℕ × ℕ)
swapped = do
  d ← register >>= comma
  s ← register >>= comma
  b ← base
  Gives (d, s, b)

-- numbered := xD , N
unfoldable pub numbered : Form (ℕ × ℕ)
numbered = do
  d ← register >>= comma
  n ← number
  Gives (d, n)

-- or_numbered := xD , x0 , N
unfoldable pub or_numbered : Form (ℕ × ℕ)
or_numbered = do
  d ← register >>= comma
  _ ← operand (λ w. passes (bytes_eq w (codes "x0"))) >>= comma
  n ← number
  Gives (d, n)

-- sets := ( r | w | rw ) , ( r | w | rw )
unfoldable pub sets : Form (Unit {0})
sets = do
  _ ← operand (λ w. passes (is_fence_set w)) >>= comma
  operand (λ w. passes (is_fence_set w))

unfoldable pub operands : Mnemonic → Form Written
operands (word_of.Load width) = offset >>= λ r. Gives (written.Load width r.0 r.1)
operands (word_of.Store width) = offset >>= λ r. Gives (written.Store width r.0 r.1)
operands (word_of.Swap width) = swapped >>= λ r. Gives (written.Swap width r.0 r.1 r.2)
operands word_of.Li = numbered >>= λ r. Gives (written.Set r.0 r.1 (VALUE_BOUND - 1))
operands word_of.Ori = or_numbered >>= λ r. Gives (written.Set r.0 r.1 MOST_ORI)
operands word_of.Fence = sets >>= λ r. Gives written.Fence

-- instruction := load offset | store offset | swap swapped | li numbered | ori or_numbered | fence sets
unfoldable pub instruction : Form Written
instruction = operand (λ w. ok_or (mnemonic_of w) BadInstruction) >>= operands
