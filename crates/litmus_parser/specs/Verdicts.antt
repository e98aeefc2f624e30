-- What an instruction may say: its numbers, its width, its registers.
use Rattle.std.specs.Prelude.{ℕ, nat_lt, if◌then◌else◌, List, Option, Some, None, Result, Ok}
use Rattle.std.specs.Prelude.{Err, ok_or, is_some}
use Rattle.litmus_lexer.specs.Spelling.{register_of}
use Rattle.litmus_lexer.specs.declared.errors.Kind.{Kind}
use Rattle.litmus_lexer.specs.declared.errors.Kind.TheVariants.{MixedWidth, ValueRange, AddressAsValue}
use Rattle.litmus_lexer.specs.declared.errors.Kind.TheVariants.{ValueAsAddress, BadCondition}
use Rattle.text_lines.specs.Reading.{◌>>=◌}
use Rattle.litmus_parser.specs.Words.{named_register}
use Rattle.litmus_parser.specs.declared.syntax.Width.{Width}
use Rattle.litmus_parser.specs.declared.syntax.Width.TheVariants.{Single, Double}
use Rattle.litmus_parser.specs.declared.syntax.Instruction.{Instruction}
use Rattle.litmus_parser.specs.declared.syntax.Instruction.TheVariants.{Load, Store, Swap, Set, Fence}
use Rattle.litmus_parser.specs.declared.forms.Form.{Form}
use Rattle.litmus_parser.specs.declared.forms.Form.TheVariants as form

-- the location to which the initial block sets a thread's register, if it sets it to one
abbrev pub Bases : Type 0
Bases = ℕ → ℕ → Option ℕ

-- the first width stays
unfoldable pub kept : Option Width → Width → Result (Option Width) Kind
kept None own = Ok (Some own)
kept (Some Single) Single = Ok (Some Single)
kept (Some Double) Double = Ok (Some Double)
kept first own = Err MixedWidth

-- an address register holds no value
unfoldable pub value_in : Bases → ℕ → ℕ → Result ℕ Kind
value_in bases thread register = if is_some (bases thread register) then Err AddressAsValue else Ok register

-- a register in the condition: other than x0, and no address register
abbrev pub value_register : Bases → ℕ → List ℕ → Result ℕ Kind
value_register bases thread w = named_register BadCondition (register_of w) >>= value_in bases thread

-- the location that an address register holds
unfoldable pub base_in : Bases → ℕ → ℕ → Result ℕ Kind
base_in bases thread register = ok_or (bases thread register) ValueAsAddress

-- first the number, then the width, then the registers from the left
unfoldable pub meaning : Bases → ℕ → Option Width → Form → Result (Instruction × Option Width) Kind
meaning bases thread width (form.Load own target base) = do
  w ← kept width own
  d ← value_in bases thread target
  b ← base_in bases thread base
  Ok (Load d b, w)
meaning bases thread width (form.Store own source base) = do
  w ← kept width own
  s ← value_in bases thread source
  b ← base_in bases thread base
  Ok (Store s b, w)
meaning bases thread width (form.Swap own target source base) = do
  w ← kept width own
  d ← value_in bases thread target
  s ← value_in bases thread source
  b ← base_in bases thread base
  Ok (Swap d s b, w)
meaning bases thread width (form.Set target value most) =
    if nat_lt most value then Err ValueRange else (value_in bases thread target >>= λ d. Ok (Set d value, width))
meaning bases thread width form.Fence = Ok (Fence, width)
