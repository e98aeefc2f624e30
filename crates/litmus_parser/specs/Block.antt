-- The grammar of the initial block, as a form. Line ends count as blanks.
use Rattle.std.specs.Prelude.{ℕ, Bool, false, if◌then◌else◌, List, [], ◌∷◌, ◌++◌, Option, Some, None}
use Rattle.std.specs.Prelude.{Result, Ok}
use Rattle.std.specs.List.{list_any}
use Rattle.litmus_lexer.specs.declared.limits.TheConstants.{MOST_BYTES, MOST_THREADS}
use Rattle.litmus_lexer.specs.declared.signs.TheConstants.{CLOSING_BRACE, COLON, EQUALS, OPENING_BRACE, SEMICOLON}
use Rattle.litmus_lexer.specs.Pieces.{Piece, Word}
use Rattle.litmus_lexer.specs.Spelling.{is_number, register_of}
use Rattle.litmus_lexer.specs.declared.errors.Kind.{Kind}
use Rattle.litmus_lexer.specs.declared.errors.Kind.TheVariants.{BadInitial, DoubleInitial}
use Rattle.litmus_lexer.specs.declared.errors.LitmusError.{LitmusError}
use Rattle.litmus_lexer.specs.Reading.{fails}
use Rattle.piece_forms.specs.Forms.{Verdict, Takes, Refuses, Form, Gives, Line, Known, ◌>>=◌, word, sign, one}
use Rattle.piece_forms.specs.Forms.{is_sign, either_sign, line_end, taken, mapped, until, refused}
use Rattle.litmus_parser.specs.Names.{Names, same_name}
use Rattle.litmus_parser.specs.Words.{value, equals, location, named_register, opening}
use Rattle.litmus_parser.specs.declared.items.Opening.{Opening}
use Rattle.litmus_parser.specs.declared.items.Opening.TheVariants.{OfThread, OfLocation}
use Rattle.litmus_parser.specs.declared.syntax.Name.TheVariants.{Register, Location}
use Rattle.litmus_parser.specs.declared.syntax.Setting.{Setting}
use Rattle.litmus_parser.specs.declared.syntax.Setting.TheVariants.{Number, Address}
use Rattle.litmus_parser.specs.declared.syntax.Item.{Item}

-- ---- items

-- what an item begins with, or }
abbrev pub item_or_brace : Names → Piece → Verdict (Option (Opening × Names))
item_or_brace names (Word w) = taken (mapped Some (opening BadInitial MOST_THREADS w names))
item_or_brace names piece = if is_sign CLOSING_BRACE piece then Takes None else Refuses BadInitial

abbrev pub with_names : Option Opening → Names → Option (Opening × Names)
with_names None names = None
with_names (Some o) names = Some (o, names)

-- what a register is set to: a number, or a location
abbrev pub setting : Names → List ℕ → Result (Setting × Names) Kind
setting names w =
    if is_number w then mapped (λ n. (Number n, names)) (value BadInitial w)
    else mapped (λ l. (Address l.0, l.1)) (location BadInitial w names)

-- item := T : xR = ( N | L ) | L = N
unfoldable pub rest_of_item : Opening × Names → Form (Item × Names)
rest_of_item (OfThread thread, names) = do
  line ← Line
  _ ← one (sign BadInitial COLON)
  r ← one (word BadInitial (λ w. named_register BadInitial (register_of w)))
  _ ← one (sign BadInitial EQUALS)
  s ← one (word BadInitial (setting names))
  Gives (record { line = line; name = Register thread r; setting = s.0 }, s.1)
rest_of_item (OfLocation l, names) = do
  line ← Line
  n ← equals BadInitial
  Gives (record { line = line; name = Location l; setting = Number n }, names)

-- ---- the block

-- the items so far, and the locations so far
abbrev pub Block : Type 0
Block = List Item × Names

-- an item after the earlier ones, unless one of them sets the same name: that is a fault in the line of the item
unfoldable pub added : List Item → Item → Result (List Item) LitmusError
added items item = if list_any (λ other. same_name other.name item.name) items then fails DoubleInitial item.line else
    Ok (items ++ item ∷ [])

unfoldable pub whole_item : List Item → Opening × Names → Form (Bool × Block)
whole_item items o = do
  item ← rest_of_item o
  all ← Known (added items item.0)
  more ← one (either_sign BadInitial SEMICOLON CLOSING_BRACE)
  Gives (more, (all, item.1))

abbrev pub item_or_end : Block → Option (Opening × Names) → Form (Bool × Block)
item_or_end block None = Gives (false, block)
item_or_end block (Some o) = whole_item block.0 o

unfoldable pub entry : Block → Form (Bool × Block)
entry block = one (item_or_brace block.1) >>= item_or_end block

-- block := "{" { item ; } [ item ] "}"
-- and the end of the line; a text has fewer items than bytes, so the steps end with }
unfoldable pub block : Names → Form Block
block names = do
  _ ← one (sign BadInitial OPENING_BRACE)
  b ← until (refused BadInitial) entry MOST_BYTES ([], names)
  _ ← line_end BadInitial
  Gives b
