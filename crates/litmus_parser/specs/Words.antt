-- What a word must say, in the initial block and in the condition.
use Rattle.std.specs.Option.{option_map_or}
use Rattle.std.specs.Prelude.{ℕ, ◌==◌, nat_lt, nat_le, not, if◌then◌else◌, List, [], ◌∷◌, ◌++◌, length, Option, Some}
use Rattle.std.specs.Prelude.{None, Result, Ok, Err}
use Rattle.litmus_lexer.specs.declared.limits.TheConstants.{LAST_THREAD, MOST_LOCATIONS, VALUE_BOUND}
use Rattle.litmus_lexer.specs.declared.signs.TheConstants.{EQUALS}
use Rattle.litmus_lexer.specs.Naming.{place_of}
use Rattle.litmus_lexer.specs.Spelling.{is_number, value_of_digits, is_location, small_of}
use Rattle.litmus_lexer.specs.declared.errors.Kind.{Kind}
use Rattle.litmus_lexer.specs.declared.errors.Kind.TheVariants.{TooLarge, ValueRange}
use Rattle.piece_forms.specs.Forms.{Form, ◌>>=◌, one, word, sign, mapped}
use Rattle.litmus_parser.specs.Names.{Names}
use Rattle.litmus_parser.specs.declared.items.Opening.{Opening}
use Rattle.litmus_parser.specs.declared.items.Opening.TheVariants.{OfThread, OfLocation}

-- a number that fits
abbrev pub value : Kind → List ℕ → Result ℕ Kind
value kind w =
    if not (is_number w) then Err kind
    else if nat_lt (value_of_digits w) VALUE_BOUND then Ok (value_of_digits w) else Err ValueRange

-- = and a number that fits
abbrev pub equals : Kind → Form ℕ
equals kind = one (sign kind EQUALS) >>= λ _. one (word kind (value kind))

-- a register other than x0
abbrev pub named_register : Kind → Option ℕ → Result ℕ Kind
named_register kind None = Err kind
named_register kind (Some r) = if r == 0 then Err kind else Ok r

-- the number of a location: one that was named before, or a new one, if fewer than 64 were
unfoldable pub location : Kind → List ℕ → Names → Result (ℕ × Names) Kind
location kind w names =
    if not (is_location w) then Err kind
    else if nat_lt (place_of w names) (length names) then Ok (place_of w names, names)
    else if nat_le MOST_LOCATIONS (length names) then Err TooLarge
    else Ok (length names, names ++ w ∷ [])

-- what an item or an atom begins with: one of so many threads, or a location
abbrev pub opening : Kind → ℕ → List ℕ → Names → Result (Opening × Names) Kind
opening kind threads w names =
    option_map_or (λ thread. if nat_le threads thread then Err kind else Ok (OfThread thread, names))
    (small_of LAST_THREAD w) (mapped (λ l. (OfLocation l.0, l.1)) (location kind w names))
