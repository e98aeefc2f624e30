-- Reading fields from the left, up to the first fault.
use Rattle.std.specs.Prelude.{ℕ, ◌^◌, ◌/◌, ◌%◌, ◌==◌, ◌&&◌, nat_lt, if◌then◌else◌, List, [], ◌∷◌}
use Rattle.std.specs.Prelude.{Option, Some, None, Result, Ok, Err, option_and_then, codes}
use Rattle.std.specs.Str.{bytes_eq}
use Rattle.text_lines.specs.Reading.{◌>>=◌, found}
use Rattle.physiological_order.specs.declared.operation.Op.{Op}
use Rattle.physiological_order.specs.declared.operation.Op.TheVariants.{Load, Store, Swap}
use Rattle.physiological_order.specs.declared.operation.Record.{Record}
use Rattle.trace_lines.specs.declared.errors.Kind.{Kind}
use Rattle.trace_lines.specs.declared.errors.Kind.TheVariants.{BadCore, BadOperation, BadAddress, BadValue}
use Rattle.trace_lines.specs.declared.errors.Kind.TheVariants.{ExtraWords, BadForm}
use Rattle.trace_lines.specs.declared.steps.Access.{Access}
use Rattle.trace_lines.specs.declared.steps.Access.TheVariants as access
use Rattle.trace_lines.specs.declared.steps.Form.{Form}
use Rattle.trace_lines.specs.declared.steps.Form.TheVariants.{One, Two}
use Rattle.programs.specs.declared.steps.Step.{Step}
use Rattle.programs.specs.declared.steps.Step.TheVariants as step
use Rattle.trace_lines.specs.Spelling.{is_digit, is_hex_digit, is_few, decimal_of, hex_of, most_cores_named}

-- What is read, and the fields after it.
abbrev pub FieldsRead : Type 0 → Type 0
FieldsRead X = Result (X × List (List ℕ)) Kind

-- what the next field says, by this rule; a fault of this kind if it is missing or says nothing
unfoldable pub field_at : {X : Type 0} → Kind → (List ℕ → Option X) → List (List ℕ) → FieldsRead X
field_at kind says [] = Err kind
field_at kind says (field ∷ fields) = found kind (says field) (λ x. Ok (x, fields))

-- what is read, if no field follows it
unfoldable pub ended : {X : Type 0} → X → List (List ℕ) → Result X Kind
ended x [] = Ok x
ended x (field ∷ fields) = Err ExtraWords

-- a number below a bound, in at most `digits` digits
abbrev pub decimal_in : ℕ → ℕ → List ℕ → Option ℕ
decimal_in digits bound field =
    if is_few is_digit digits field && nat_lt (decimal_of field) bound then Some (decimal_of field) else None

-- 1 to 16 hexadecimal digits
abbrev pub hex_in : List ℕ → Option ℕ
hex_in digits = if is_few is_hex_digit 16 digits then Some (hex_of digits) else None

-- the word at a byte address
abbrev pub word_at_byte : ℕ → Option ℕ
word_at_byte byte = if byte % 8 == 0 then Some (byte / 8) else None

-- 0x and the digits of a byte address
abbrev pub address_in : List ℕ → Option ℕ
address_in (a ∷ b ∷ digits) = if a == 48 && b == 120 then option_and_then word_at_byte (hex_in digits) else None
address_in field = None

-- R, W, S
abbrev pub access_in : List ℕ → Option Access
access_in (a ∷ []) = if a == 82 then Some access.Read else if a == 87 then Some access.Write
    else if a == 83 then Some access.Swap else None
access_in field = None

unfoldable pub core_at : ℕ → List (List ℕ) → FieldsRead ℕ
core_at cores fields = field_at BadCore (decimal_in 2 cores) fields

unfoldable pub place_at : List (List ℕ) → FieldsRead ℕ
place_at fields = field_at BadValue (decimal_in 20 (2 ^ 32)) fields

unfoldable pub number_field_at : List (List ℕ) → FieldsRead ℕ
number_field_at fields = field_at BadValue (decimal_in 20 (2 ^ 64)) fields

unfoldable pub operation_at : List (List ℕ) → FieldsRead Access
operation_at fields = field_at BadOperation access_in fields

unfoldable pub address_at : List (List ℕ) → FieldsRead ℕ
address_at fields = field_at BadAddress address_in fields

-- what is left of an access: the value of a write, and no more fields
abbrev pub operand_at : Access → ℕ → List (List ℕ) → Result Op Kind
operand_at access.Read word fields = ended (Load word) fields
operand_at access.Write word fields = number_field_at fields >>= (λ value. ended (Store word value.0) value.1)
operand_at access.Swap word fields = number_field_at fields >>= (λ value. ended (Swap word value.0) value.1)

unfoldable pub op_at : List (List ℕ) → Result Op Kind
op_at fields = do
  access ← operation_at fields
  word ← address_at access.1
  operand_at access.0 word.0 word.1

-- the fields after A, which form 2 has
abbrev pub behind_advance : Form → List (List ℕ) → Option (List (List ℕ))
behind_advance Two ((a ∷ []) ∷ fields) = if a == 65 then Some fields else None
behind_advance form fields = None

abbrev pub step_or : List (List ℕ) → Option (List (List ℕ)) → Result Step Kind
step_or fields (Some rest) = ended step.Advance rest
step_or fields None = op_at fields >>= (λ op. Ok (step.Op op))

unfoldable pub step_at : Form → List (List ℕ) → Result Step Kind
step_at form fields = step_or fields (behind_advance form fields)

unfoldable pub trace_at : Form → List (List ℕ) → Result (ℕ × Step) Kind
trace_at form fields = do
  core ← core_at (most_cores_named form) fields
  told ← step_at form core.1
  Ok (core.0, told)

-- what a line of a trace says; nothing if it has no fields
unfoldable pub trace_line_at : Form → List (List ℕ) → Result (Option (ℕ × Step)) Kind
trace_line_at form [] = Ok None
trace_line_at form (field ∷ fields) = trace_at form (field ∷ fields) >>= (λ told. Ok (Some told))

-- the time and the completion number, and no more fields
unfoldable pub timed_at : ℕ → ℕ → Op → Option ℕ → List (List ℕ) → Result Record Kind
timed_at core place op received fields = do
  ts ← number_field_at fields
  number ← number_field_at ts.1
  ended (record { core = core; place = place; op = op; received = received; ts = ts.0; number = number.0 }) number.1

-- what is left of a record after its address
abbrev pub record_rest_at : ℕ → ℕ → Access → ℕ → List (List ℕ) → Result Record Kind
record_rest_at core place access.Read word fields =
    number_field_at fields >>= (λ received. timed_at core place (Load word) (Some received.0) received.1)
record_rest_at core place access.Write word fields =
    number_field_at fields >>= (λ value. timed_at core place (Store word value.0) None value.1)
record_rest_at core place access.Swap word fields =
    number_field_at fields >>= (λ value. number_field_at value.1 >>= (λ received.
    timed_at core place (Swap word value.0) (Some received.0) received.1))

unfoldable pub record_fields_at : List (List ℕ) → Result Record Kind
record_fields_at fields = do
  core ← core_at 64 fields
  place ← place_at core.1
  access ← operation_at place.1
  word ← address_at access.1
  record_rest_at core.0 place.0 access.0 word.0 word.1

-- what a line of records says; nothing if it has no fields
unfoldable pub record_line_at : List (List ℕ) → Result (Option Record) Kind
record_line_at [] = Ok None
record_line_at (field ∷ fields) = record_fields_at (field ∷ fields) >>= (λ told. Ok (Some told))

-- a word and its value, and no more fields
unfoldable pub opening_at : List (List ℕ) → Result (ℕ × ℕ) Kind
opening_at fields = do
  word ← address_at fields
  value ← number_field_at word.1
  ended (word.0, value.0) value.1

-- what a line of an opening says; nothing if it has no fields
unfoldable pub opening_line_at : List (List ℕ) → Result (Option (ℕ × ℕ)) Kind
opening_line_at [] = Ok None
opening_line_at (field ∷ fields) = opening_at (field ∷ fields) >>= (λ told. Ok (Some told))

-- the form that trace, 2 and nothing else name
abbrev pub form_named : List (List ℕ) → Result (Option Form) Kind
form_named [] = Err BadForm
form_named (second ∷ fields) = if bytes_eq second (codes "2") then ended (Some Two) fields else Err BadForm

-- the form that a first line declares; nothing if it has no fields
unfoldable pub form_line_at : List (List ℕ) → Result (Option Form) Kind
form_line_at [] = Ok None
form_line_at (first ∷ fields) = if bytes_eq first (codes "trace") then form_named fields else Ok (Some One)
