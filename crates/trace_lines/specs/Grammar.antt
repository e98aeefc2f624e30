-- What the lines of a trace, of records and of an opening are: relations between fields and what they say.
use Rattle.std.specs.Prelude.{◌≡◌, ◌≢◌, ℕ, ◌*◌, ◌^◌, ◌<◌, true, List, [], ◌∷◌, ◌++◌, codes, Option, Some, None}
use Rattle.physiological_order.specs.declared.operation.Op.{Op}
use Rattle.physiological_order.specs.declared.operation.Op.TheVariants.{Load, Store, Swap}
use Rattle.physiological_order.specs.declared.operation.Record.{Record}
use Rattle.trace_lines.specs.declared.steps.Form.{Form}
use Rattle.trace_lines.specs.declared.steps.Form.TheVariants.{One, Two}
use Rattle.programs.specs.declared.steps.Step.{Step}
use Rattle.programs.specs.declared.steps.Step.TheVariants as step
use Rattle.trace_lines.specs.Spelling.{is_digit, is_hex_digit, is_few, decimal_of, hex_of, most_cores_named}

-- a number below a bound, in 1 to `digits` decimal digits
abbrev pub IsNumber : ℕ → ℕ → List ℕ → ℕ → Type 0
IsNumber digits bound field n = (is_few is_digit digits field ≡ true) × (decimal_of field ≡ n) × (n < bound)

-- the number of a core, below the number of cores
abbrev pub IsCoreNumber : ℕ → List ℕ → ℕ → Type 0
IsCoreNumber cores = IsNumber 2 cores

-- a number of 64 bits
abbrev pub IsValue : List ℕ → ℕ → Type 0
IsValue = IsNumber 20 (2 ^ 64)

-- 0x and 1 to 16 hexadecimal digits: the byte address of this word of eight bytes
abbrev pub IsAddress : List ℕ → ℕ → Type 0
IsAddress field word = (digits : List ℕ) × (field ≡ codes "0x" ++ digits)
    × (is_few is_hex_digit 16 digits ≡ true) × (hex_of digits ≡ 8 * word)

-- R ADDR, W ADDR VALUE, S ADDR VALUE
abbrev pub IsOp : List (List ℕ) → Op → Type 0
IsOp (letter ∷ address ∷ []) (Load word) = (letter ≡ codes "R") × IsAddress address word
IsOp (letter ∷ address ∷ written ∷ []) (Store word value) =
    (letter ≡ codes "W") × IsAddress address word × IsValue written value
IsOp (letter ∷ address ∷ written ∷ []) (Swap word value) =
    (letter ≡ codes "S") × IsAddress address word × IsValue written value
IsOp fields op = ⊥

-- an operation, and in form 2 also A
abbrev pub IsStep : Form → List (List ℕ) → Step → Type 0
IsStep form fields (step.Op op) = IsOp fields op
IsStep One fields step.Advance = ⊥
IsStep Two fields step.Advance = fields ≡ codes "A" ∷ []

-- CORE, and its step
abbrev pub IsTraceLine : Form → List (List ℕ) → ℕ → Step → Type 0
IsTraceLine form [] core told = ⊥
IsTraceLine form (first ∷ fields) core told = IsCoreNumber (most_cores_named form) first core × IsStep form fields told

-- R ADDR RECEIVED TIME NUMBER, W ADDR VALUE TIME NUMBER, S ADDR VALUE RECEIVED TIME NUMBER
abbrev pub IsCompletion : List (List ℕ) → Op → Option ℕ → ℕ → ℕ → Type 0
IsCompletion (letter ∷ address ∷ a ∷ b ∷ c ∷ []) (Load word) (Some received) ts number =
    (letter ≡ codes "R") × IsAddress address word × IsValue a received × IsValue b ts × IsValue c number
IsCompletion (letter ∷ address ∷ a ∷ b ∷ c ∷ []) (Store word value) None ts number =
    (letter ≡ codes "W") × IsAddress address word × IsValue a value × IsValue b ts × IsValue c number
IsCompletion (letter ∷ address ∷ a ∷ b ∷ c ∷ d ∷ []) (Swap word value) (Some received) ts number =
    (letter ≡ codes "S") × IsAddress address word × IsValue a value × IsValue b received × IsValue c ts
    × IsValue d number
IsCompletion fields op received ts number = ⊥

-- CORE, PLACE, and what completed
abbrev pub IsRecordLine : List (List ℕ) → Record → Type 0
IsRecordLine (first ∷ second ∷ fields) r = IsCoreNumber 64 first r.core × IsNumber 20 (2 ^ 32) second r.place
    × IsCompletion fields r.op r.received r.ts r.number
IsRecordLine fields r = ⊥

-- ADDR VALUE: a word, and the value that it opens with
abbrev pub IsOpeningLine : List (List ℕ) → ℕ × ℕ → Type 0
IsOpeningLine (address ∷ value ∷ []) told = IsAddress address told.0 × IsValue value told.1
IsOpeningLine fields told = ⊥

-- trace 2 for form 2, and for form 1 any line that does not begin with trace
abbrev pub IsFormLine : List (List ℕ) → Form → Type 0
IsFormLine [] form = ⊥
IsFormLine (first ∷ fields) One = first ≢ codes "trace"
IsFormLine (first ∷ fields) Two = (first ≡ codes "trace") × (fields ≡ codes "2" ∷ [])
