-- What a reader answers of the bytes that its source had.
use Rattle.std.specs.Prelude.{◌≡◌, ◌≢◌, ℕ, suc, ◌+◌, ◌<◌, ◌||◌, nat_lt, true, List, [], ◌∷◌, ◌++◌, length, take, drop}
use Rattle.std.specs.Prelude.{Option, Some, None, Result, Ok, Err, ◌⊎◌, IfSome, Vec}
use Rattle.trace_lines.specs.declared.errors.Kind.{Kind}
use Rattle.trace_lines.specs.declared.errors.Kind.TheVariants.{Read, NoMemory}
use Rattle.trace_lines.specs.declared.errors.TraceError.{TraceError}
use Rattle.trace_reader.specs.declared.limits.TheConstants.{MOST_BYTES}
use Rattle.text_lines.specs.Lines.{lines_of}

-- a fault of no line
abbrev pub whole : Kind → TraceError
whole kind = record { line = 0; kind = kind }

-- the lines begin with one that is too long, or that comes behind the most that there may be
abbrev pub BeginTooLong : ℕ → ℕ → List (List ℕ) → Type 0
BeginTooLong most number lines = (line : List ℕ) × (later : List (List ℕ)) × (lines ≡ line ∷ later)
    × ((nat_lt MOST_BYTES (length line) || nat_lt most number) ≡ true)

-- the next line is in front of the block, or else there is none
abbrev pub IsFound : Option ℕ → List ℕ → List ℕ → List ℕ → Type 0
IsFound None old new coming = (old ≡ []) × (coming ≡ [])
IsFound (Some n) old new coming = lines_of old ≡ take n new ∷ lines_of (drop (n + 1) new ++ coming)

-- a fault of a line
abbrev pub IsOfLine : TraceError → Type 0
IsOfLine e = (0 < e.line) × (e.kind ≢ Read) × (e.kind ≢ NoMemory)

-- reading the text allocates: its first n lines have a step or a record to keep, and no fault
abbrev pub WantsMemory : {X : Type 0} → (List (List ℕ) → Result (List X) TraceError) → Option (List ℕ) → Type 0
WantsMemory {X} read bytes = IfSome bytes (λ known. (n : ℕ) × (x : X) × (xs : List X)
    × (read (take n (lines_of known)) ≡ Ok (x ∷ xs)))

-- Why a text was not read. A call of the device failed. Or none did: an allocation failed, or reading gives this
-- fault.
abbrev pub Refused : {X : Type 0} → (List (List ℕ) → Result (List X) TraceError) → ℕ → ℕ → Option (List ℕ) →
    TraceError → Type 0
Refused read old new bytes e = ((e ≡ whole Read) × (new ≡ suc old))
    ⊎ ((new ≡ old) × (((e ≡ whole NoMemory) × WantsMemory read bytes)
    ⊎ (IsOfLine e × IfSome bytes (λ known. read (lines_of known) ≡ Err e))))

-- this is answered, unless a call of the device failed or memory was refused
abbrev pub AnswersUnlessFailed : {X : Type 0} → X → Result X TraceError → Type 0
AnswersUnlessFailed x (Ok y) = y ≡ x
AnswersUnlessFailed x (Err e) = (e ≡ whole Read) ⊎ (e ≡ whole NoMemory)

-- the fault is the device's, or memory's, or it is of a line, in which it has its cause
abbrev pub IsCaused : (List ℕ → Kind → ℕ → Type 0) → Option (List ℕ) → TraceError → Type 0
IsCaused Fault bytes e = (e ≡ whole Read) ⊎ (e ≡ whole NoMemory)
    ⊎ (IsOfLine e × IfSome bytes (λ known. Fault known e.kind e.line))

-- these are answered, unless a call of the device failed or memory was refused
abbrev pub GivesList : {X Z : Type 0} → List X → Result (Vec X Z) TraceError → Type 0
GivesList xs (Ok ys) = ys.items ≡ xs
GivesList xs (Err e) = (e ≡ whole Read) ⊎ (e ≡ whole NoMemory)
