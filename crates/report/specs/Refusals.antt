-- Why a text of a trace or of records is refused.
use Rattle.std.specs.Prelude.{◌≡◌, ◌<◌, ℕ, List, Option, Result, Ok, Err, IfSome}
use Rattle.run_results.specs.declared.results.Done.{Done}
use Rattle.run_results.specs.declared.results.RunError.{RunError}
use Rattle.run_results.specs.declared.results.RunError.TheVariants.{Read, Write, NoMemory, Trace, BadConfig}
use Rattle.trace_lines.specs.declared.errors.Kind.{Kind}
use Rattle.trace_lines.specs.declared.errors.Kind.TheVariants.{Read as ReadingFailed, NoMemory as LackOfMemory}
use Rattle.trace_lines.specs.declared.errors.TraceError.{TraceError}
use Rattle.programs.specs.declared.steps.Step.{Step}
use Rattle.trace_reader.specs.Grammar.{IsTrace}
use Rattle.trace_reader.specs.Outcomes.{IsOfLine}

-- The trace that was read: its text is all that the source had, if that is known. Of a source whose bytes aren't known
-- this says nothing.
abbrev pub IsRead : Option (List ℕ) → List (List Step) → Type 0
IsRead known lanes = IfSome known (λ bytes. IsTrace bytes lanes)

-- The fault of a line. Says is the grammar, Cause states what is in the line of a fault, and read is the reading from
-- the front: bytes that are known say nothing by the grammar, reading them reports this fault, and it has its cause in
-- its line.
abbrev pub IsFault : {X Y : Type 0} → (Says : List ℕ → X → Type 0) → (Cause : List ℕ → Kind → ℕ → Type 0) →
    (read : List ℕ → Result Y TraceError) → Option (List ℕ) → TraceError → Type 0
IsFault {X} Says Cause read known e = IsOfLine e × IfSome known (λ bytes. ((x : X) → Says bytes x → ⊥)
    × (read bytes ≡ Err e) × Cause bytes e.kind e.line)

-- a failed call and refused memory are no faults of a text
abbrev pub refusal_of : Kind → TraceError → RunError
refusal_of ReadingFailed e = Read
refusal_of LackOfMemory e = NoMemory
refusal_of kind e = Trace e

abbrev pub refusal : TraceError → RunError
refusal e = refusal_of e.kind e

-- how reading a text fails: a failure is counted exactly if the answer reports it
abbrev pub IsUnread : (IsFaultOf : TraceError → Type 0) → (Wants : Type 0) → (before after : ℕ) → RunError → Type 0
IsUnread IsFaultOf Wants before after Read = before < after
IsUnread IsFaultOf Wants before after NoMemory = (after ≡ before) × Wants
IsUnread IsFaultOf Wants before after (Trace e) = (after ≡ before) × IsFaultOf e
IsUnread IsFaultOf Wants before after e = ⊥

-- what is so if the answer is one that comes only after each text was accepted
abbrev pub OnAccepted : Result Done RunError → Type 0 → Type 0
OnAccepted (Ok done) Said = Said
OnAccepted (Err Write) Said = Said
OnAccepted (Err BadConfig) Said = Said
OnAccepted (Err e) Said = Unit {0}
