-- All the bytes of a source, and why it has no text.
use Rattle.std.specs.Prelude.{◌≡◌, ◌<◌, ℕ, List, length, Option, IfSome}
use Rattle.byte_streams.specs.Whole.{ReadsAll}
use Rattle.litmus_lexer.specs.declared.errors.Kind.TheVariants.{TooLarge}
use Rattle.litmus_lexer.specs.declared.errors.LitmusError.{LitmusError}
use Rattle.litmus_lexer.specs.declared.limits.TheConstants.{MOST_BYTES}
use Rattle.run_results.specs.declared.results.RunError.{RunError}
use Rattle.run_results.specs.declared.results.RunError.TheVariants.{Read, NoMemory, Litmus}

-- this holds of bytes that are all the source's, if those are known
abbrev pub OfBytes : Option (List ℕ) → (List ℕ → Type 0) → Type 0
OfBytes known P = (bytes : List ℕ) × ReadsAll known bytes × P bytes

-- the bytes are more than a litmus text may have; the fault is reported at its first line
abbrev pub IsTooLargeTest : Option (List ℕ) → LitmusError → Type 0
IsTooLargeTest known e =
    (e ≡ record { line = 1; kind = TooLarge }) × IfSome known (λ bytes. MOST_BYTES < length bytes)

-- Why there is no text: a failure is counted; or memory was refused for bytes that there are; or these are too many.
abbrev pub HasNoText : Option (List ℕ) → (before after : ℕ) → RunError → Type 0
HasNoText known before after Read = before < after
HasNoText known before after NoMemory = (after ≡ before) × IfSome known (λ bytes. 0 < length bytes)
HasNoText known before after (Litmus e) = (after ≡ before) × IsTooLargeTest known e
HasNoText known before after e = ⊥
