-- A text that isn't read says nothing by its grammar, or else a call failed or memory was refused.
use Rattle.std.proofs.Common.{◌≡◌, ◌≢◌, ◌⊎◌, ℕ, ◌<◌, List, Option, Some, None, IfSome, Result, Err, refl, sym, ap}
use Rattle.std.proofs.Common.{subst, inl, inr, arith}
use Rattle.run_results.specs.declared.results.RunError.TheVariants.{Trace}
use Rattle.trace_lines.specs.declared.errors.Kind.{Kind}
use Rattle.trace_lines.specs.declared.errors.Kind.TheVariants.{Read, NoMemory, TooLong, BadCore, BadOperation}
use Rattle.trace_lines.specs.declared.errors.Kind.TheVariants.{BadAddress, BadValue, ExtraWords, BadForm, DoubleWord}
use Rattle.trace_lines.specs.declared.errors.TraceError.{TraceError}
use Rattle.trace_reader.specs.Outcomes.{IsCaused, IsOfLine, Refused, WantsMemory, whole}
use Rattle.report.specs.Refusals.{IsFault, IsUnread, refusal, refusal_of}
use Rattle.text_lines.specs.Lines.{lines_of}

pub fault_told : (kind : Kind) (e : TraceError) → kind ≢ Read → kind ≢ NoMemory → refusal_of kind e ≡ Trace e
fault_told Read e read memory = absurd (read refl)
fault_told NoMemory e read memory = absurd (memory refl)
fault_told TooLong e read memory = refl
fault_told BadCore e read memory = refl
fault_told BadOperation e read memory = refl
fault_told BadAddress e read memory = refl
fault_told BadValue e read memory = refl
fault_told ExtraWords e read memory = refl
fault_told BadForm e read memory = refl
fault_told DoubleWord e read memory = refl

module _ {X Y : Type 0} (Says : List ℕ → X → Type 0) (Cause : List ℕ → Kind → ℕ → Type 0) (read : List (List ℕ)
    → Result (List Y) TraceError) (e : TraceError) where
  abbrev of_text : List ℕ → Result (List Y) TraceError
  of_text bytes = read (lines_of bytes)

  -- a fault of a line is none of the device and none of memory
  of_line : {P : Type 0} → IsOfLine e → (e ≡ whole Read) ⊎ (e ≡ whole NoMemory) ⊎ P → P
  of_line is (inl failed) = absurd (is.1 (ap (λ (x : TraceError). x.kind) failed))
  of_line is (inr (inl memory)) = absurd (is.2 (ap (λ (x : TraceError). x.kind) memory))
  of_line is (inr (inr p)) = p

  none_said : {P : Type 0} → IsOfLine e → (e ≡ whole Read) ⊎ (e ≡ whole NoMemory) → P
  none_said is (inl failed) = absurd (is.1 (ap (λ (x : TraceError). x.kind) failed))
  none_said is (inr memory) = absurd (is.2 (ap (λ (x : TraceError). x.kind) memory))

  fault_in : (known : Option (List ℕ)) → IsOfLine e → IfSome known (λ bytes. of_text bytes ≡ Err e) →
      IfSome known (λ bytes. Cause bytes e.kind e.line) →
      IfSome known (λ bytes. (x : X) → Says bytes x → (e ≡ whole Read) ⊎ (e ≡ whole NoMemory)) →
      IsFault Says Cause of_text known e
  fault_in None is told caused only = (is, tt)
  fault_in (Some bytes) is told caused only = (is, (λ x says. none_said is (only x says), told, caused))

  pub unread : (before after : ℕ) (known : Option (List ℕ)) → Refused read before after known e →
      IsCaused Cause known e
      → IfSome known (λ bytes. (x : X) → Says bytes x → (e ≡ whole Read) ⊎ (e ≡ whole NoMemory)) →
      IsUnread (IsFault Says Cause of_text known) (WantsMemory read known) before after (refusal e)
  unread before after known (inl failed) caused only =
      subst (IsUnread (IsFault Says Cause of_text known) (WantsMemory read known) before after)
      (sym (ap refusal failed.0))
      (let more : before < after = omega (arith, failed.1) in more)
  unread before after known (inr (same, inl memory)) caused only =
      subst (IsUnread (IsFault Says Cause of_text known) (WantsMemory read known) before after)
      (sym (ap refusal memory.0)) (same, memory.1)
  unread before after known (inr (same, inr line)) caused only =
      subst (IsUnread (IsFault Says Cause of_text known) (WantsMemory read known) before after)
      (sym (fault_told e.kind e line.0.1 line.0.2))
      (same, fault_in known line.0 line.1 (of_line line.0 caused).1 only)
