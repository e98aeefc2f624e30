-- What the answer about a text says of its lines, for any rule that tells what a line says, and for what holds of a
-- value by what was told.
use Rattle.std.proofs.Common.{◌≡◌, ℕ, List, Option, Some, None, IfSome, subst, inl, inr}
use Rattle.std.specs.Prelude.{Result, Ok, Err, IfOk, IfErr}
use Rattle.trace_lines.specs.declared.errors.Kind.{Kind}
use Rattle.trace_lines.specs.declared.errors.TraceError.{TraceError}
use Rattle.text_lines.specs.Lines.{lines_of}
use Rattle.trace_reader.specs.Lines.{worded}
use Rattle.trace_reader.specs.Grammar.{HasFewShortLines}
use Rattle.trace_reader.specs.Causes.{TextFault}
use Rattle.trace_reader.specs.Outcomes.{Refused, AnswersUnlessFailed, IsCaused}
use Rattle.trace_reader.specs.Reading.{read_from}
use Rattle.trace_reader.proofs.LinesMeant.{Means, lines-found, lines-only, lines-fault}

same-told : {X : Type 0} (x y : List X) (r : Result (List X) TraceError) → r ≡ Ok x → r ≡ Ok y → x ≡ y
same-told x y r e f = cc

module _ {S X : Type 0} (says : S → List (List ℕ) → Result (S × Option X) Kind)
    (Tells : S → List (List (List ℕ)) → List X → Type 0)
    (Cause : S → List (List (List ℕ)) → Kind → List (List ℕ) → Type 0) (m : Means says Tells Cause) (first : S) where
  abbrev lines_read : List (List ℕ) → Result (List X) TraceError
  lines_read lines = read_from says 1 first lines

  pub text-fault : {V : Type 0} (r : Result V TraceError) (a : Option (List ℕ)) (old new : ℕ) →
      IfErr r (Refused lines_read old new a) → IfErr r (IsCaused (TextFault (Cause first)) a)
  text-fault (Ok v) a old new k = tt
  text-fault (Err e) a old new (inl k) = inl k.0
  text-fault (Err e) a old new (inr (failures, inl k)) = inr (inl k.0)
  text-fault (Err e) None old new (inr (failures, inr k)) = inr (inr (k.0, tt))
  text-fault (Err e) (Some bytes) old new (inr (failures, inr k)) =
      inr (inr (k.0, lines-fault says Tells Cause m first (lines_of bytes) e k.1))

  -- a text tells one list
  pub told-once : (bytes : List ℕ) (one other : List X) → HasFewShortLines (lines_of bytes) →
      Tells first (worded (lines_of bytes)) one → Tells first (worded (lines_of bytes)) other → one ≡ other
  told-once bytes one other fits s t =
      same-told one other (lines_read (lines_of bytes)) (lines-only says Tells Cause m first (lines_of bytes) one fits
      s)
      (lines-only says Tells Cause m first (lines_of bytes) other fits t)

  module _ {V : Type 0} (Holds : List X → V → Type 0) where
    -- the value of what the text tells, and of what reading it gives
    abbrev pub IsToldBy : List ℕ → V → Type 0
    IsToldBy bytes v = HasFewShortLines (lines_of bytes)
        × ((told : List X) × Tells first (worded (lines_of bytes)) told × Holds told v)

    abbrev pub IsReadOf : Option (List ℕ) → V → Type 0
    IsReadOf a v = IfSome a (λ bytes. (told : List X) × (lines_read (lines_of bytes) ≡ Ok told) × Holds told v)

    pub text-found : (r : Result V TraceError) (a : Option (List ℕ)) → IfOk r (IsReadOf a) →
        IfOk r (λ v. IfSome a (λ bytes. IsToldBy bytes v))
    text-found (Ok v) None h = tt
    text-found (Ok v) (Some bytes) h =
        let f = lines-found says Tells Cause m first (lines_of bytes) h.0 h.1 in (f.0, (h.0, f.1, h.2))
    text-found (Err e) a h = tt

    module _ (once : (told : List X) (one other : V) → Holds told one → Holds told other → one ≡ other) where
      pub text-unique : (bytes : List ℕ) (one other : V) → IsToldBy bytes one → IsToldBy bytes other → one ≡ other
      text-unique bytes one other s t =
          let same = told-once bytes s.1.0 t.1.0 s.0 s.1.1 t.1.1 in
          once t.1.0 one other (subst (λ (w : List X). Holds w one) same s.1.2) t.1.2

      pub text-only : (r : Result V TraceError) (a : Option (List ℕ)) (old new : ℕ) → IfOk r (IsReadOf a) →
          IfErr r (Refused lines_read old new a) →
          IfSome a (λ bytes. (v : V) → IsToldBy bytes v → AnswersUnlessFailed v r)
      text-only r None old new h k = tt
      text-only (Ok v) (Some bytes) old new h k = λ w t.
          let f = lines-found says Tells Cause m first (lines_of bytes) h.0 h.1 in
          text-unique bytes v w (f.0, (h.0, f.1, h.2)) t
      text-only (Err e) (Some bytes) old new h (inl k) = λ w t. inl k.0
      text-only (Err e) (Some bytes) old new h (inr (failures, inl k)) = λ w t. inr k.0
      text-only (Err e) (Some bytes) old new h (inr (failures, inr k)) = λ w t.
          let again = lines-only says Tells Cause m first (lines_of bytes) t.1.0 t.0 t.1.1 in
          let refused : lines_read (lines_of bytes) ≡ Err e = k.1 in
          absurd (cc (again, refused))
