-- What is to come of a stream when lines are taken, where its source's bytes are known.
use Rattle.std.proofs.Common.{◌≡◌, ℕ, suc, ◌+◌, ◌≤◌, ◌<◌, List, [], ◌++◌, take, drop, length}
use Rattle.std.proofs.Common.{Option, Some, None, IfSome, refl, sym, ap, subst, ◌∙◌, arith, append_assoc}
use Rattle.std.specs.Prelude.{Ok, Err}
use Rattle.std.proofs.lemmas.List.{length-take-le}
use Rattle.byte_streams.specs.Device.{AtEnd}
use Rattle.trace_lines.specs.declared.errors.Kind.{Kind}
use Rattle.trace_lines.specs.declared.errors.Kind.TheVariants.{TooLong}
use Rattle.trace_lines.specs.declared.errors.TraceError.{TraceError}
use Rattle.trace_lines.specs.declared.steps.Form.{Form}
use Rattle.trace_lines.specs.Fields.{fields_of}
use Rattle.programs.specs.declared.steps.Step.{Step}
use Rattle.text_lines.specs.Lines.{lines_of}
use Rattle.trace_reader.specs.declared.limits.TheConstants.{MOST_BYTES, MOST_NUMBERED}
use Rattle.trace_reader.specs.declared.step_streams.StepStream.{StepStream}
use Rattle.trace_reader.specs.Ahead.{ahead, Both}
use Rattle.trace_reader.specs.Outcomes.{BeginTooLong, IsFound}
use Rattle.trace_reader.specs.Reading.{behind, numbered, said_at, told_from}
use Rattle.trace_reader.specs.Streams.{coming, coming_of, steps_behind, OnlyFault, StepsTold, Yields}
use Rattle.trace_reader.proofs.NextLine.{both-with}
use Rattle.trace_reader.proofs.ToldLines.{told-end, told-long, told-next, told-refused}

abbrev Steps : Type 0
Steps = List (ℕ × (ℕ × Step))

-- ---- one after the other

-- what yields these, and then those
pub yields-more : (a b c : Option StepsTold) (xs ys : Steps) → Yields a b xs → Yields b c ys → Yields a c (xs ++ ys)
yields-more None b c xs ys p q = tt
yields-more (Some x) None c xs ys p q = absurd p
yields-more (Some x) (Some y) None xs ys p q = absurd q
yields-more (Some x) (Some y) (Some z) xs ys p q =
    p ∙ ap (behind xs) q ∙ ap (λ (w : Steps). (w, z.1)) (sym (append_assoc xs ys z.0))

pub yields-none : (a : Option StepsTold) → Yields a a []
yields-none None = tt
yields-none (Some x) = refl

-- ---- one line

pub yields-both : (s t : StepStream) (steps : Steps) (a b : Option (List ℕ)) →
    Both a b (λ before after. coming_of s before ≡ behind steps (coming_of t after)) →
    Yields (coming s a) (coming t b) steps
yields-both s t steps None b p = tt
yields-both s t steps (Some x) None p = absurd p
yields-both s t steps (Some x) (Some y) p = p

pub only-both : (s : StepStream) (fault : Option TraceError) (a b : Option (List ℕ)) →
    Both a b (λ before after. coming_of s before ≡ ([], fault)) → OnlyFault fault (coming s a)
only-both s fault None b p = tt
only-both s fault (Some x) None p = absurd p
only-both s fault (Some x) (Some y) p = p

module _ (number : ℕ) (form : Option Form) (old : List ℕ) where
  abbrev Comes : StepsTold → Type 0
  Comes told = steps_behind number form old ≡ told

  pub line-long : BeginTooLong MOST_NUMBERED (suc number) (lines_of old) →
      Comes ([], Some (record { line = suc number; kind = TooLong }))
  line-long q =
      ap (told_from MOST_NUMBERED said_at (suc number) form) q.2
      ∙ told-long said_at MOST_NUMBERED (suc number) form q.0 q.1 q.3

  module _ (n : ℕ) (new after : List ℕ) (q : IsFound (Some n) old new after)
      (h : (n ≤ MOST_BYTES) × (n ≤ length new) × (number < MOST_NUMBERED)) (line : List ℕ) (f : line ≡ take n new)
    where
      short : length (take n new) ≤ MOST_BYTES
      short = omega (arith, length-take-le n new h.1, h.0)

      pub line-refused : (kind : Kind) → said_at form (fields_of line) ≡ Err kind →
          Comes ([], Some (record { line = number + 1; kind = kind }))
      line-refused kind e =
          let again : suc number ≡ number + 1 = omega arith in
          ap (told_from MOST_NUMBERED said_at (suc number) form) q
          ∙ told-refused said_at MOST_NUMBERED (suc number) form (take n new) (lines_of (drop (n + 1) new ++ after))
          kind
          short h.2 (ap (λ (w : List ℕ). said_at form (fields_of w)) (sym f) ∙ e)
          ∙ ap (λ k. ([], Some (record { line = k; kind = kind }))) again

      pub line-told : (next : Option Form) (said : Option (ℕ × Step)) (last : List ℕ) → last ≡ drop (n + 1) new →
          said_at form (fields_of line) ≡ Ok (next, said) →
          Comes (behind (numbered (number + 1) said) (steps_behind (number + 1) next (last ++ after)))
      line-told next said last g e =
          let again : suc number ≡ number + 1 = omega arith in
          ap (told_from MOST_NUMBERED said_at (suc number) form) q
          ∙ told-next said_at MOST_NUMBERED (suc number) form (take n new) (lines_of (drop (n + 1) new ++ after))
          next said
          short h.2 (ap (λ (w : List ℕ). said_at form (fields_of w)) (sym f) ∙ e)
          ∙ ap (λ k. behind (numbered k said) (steps_behind k next (drop (n + 1) new ++ after))) again
          ∙ ap (λ (w : List ℕ). behind (numbered (number + 1) said) (steps_behind (number + 1) next (w ++ after)))
          (sym g)

  pub line-none : (new after : List ℕ) → IsFound None old new after → Comes ([], None)
  unfolding lines_of
  line-none new after q = ap (λ (w : List ℕ). steps_behind number form w) q.0 ∙ nothing
    where
      nothing : steps_behind number form [] ≡ ([], None)
      nothing = told-end said_at MOST_NUMBERED (suc number) form

-- ---- the next line of a stream that holds no step

module _ (s : StepStream) (none : s.held ≡ None) (a b : Option (List ℕ)) where
  none-held : (bytes : List ℕ) → coming_of s bytes ≡ steps_behind s.number s.form (ahead s.block ++ bytes)
  none-held bytes =
      ap (λ (h : Option (ℕ × Step)). behind (numbered s.number h)
      (steps_behind s.number s.form (ahead s.block ++ bytes)))
      none

  pub stream-long : (e : TraceError) → e ≡ record { line = suc s.number; kind = TooLong } → Both a b (λ before after.
      BeginTooLong MOST_NUMBERED (suc s.number) (lines_of (ahead s.block ++ before))) → OnlyFault (Some e) (coming s a)
  stream-long e is q =
      only-both s (Some e) a b (both-with a b (λ before after.
      BeginTooLong MOST_NUMBERED (suc s.number) (lines_of (ahead s.block ++ before)))
      (λ before after. coming_of s before ≡ ([], Some e)) q (λ before after long. none-held before
      ∙ line-long s.number s.form (ahead s.block ++ before) long ∙ ap (λ (w : TraceError). ([], Some w)) (sym is)))

  module _ (new : List ℕ) (found : Option ℕ)
      (q : Both a b (λ before after. IsFound found (ahead s.block ++ before) new after)) where
    pub stream-end : found ≡ None → OnlyFault None (coming s a)
    stream-end e =
        only-both s None a b (both-with a b (λ before after. IsFound found (ahead s.block ++ before) new after)
        (λ before after. coming_of s before ≡ ([], None)) q (λ before after f. none-held before
        ∙ line-none s.number s.form (ahead s.block ++ before) new after
        (subst (λ (o : Option ℕ). IsFound o (ahead s.block ++ before) new after) e f)))

    pub source-end : found ≡ None → IfSome a (λ known. AtEnd b)
    source-end e = at-end a b (both-with a b (λ before after. IsFound found (ahead s.block ++ before) new after)
        (λ before after. after ≡ []) q (λ before after f.
        (subst (λ (o : Option ℕ). IsFound o (ahead s.block ++ before) new after) e f).1))
      where
        at-end : (a b : Option (List ℕ)) → Both a b (λ before after. after ≡ []) → IfSome a (λ known. AtEnd b)
        at-end None b p = tt
        at-end (Some x) None p = absurd p
        at-end (Some x) (Some y) p = p

    module _ (n : ℕ) (e : found ≡ Some n) (h : (n ≤ MOST_BYTES) × (n ≤ length new) × (s.number < MOST_NUMBERED))
        (line : List ℕ) (f : line ≡ take n new) where
      pub stream-refused : (kind : Kind) → said_at s.form (fields_of line) ≡ Err kind →
          OnlyFault (Some (record { line = s.number + 1; kind = kind })) (coming s a)
      stream-refused kind refused =
          only-both s (Some (record { line = s.number + 1; kind = kind })) a b
          (both-with a b (λ before after. IsFound found (ahead s.block ++ before) new after)
          (λ before after. coming_of s before ≡ ([], Some (record { line = s.number + 1; kind = kind }))) q
          (λ before after there. none-held before
          ∙ line-refused s.number s.form (ahead s.block ++ before) n new after
          (subst (λ (o : Option ℕ). IsFound o (ahead s.block ++ before) new after) e there) h line f kind refused))

      pub stream-told : (next : Option Form) (said : Option (ℕ × Step)) (last : List ℕ) → last ≡ drop (n + 1) new →
          said_at s.form (fields_of line) ≡ Ok (next, said) → Both a b (λ before after. coming_of s before
          ≡ behind (numbered (s.number + 1) said) (steps_behind (s.number + 1) next (last ++ after)))
      stream-told next said last g told =
          both-with a b (λ before after. IsFound found (ahead s.block ++ before) new after)
          (λ before after. coming_of s before
          ≡ behind (numbered (s.number + 1) said) (steps_behind (s.number + 1) next (last ++ after))) q
          (λ before after there. none-held before
          ∙ line-told s.number s.form (ahead s.block ++ before) n new after
          (subst (λ (o : Option ℕ). IsFound o (ahead s.block ++ before) new after) e there) h line f next said last g
          told)
