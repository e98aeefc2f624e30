-- What lines give when they are read one after the other is what they say, both ways, and a fault has its cause: for
-- any rule that tells what a line says behind those before it.
use Rattle.std.proofs.Common.{◌≡◌, ◌≢◌, ℕ, suc, ◌+◌, ◌≤◌, ◌<◌, List, [], ◌∷◌, ◌++◌, length}
use Rattle.std.proofs.Common.{Option, refl, sym, ap, subst, ◌∙◌, arith, inl, inr}
use Rattle.std.specs.Prelude.{Result, Ok, Err}
use Rattle.trace_lines.specs.declared.errors.Kind.{Kind}
use Rattle.trace_lines.specs.declared.errors.Kind.TheVariants.{Read, NoMemory}
use Rattle.trace_lines.specs.declared.errors.TraceError.{TraceError}
use Rattle.trace_lines.specs.Fields.{fields_of}
use Rattle.trace_reader.specs.declared.limits.TheConstants.{MOST_LINES}
use Rattle.trace_reader.specs.Lines.{with_fields, worded}
use Rattle.trace_reader.specs.Grammar.{AreShort, HasFewShortLines}
use Rattle.trace_reader.specs.Causes.{IsTooLong, LineCause, StandsAtLine}
use Rattle.trace_reader.specs.Outcomes.{IsOfLine}
use Rattle.trace_reader.specs.Reading.{list_of_option, read_from}
use Rattle.trace_reader.proofs.Inverses.{behind-ok, behind-err, fitted-ok, fitted-err}
use Rattle.trace_reader.proofs.LinesRead.{line-said, lines-end}
use Rattle.trace_reader.proofs.ToldLines.{read-next, read_behind}

abbrev FitsFrom : ℕ → List (List ℕ) → Type 0
FitsFrom number lines = (number + length lines ≤ suc MOST_LINES) × AreShort lines

module _ {S X : Type 0} (says : S → List (List ℕ) → Result (S × Option X) Kind)
    (Tells : S → List (List (List ℕ)) → List X → Type 0)
    (Cause : S → List (List (List ℕ)) → Kind → List (List ℕ) → Type 0) where
  -- fields and what lines behind them mean, from what all of them mean
  abbrev pub Parts : S → List (List ℕ) → List (List (List ℕ)) → List X → Type 0
  Parts state fields lines told = (next : S) × (said : Option X) × (later : List X)
      × (list_of_option said ++ later ≡ told) × (says state fields ≡ Ok (next, said)) × Tells next lines later

  -- one line is read as what its fields mean, or refused for its cause
  pub record Means : Type 0 where
    pub none : (state : S) → Tells state [] []
    pub nothing : (state : S) (told : List X) → Tells state [] told → told ≡ []
    pub more : (state next : S) (said : Option X) (fields : List (List ℕ)) (lines : List (List (List ℕ)))
        (later : List X) → says state fields ≡ Ok (next, said) → Tells next lines later →
        Tells state (with_fields fields lines) (list_of_option said ++ later)
    pub parts : (state : S) (fields : List (List ℕ)) (lines : List (List (List ℕ))) (told : List X) →
        Tells state (with_fields fields lines) told → Parts state fields lines told
    pub refused : (state : S) (fields : List (List ℕ)) (kind : Kind) → says state fields ≡ Err kind →
        (fields ≢ []) × Cause state [] kind fields
    pub later : (state next : S) (said : Option X) (fields : List (List ℕ)) (lines : List (List (List ℕ)))
        (kind : Kind) (at : List (List ℕ)) → says state fields ≡ Ok (next, said) → Cause next lines kind at →
        Cause state (with_fields fields lines) kind at
    pub no_read : (state : S) (fields : List (List ℕ)) → Cause state [] Read fields → ⊥
    pub no_memory : (state : S) (fields : List (List ℕ)) → Cause state [] NoMemory fields → ⊥

  -- ---- what is read stands

  found-from : Means → (lines : List (List ℕ)) (number : ℕ) (state : S) (told : List X) →
      number ≤ suc MOST_LINES → read_from says number state lines ≡ Ok told →
      FitsFrom number lines × Tells state (worded lines) told
  unfolding AreShort worded
  found-from m [] number state told few e =
      let none = lines-end says number state in
      let same : [] ≡ told = cc in
      ((omega arith, tt), subst (λ (w : List X). Tells state [] w) same (m.none state))
  found-from m (line ∷ lines) number state told few e =
      let o = fitted-ok number line (says state (fields_of line))
      (λ said. read_behind (list_of_option said.1) (read_from says (suc number) said.0 lines)) told
      (sym (read-next says number state line lines) ∙ e) in
      let next = o.1.0.0 in
      let said = o.1.0.1 in
      let b = behind-ok (list_of_option said) (read_from says (suc number) next lines) told o.1.2 in
      let r = found-from m lines (suc number) next b.0 (omega (arith, o.0.1)) b.1 in (
        (omega (arith, r.0.0), (o.0.0, r.0.1)),
        subst (λ (w : List X). Tells state (with_fields (fields_of line) (worded lines)) w) b.2
            (m.more state next said (fields_of line) (worded lines) b.0 o.1.1 r.1),
      )

  pub lines-found : Means → (first : S) (lines : List (List ℕ)) (told : List X) →
      read_from says 1 first lines ≡ Ok told → HasFewShortLines lines × Tells first (worded lines) told
  lines-found m first lines told e =
      let r = found-from m lines 1 first told (omega arith) e in ((omega (arith, r.0.0), r.0.1), r.1)

  -- ---- what stands is read

  only-from : Means → (lines : List (List ℕ)) (number : ℕ) (state : S) (told : List X) →
      FitsFrom number lines → Tells state (worded lines) told → read_from says number state lines ≡ Ok told
  unfolding AreShort worded
  only-from m [] number state told fits t = lines-end says number state ∙ ap Ok (sym (m.nothing state told t))
  only-from m (line ∷ lines) number state told fits t =
      let p = m.parts state (fields_of line) (worded lines) told t in
      line-said says number state p.0 line lines p.1 fits.1.0 (omega (arith, fits.0)) p.4
      ∙ ap (read_behind (list_of_option p.1)) (only-from m lines (suc number) p.0 p.2 (omega (arith, fits.0), fits.1.1)
      p.5)
      ∙ ap Ok p.3

  pub lines-only : Means → (first : S) (lines : List (List ℕ)) (told : List X) → HasFewShortLines lines →
      Tells first (worded lines) told → read_from says 1 first lines ≡ Ok told
  lines-only m first lines told fits t = only-from m lines 1 first told (omega (arith, fits.0), fits.1) t

  -- ---- a fault has its cause

  later-cause : Means → (state next : S) (said : Option X) (line : List ℕ) (before : List (List ℕ)) (kind : Kind)
      (number : ℕ) (at : List ℕ) → says state (fields_of line) ≡ Ok (next, said) →
      LineCause (Cause next (worded before)) kind number at →
      LineCause (Cause state (worded (line ∷ before))) kind number at
  unfolding worded
  later-cause m state next said line before kind number at e (inl long) = inl long
  later-cause m state next said line before kind number at e (inr cause) =
      inr (cause.0, m.later state next said (fields_of line) (worded before) kind (fields_of at) e cause.1)

  fault-from : Means → (lines : List (List ℕ)) (number : ℕ) (state : S) (fault : TraceError) →
      number ≤ suc MOST_LINES → read_from says number state lines ≡ Err fault →
      StandsAtLine number lines fault.line
      (λ before line. LineCause (Cause state (worded before)) fault.kind fault.line line)
  unfolding worded
  fault-from m [] number state fault few e = let none = lines-end says number state in absurd cc
  fault-from m (line ∷ lines) number state fault few e =
      elim (fitted-err number line (says state (fields_of line))
      (λ said. read_behind (list_of_option said.1) (read_from says (suc number) said.0 lines)) fault few
      (sym (read-next says number state line lines) ∙ e)) [
        | inl t ↦ (
          [],
          line,
          lines,
          refl,
          omega (arith, t.0),
          inl (t.1, subst (λ (k : ℕ). IsTooLong k line) (sym t.0) t.2),
        )
        | inr (inl t) ↦
            ([], line, lines, refl, omega (arith, t.0), inr (m.refused state (fields_of line) fault.kind t.1))
        | inr (inr t) ↦ let next = t.1.0.0 in let said = t.1.0.1 in
            let r = fault-from m lines (suc number) next fault (omega (arith, t.0))
            (behind-err (list_of_option said) (read_from says (suc number) next lines) fault t.1.2) in (
              line ∷ r.0,
              r.1,
              r.2,
              ap (λ (w : List (List ℕ)). line ∷ w) r.3,
              omega (arith, r.4),
              later-cause m state next said line r.0 fault.kind fault.line r.1 t.1.1 r.5,
            )
      ]

  pub lines-fault : Means → (first : S) (lines : List (List ℕ)) (fault : TraceError) →
      read_from says 1 first lines ≡ Err fault → StandsAtLine 1 lines fault.line
      (λ before line. LineCause (Cause first (worded before)) fault.kind fault.line line)
  lines-fault m first lines fault e = fault-from m lines 1 first fault (omega arith) e

  -- no line is refused for what befalls the whole text
  pub fault-of-line : Means → (state : S) (fields : List (List ℕ)) (fault : TraceError) → 0 < fault.line →
      says state fields ≡ Err fault.kind → IsOfLine fault
  fault-of-line m state fields fault some e =
      let h = (m.refused state fields fault.kind e).1 in (
        some,
        λ k. m.no_read state fields (subst (λ (w : Kind). Cause state [] w fields) k h),
        λ k. m.no_memory state fields (subst (λ (w : Kind). Cause state [] w fields) k h),
      )
