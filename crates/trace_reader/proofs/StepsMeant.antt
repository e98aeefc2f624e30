-- What a line of a trace says, behind lines that declared a form or none, and why it is refused.
use Rattle.std.proofs.Common.{◌≡◌, ◌≢◌, ℕ, List, [], ◌∷◌, ◌++◌, Option, Some, None, refl, sym, subst, inl, inr, ◌⊎◌}
use Rattle.std.specs.Prelude.{Ok, Err, MatchOption}
use Rattle.trace_lines.specs.declared.errors.Kind.{Kind}
use Rattle.trace_lines.specs.declared.errors.Kind.TheVariants.{Read, NoMemory}
use Rattle.trace_lines.specs.declared.steps.Form.{Form}
use Rattle.trace_lines.specs.declared.steps.Form.TheVariants.{One, Two}
use Rattle.programs.specs.declared.steps.Step.{Step}
use Rattle.trace_lines.specs.Causes.{TraceCause}
use Rattle.trace_lines.specs.Grammar.{IsTraceLine, IsFormLine}
use Rattle.trace_lines.specs.Reading.{trace_line_at, form_line_at}
use Rattle.trace_lines.proofs.Lemmas.{trace-told, trace-only, trace-nothing, form-told, form-only, form-nothing}
use Rattle.trace_reader.specs.Lines.{with_fields}
use Rattle.trace_reader.specs.Grammar.{TellSteps, TellTrace}
use Rattle.trace_reader.specs.Causes.{FieldsCause}
use Rattle.trace_reader.specs.Reading.{list_of_option, step_said, form_said, said_at}
use Rattle.trace_reader.proofs.Inverses.{ok-pair, bind-ok, bind-err}
use Rattle.trace_reader.proofs.LinesMeant.{Means, Parts}

-- ---- one line

-- what fields mean behind lines that told this form or none: the form from there on, and a step
abbrev Meant : Option Form → List (List ℕ) → Option Form → Option (ℕ × Step) → Type 0
Meant (Some form) fields next said =
    (next ≡ Some form) × MatchOption said (fields ≡ []) (λ told. IsTraceLine form fields told.0 told.1)
Meant None fields next said = ((fields ≡ []) × (next ≡ None) × (said ≡ None))
    ⊎ ((IsFormLine fields One × (next ≡ Some One)) × ((told : ℕ × Step) × (said ≡ Some told)
    × IsTraceLine One fields told.0 told.1))
    ⊎ (IsFormLine fields Two × (next ≡ Some Two) × (said ≡ None))

step-meant : (form : Form) (fields : List (List ℕ)) (next : Option Form) (said : Option (ℕ × Step)) →
    step_said form fields ≡ Ok (next, said) → Meant (Some form) fields next said
step-meant form fields next said e =
    let b = bind-ok (trace_line_at form fields) (λ told. Ok (Some form, told)) (next, said) e in
    let same = ok-pair (Some form, b.0) (next, said) b.2 in (
      sym same.0,
      subst (λ (o : Option (ℕ × Step)). MatchOption o (fields ≡ [])
          (λ told. IsTraceLine form fields told.0 told.1)) same.1 (trace-told form fields (Ok b.0) (sym b.1)).0,
    )

-- a line that tells form 1 tells a step
one-meant : (fields : List (List ℕ)) (next : Option Form) (said : Option (ℕ × Step)) → IsFormLine fields One →
    Meant (Some One) fields next said → Meant None fields next said
one-meant [] next said h m = absurd h
one-meant (field ∷ fields) next None h m = let none : field ∷ fields ≡ [] = m.1 in absurd cc
one-meant (field ∷ fields) next (Some told) h m = inr (inl ((h, m.0), (told, refl, m.1)))

form-meant : (fields : List (List ℕ)) (told : Option Form) (next : Option Form) (said : Option (ℕ × Step)) →
    MatchOption told (fields ≡ []) (λ form. IsFormLine fields form) → form_said fields told ≡ Ok (next, said) →
    Meant None fields next said
form-meant fields None next said h e =
    let same = ok-pair (None, None) (next, said) e in inl (h, sym same.0, sym same.1)
form-meant fields (Some One) next said h e = one-meant fields next said h (step-meant One fields next said e)
form-meant fields (Some Two) next said h e =
    let same = ok-pair (Some Two, None) (next, said) e in inr (inr (h, sym same.0, sym same.1))

said-meant : (form : Option Form) (fields : List (List ℕ)) (next : Option Form) (said : Option (ℕ × Step)) →
    said_at form fields ≡ Ok (next, said) → Meant form fields next said
unfolding said_at
said-meant (Some form) fields next said e = step-meant form fields next said e
said-meant None fields next said e =
    let b = bind-ok (form_line_at fields) (form_said fields) (next, said) e in
    form-meant fields b.0 next said (form-told fields (Ok b.0) (sym b.1)).0 b.2

-- why a line is refused, if no line with fields stands before it
step-refused : (form : Form) (fields : List (List ℕ)) (kind : Kind) → step_said form fields ≡ Err kind →
    (fields ≢ []) × TraceCause form kind fields
step-refused form fields kind e =
    elim (bind-err (trace_line_at form fields) (λ told. Ok (Some form, told)) kind e) [
      | inl r ↦ (
        λ none. let told = trace-nothing form fields none in absurd (cc (r, told)),
        (trace-told form fields (Err kind) (sym r)).1,
      )
      | inr r ↦ absurd (cc r.2)
    ]

form-refused : (fields : List (List ℕ)) (told : Option Form) (kind : Kind) →
    MatchOption told (fields ≡ []) (λ form. IsFormLine fields form) → form_said fields told ≡ Err kind →
    (fields ≢ []) × FieldsCause None [] kind fields
form-refused fields None kind h e = absurd cc
form-refused fields (Some One) kind h e = let r = step-refused One fields kind e in (r.0, inr (h, r.1))
form-refused fields (Some Two) kind h e = absurd cc

said-refused : (form : Option Form) (fields : List (List ℕ)) (kind : Kind) → said_at form fields ≡ Err kind →
    (fields ≢ []) × FieldsCause form [] kind fields
unfolding said_at
said-refused (Some form) fields kind e = step-refused form fields kind e
said-refused None fields kind e =
    elim (bind-err (form_line_at fields) (form_said fields) kind e) [
      | inl r ↦ (
        λ none. let told = form-nothing fields none in absurd (cc (r, told)),
        inl (form-told fields (Err kind) (sym r)).1,
      )
      | inr r ↦ form-refused fields r.0 kind (form-told fields (Ok r.0) (sym r.1)).0 r.2
    ]

-- ---- all lines

abbrev pub SaysFrom : Option Form → List (List (List ℕ)) → List (ℕ × Step) → Type 0
SaysFrom (Some form) lines told = TellSteps form lines told
SaysFrom None lines told = TellTrace lines told

says-more : (form next : Option Form) (said : Option (ℕ × Step)) (fields : List (List ℕ)) (lines : List (List (List
    ℕ)))
    (later : List (ℕ × Step)) → Meant form fields next said → SaysFrom next lines later →
    SaysFrom form (with_fields fields lines) (list_of_option said ++ later)
unfolding TellSteps
says-more (Some form) next None fields lines later m s =
    let h : SaysFrom (Some form) lines later = subst (λ (o : Option Form). SaysFrom o lines later) m.0 s in
    subst (λ (w : List (List ℕ)). TellSteps form (with_fields w lines) later) (sym m.1) h
says-more (Some form) next (Some told) [] lines later m s = absurd m.1
says-more (Some form) next (Some told) (field ∷ fields) lines later m s =
    let h : SaysFrom (Some form) lines later = subst (λ (o : Option Form). SaysFrom o lines later) m.0 s in (m.1, h)
says-more None next said fields lines later (inl m) s =
    let h : SaysFrom None lines later = subst (λ (o : Option Form). SaysFrom o lines later) m.1 s in
    rw (m.0, m.2) h
says-more None next said [] lines later (inr (inl m)) s = absurd m.0.0
says-more None next said (field ∷ fields) lines later (inr (inl m)) s =
    let h : SaysFrom (Some One) lines later = subst (λ (o : Option Form). SaysFrom o lines later) m.0.1 s in
    rw m.1.1 (inl (m.0.0, (m.1.2, h)))
says-more None next said [] lines later (inr (inr m)) s = absurd m.0
says-more None next said (field ∷ fields) lines later (inr (inr m)) s =
    let h : SaysFrom (Some Two) lines later = subst (λ (o : Option Form). SaysFrom o lines later) m.1 s in
    rw m.2 (inr (m.0, h))

says-none : (form : Option Form) → SaysFrom form [] []
unfolding TellSteps
says-none None = refl
says-none (Some form) = tt

-- ---- what stands is read

step-again : (form : Form) (fields : List (List ℕ)) (said : Option (ℕ × Step)) →
    trace_line_at form fields ≡ Ok said → step_said form fields ≡ Ok (Some form, said)
step-again form fields said e = rw e refl

parts-form : (form : Form) (fields : List (List ℕ)) (lines : List (List (List ℕ))) (told : List (ℕ × Step)) →
    TellSteps form (with_fields fields lines) told →
    Parts said_at SaysFrom FieldsCause (Some form) fields lines told
unfolding TellSteps said_at
parts-form form [] lines told s =
    (Some form, None, told, refl, step-again form [] None (trace-nothing form [] refl), s)
parts-form form (field ∷ fields) lines [] s = absurd s
parts-form form (field ∷ fields) lines (first ∷ later) s = (
  Some form,
  Some first,
  later,
  refl,
  step-again form (field ∷ fields) (Some first) (trace-only form (field ∷ fields) first.0 first.1 s.0),
  s.1,
)

parts-none : (fields : List (List ℕ)) (lines : List (List (List ℕ))) (told : List (ℕ × Step)) →
    TellTrace (with_fields fields lines) told →
    Parts said_at SaysFrom FieldsCause None fields lines told
unfolding TellSteps said_at
parts-none [] lines told s =
    (None, None, told, refl, rw (form-nothing [] refl) refl, s)
parts-none (field ∷ fields) lines [] (inl s) = absurd s.1
parts-none (field ∷ fields) lines (first ∷ later) (inl s) = (
  Some One,
  Some first,
  later,
  refl,
  rw (form-only (field ∷ fields) One s.0, trace-only One (field ∷ fields) first.0 first.1 s.1.0) refl,
  s.1.1,
)
parts-none (field ∷ fields) lines told (inr s) =
    (Some Two, None, told, refl, rw (form-only (field ∷ fields) Two s.0) refl, s.1)

parts : (form : Option Form) (fields : List (List ℕ)) (lines : List (List (List ℕ))) (told : List (ℕ × Step)) →
    SaysFrom form (with_fields fields lines) told →
    Parts said_at SaysFrom FieldsCause form fields lines told
parts None fields lines told s = parts-none fields lines told s
parts (Some form) fields lines told s = parts-form form fields lines told s

says-nothing : (form : Option Form) (told : List (ℕ × Step)) → SaysFrom form [] told → told ≡ []
unfolding TellSteps
says-nothing None told s = s
says-nothing (Some form) [] s = refl
says-nothing (Some form) (first ∷ later) s = absurd s

-- ---- a fault has its cause

cause-more : (form next : Option Form) (said : Option (ℕ × Step)) (fields : List (List ℕ))
    (lines : List (List (List ℕ))) (kind : Kind) (at : List (List ℕ)) → Meant form fields next said →
    FieldsCause next lines kind at → FieldsCause form (with_fields fields lines) kind at
cause-more (Some form) next said fields lines kind at m s =
    subst (λ (o : Option Form). FieldsCause o lines kind at) m.0 s
cause-more None next said fields lines kind at (inl m) s =
    let h : FieldsCause None lines kind at = subst (λ (o : Option Form). FieldsCause o lines kind at) m.1 s in rw m.0 h
cause-more None next said [] lines kind at (inr (inl m)) s = absurd m.0.0
cause-more None next said (field ∷ fields) lines kind at (inr (inl m)) s =
    let h : FieldsCause (Some One) lines kind at =
    subst (λ (o : Option Form). FieldsCause o lines kind at) m.0.1 s in (One, m.0.0, h)
cause-more None next said [] lines kind at (inr (inr m)) s = absurd m.0
cause-more None next said (field ∷ fields) lines kind at (inr (inr m)) s =
    let h : FieldsCause (Some Two) lines kind at =
    subst (λ (o : Option Form). FieldsCause o lines kind at) m.1 s in (Two, m.0, h)

-- ---- no line is refused for what befalls the whole text

trace-no-read : (form : Form) (fields : List (List ℕ)) → TraceCause form Read fields → ⊥
trace-no-read form [] h = h
trace-no-read form (field ∷ fields) h = h.1

trace-no-memory : (form : Form) (fields : List (List ℕ)) → TraceCause form NoMemory fields → ⊥
trace-no-memory form [] h = h
trace-no-memory form (field ∷ fields) h = h.1

cause-no-read : (form : Option Form) (fields : List (List ℕ)) → FieldsCause form [] Read fields → ⊥
cause-no-read (Some form) fields h = trace-no-read form fields h
cause-no-read None fields (inl h) = h
cause-no-read None fields (inr h) = trace-no-read One fields h.1

cause-no-memory : (form : Option Form) (fields : List (List ℕ)) → FieldsCause form [] NoMemory fields → ⊥
cause-no-memory (Some form) fields h = trace-no-memory form fields h
cause-no-memory None fields (inl h) = h
cause-no-memory None fields (inr h) = trace-no-memory One fields h.1

pub steps-meant : Means said_at SaysFrom FieldsCause
steps-meant = record {
  none = says-none;
  nothing = says-nothing;
  more = λ form next said fields lines later e. says-more form next said fields lines later
      (said-meant form fields next said e);
  parts = parts;
  refused = said-refused;
  later = λ form next said fields lines kind at e. cause-more form next said fields lines kind at
      (said-meant form fields next said e);
  no_read = cause-no-read;
  no_memory = cause-no-memory;
}
