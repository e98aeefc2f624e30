-- What a line of records says, and why it is refused.
use Rattle.std.proofs.Common.{◌≡◌, ◌≢◌, ℕ, List, [], ◌∷◌, ◌++◌, Option, Some, None, refl, sym, ap, subst, ◌∙◌, inl, inr}
use Rattle.std.specs.Prelude.{Ok, Err, MatchOption}
use Rattle.physiological_order.specs.declared.operation.Record.{Record}
use Rattle.trace_lines.specs.declared.errors.Kind.{Kind}
use Rattle.trace_lines.specs.declared.errors.Kind.TheVariants.{Read, NoMemory}
use Rattle.trace_lines.specs.Causes.{RecordCause}
use Rattle.trace_lines.specs.Grammar.{IsRecordLine}
use Rattle.trace_lines.specs.Reading.{record_line_at}
use Rattle.trace_lines.proofs.Lemmas.{record-told, record-only, record-nothing}
use Rattle.trace_reader.specs.Lines.{with_fields}
use Rattle.trace_reader.specs.Grammar.{TellRecords}
use Rattle.trace_reader.specs.Reading.{list_of_option, record_said}
use Rattle.trace_reader.proofs.Inverses.{bind-err, bind-ok, ok-pair}
use Rattle.trace_reader.proofs.LinesMeant.{Means, Parts}

-- what lines say, and why one is refused, doesn't depend on those before
abbrev pub Tells : Unit {0} → List (List (List ℕ)) → List Record → Type 0
Tells state lines told = TellRecords lines told

abbrev pub Cause : Unit {0} → List (List (List ℕ)) → Kind → List (List ℕ) → Type 0
Cause state lines kind fields = RecordCause kind fields

-- ---- a record is what the line says

record-of : (fields : List (List ℕ)) (said : Unit {0} × Option Record) → record_said tt fields ≡ Ok said →
    record_line_at fields ≡ Ok said.1
record-of fields said e =
    let b = bind-ok (record_line_at fields) (λ told. Ok (tt, told)) said e in
    b.1 ∙ ap Ok (ok-pair (tt, b.0) said b.2).1

record-refused : (fields : List (List ℕ)) (kind : Kind) → record_said tt fields ≡ Err kind →
    record_line_at fields ≡ Err kind
record-refused fields kind e =
    elim (bind-err (record_line_at fields) (λ told. Ok (tt, told)) kind e) [
      | inl refused ↦ refused
      | inr said ↦ let no = said.2 in absurd cc
    ]

-- ---- what is read stands

says-more : (said : Option Record) (fields : List (List ℕ)) (lines : List (List (List ℕ))) (later : List Record) →
    MatchOption said (fields ≡ []) (λ read. IsRecordLine fields read) → TellRecords lines later →
    TellRecords (with_fields fields lines) (list_of_option said ++ later)
unfolding TellRecords
says-more None fields lines later m s =
    subst (λ (w : List (List ℕ)). TellRecords (with_fields w lines) later) (sym m) s
says-more (Some told) [] lines later m s = absurd m
says-more (Some told) (field ∷ fields) lines later m s = (m, s)

-- ---- what stands is read

said-again : (fields : List (List ℕ)) (said : Option Record) → record_line_at fields ≡ Ok said →
    record_said tt fields ≡ Ok (tt, said)
said-again fields said e = rw e refl

parts : (fields : List (List ℕ)) (lines : List (List (List ℕ))) (told : List Record) →
    TellRecords (with_fields fields lines) told → Parts record_said Tells Cause tt fields lines told
unfolding TellRecords
parts [] lines told s = (tt, None, told, refl, said-again [] None (record-nothing [] refl), s)
parts (field ∷ fields) lines [] s = absurd s
parts (field ∷ fields) lines (first ∷ later) s =
    let said = said-again (field ∷ fields) (Some first) (record-only (field ∷ fields) first s.0) in
    (tt, Some first, later, refl, said, s.1)

says-nothing : (told : List Record) → TellRecords [] told → told ≡ []
unfolding TellRecords
says-nothing [] s = refl
says-nothing (first ∷ later) s = absurd s

-- ---- a fault has its cause

said-refused : (fields : List (List ℕ)) (kind : Kind) → record_line_at fields ≡ Err kind →
    (fields ≢ []) × RecordCause kind fields
said-refused fields kind e = (
  λ none. let told = record-nothing fields none in absurd (cc (e, told)),
  (record-told fields (Err kind) (sym e)).1,
)

-- ---- no line is refused for what befalls the whole text

cause-no-read : (fields : List (List ℕ)) → RecordCause Read fields → ⊥
cause-no-read [] h = h
cause-no-read (field ∷ []) h = h.1
cause-no-read (field ∷ second ∷ fields) h = h.1.1

cause-no-memory : (fields : List (List ℕ)) → RecordCause NoMemory fields → ⊥
cause-no-memory [] h = h
cause-no-memory (field ∷ []) h = h.1
cause-no-memory (field ∷ second ∷ fields) h = h.1.1

says-none : TellRecords [] []
unfolding TellRecords
says-none = tt

pub records-meant : Means record_said Tells Cause
records-meant = record {
  none = λ state. says-none;
  nothing = λ state. says-nothing;
  more = λ state next said fields lines later e. says-more said fields lines later
      (record-told fields (Ok said) (sym (record-of fields (next, said) e))).0;
  parts = λ state. parts;
  refused = λ state fields kind e. said-refused fields kind (record-refused fields kind e);
  later = λ state next said fields lines kind at e cause. cause;
  no_read = λ state. cause-no-read;
  no_memory = λ state. cause-no-memory;
}
