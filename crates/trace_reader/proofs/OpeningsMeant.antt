-- What a line of an opening says, behind lines that opened words, and why it is refused.
use Rattle.std.proofs.Common.{◌≡◌, ◌≢◌, ◌<◌, ℕ, List, [], ◌∷◌, ◌++◌, Option, Some, None, refl, sym, ap, subst, ◌∙◌}
use Rattle.std.proofs.Common.{arith, inl, inr, ◌⊎◌}
use Rattle.std.specs.Prelude.{Ok, Err, IsSome, MatchOption}
use Rattle.std.specs.FinMap.{FinMap, empty, get, insert}
use Rattle.std.specs.Ordering.{nat_cmp}
use Rattle.trace_lines.specs.declared.errors.Kind.{Kind}
use Rattle.trace_lines.specs.declared.errors.Kind.TheVariants.{DoubleWord, NoMemory}
use Rattle.trace_lines.specs.declared.errors.TraceError.{TraceError}
use Rattle.text_lines.specs.Reading.{◌>>=◌}
use Rattle.trace_lines.specs.Causes.{OpeningCause}
use Rattle.trace_lines.specs.Grammar.{IsOpeningLine}
use Rattle.trace_lines.specs.Reading.{opening_line_at}
use Rattle.trace_lines.proofs.Lemmas.{opening-told, opening-only, opening-nothing}
use Rattle.trace_reader.specs.Lines.{with_fields}
use Rattle.trace_reader.specs.Grammar.{TellOpening}
use Rattle.trace_reader.specs.Causes.{OpeningFieldsCause}
use Rattle.trace_reader.specs.Openings.{AreOpened, opened}
use Rattle.trace_reader.specs.Outcomes.{whole, IsOfLine}
use Rattle.trace_reader.specs.Reading.{joined, list_of_option, opened_once, opening_said}
use Rattle.trace_reader.proofs.Inverses.{bind-err, bind-ok, ok-pair}
use Rattle.trace_reader.proofs.LinesMeant.{Means, Parts, fault-of-line}

abbrev Words : Type 0
Words = FinMap nat_cmp ℕ

-- ---- the words that were opened

opened-append : (words : Words) (told later : List (ℕ × ℕ)) →
    opened words (told ++ later) ≡ opened (opened words told) later
opened-append words [] later = refl
opened-append words (one ∷ told) later = opened-append (insert words one.0 one.1) told later

pub opened-unique : (told : List (ℕ × ℕ)) (one other : Words) → AreOpened told one → AreOpened told other → one ≡ other
opened-unique told one other s t = s ∙ sym t

-- ---- one line

-- what fields mean behind lines that opened these words
abbrev Meant : Words → List (List ℕ) → Words → Option (ℕ × ℕ) → Type 0
Meant words fields next None = (fields ≡ []) × (next ≡ words)
Meant words fields next (Some told) =
    IsOpeningLine fields told × (get words told.0 ≡ None) × (next ≡ insert words told.0 told.1)

once-meant : (words : Words) (told : ℕ × ℕ) (o : Option ℕ) (fields : List (List ℕ)) (next : Words)
    (said : Option (ℕ × ℕ)) → get words told.0 ≡ o → IsOpeningLine fields told →
    opened_once words told o ≡ Ok (next, said) → Meant words fields next said
once-meant words told None fields next said g h e =
    let same = ok-pair (insert words told.0 told.1, Some told) (next, said) e in
    subst (Meant words fields next) same.1 (h, g, sym same.0)
once-meant words told (Some value) fields next said g h e = absurd cc

joined-meant : (words : Words) (o : Option (ℕ × ℕ)) (fields : List (List ℕ)) (next : Words)
    (said : Option (ℕ × ℕ)) → MatchOption o (fields ≡ []) (λ told. IsOpeningLine fields told) →
    joined words o ≡ Ok (next, said) → Meant words fields next said
joined-meant words None fields next said h e =
    let same = ok-pair (words, None) (next, said) e in subst (Meant words fields next) same.1 (h, sym same.0)
joined-meant words (Some told) fields next said h e = once-meant words told (get words told.0) fields next said refl h e

said-meant : (words : Words) (fields : List (List ℕ)) (next : Words) (said : Option (ℕ × ℕ)) →
    opening_said words fields ≡ Ok (next, said) → Meant words fields next said
said-meant words fields next said e =
    let b = bind-ok (opening_line_at fields) (joined words) (next, said) e in
    joined-meant words b.0 fields next said (opening-told fields (Ok b.0) (sym b.1)).0 b.2

next-opened : (words : Words) (fields : List (List ℕ)) (next : Words) (said : Option (ℕ × ℕ)) →
    Meant words fields next said → next ≡ opened words (list_of_option said)
next-opened words fields next None m = m.1
next-opened words fields next (Some told) m = m.2

-- the words of a line beside those of the lines before it
pub opened-more : (told : List (ℕ × ℕ)) (words : Words) (fields : List (List ℕ)) (next : Words)
    (said : Option (ℕ × ℕ)) → AreOpened told words → opening_said words fields ≡ Ok (next, said) →
    AreOpened (told ++ list_of_option said) next
opened-more told words fields next said h e =
    next-opened words fields next said (said-meant words fields next said e)
    ∙ ap (λ w. opened w (list_of_option said)) h ∙ sym (opened-append empty told (list_of_option said))

-- ---- what is read stands

says-none : (words : Words) → TellOpening words [] []
unfolding TellOpening
says-none words = tt

says-more : (words next : Words) (said : Option (ℕ × ℕ)) (fields : List (List ℕ)) (lines : List (List (List ℕ)))
    (later : List (ℕ × ℕ)) → Meant words fields next said → TellOpening next lines later →
    TellOpening words (with_fields fields lines) (list_of_option said ++ later)
unfolding TellOpening
says-more words next None fields lines later m t =
    let h = subst (λ (w : Words). TellOpening w lines later) m.1 t in
    subst (λ (w : List (List ℕ)). TellOpening words (with_fields w lines) later) (sym m.0) h
says-more words next (Some told) [] lines later m t = absurd m.0
says-more words next (Some told) (field ∷ fields) lines later m t =
    (m.0, m.1, subst (λ (w : Words). TellOpening w lines later) m.2 t)

-- ---- what stands is read

pub said-none : (words : Words) (fields : List (List ℕ)) → opening_line_at fields ≡ Ok None →
    opening_said words fields ≡ Ok (words, None)
said-none words fields e = rw e refl

said-some : (words : Words) (fields : List (List ℕ)) (told : ℕ × ℕ) → opening_line_at fields ≡ Ok (Some told) →
    get words told.0 ≡ None → opening_said words fields ≡ Ok (insert words told.0 told.1, Some told)
said-some words fields told e g = rw (e, g) refl

parts : (words : Words) (fields : List (List ℕ)) (lines : List (List (List ℕ))) (told : List (ℕ × ℕ)) →
    TellOpening words (with_fields fields lines) told →
    Parts opening_said TellOpening OpeningFieldsCause words fields lines told
unfolding TellOpening
parts words [] lines told t = (words, None, told, refl, said-none words [] (opening-nothing [] refl), t)
parts words (field ∷ fields) lines [] t = absurd t
parts words (field ∷ fields) lines (first ∷ later) t = (
  insert words first.0 first.1,
  Some first,
  later,
  refl,
  said-some words (field ∷ fields) first (opening-only (field ∷ fields) first t.0) t.1,
  t.2,
)

says-nothing : (words : Words) (told : List (ℕ × ℕ)) → TellOpening words [] told → told ≡ []
unfolding TellOpening
says-nothing words [] t = refl
says-nothing words (first ∷ later) t = absurd t

-- ---- a fault has its cause

some-fields : (fields : List (List ℕ)) (told : ℕ × ℕ) → IsOpeningLine fields told → fields ≢ []
some-fields [] told h = absurd h
some-fields (field ∷ fields) told h = λ none. absurd cc

once-refused : (words : Words) (told : ℕ × ℕ) (o : Option ℕ) (kind : Kind) → opened_once words told o ≡ Err kind →
    (kind ≡ DoubleWord) × IsSome o
once-refused words told None kind e = absurd cc
once-refused words told (Some value) kind e = (cc, refl)

joined-refused : (words : Words) (o : Option (ℕ × ℕ)) (fields : List (List ℕ)) (kind : Kind) →
    MatchOption o (fields ≡ []) (λ told. IsOpeningLine fields told) → joined words o ≡ Err kind →
    (fields ≢ []) × OpeningFieldsCause words [] kind fields
joined-refused words None fields kind h e = absurd cc
joined-refused words (Some told) fields kind h e =
    let r = once-refused words told (get words told.0) kind e in (
      some-fields fields told h,
      subst (λ (k : Kind). OpeningFieldsCause words [] k fields) (sym r.0) (told, h, ([], says-none words, r.1)),
    )

line-cause : (words : Words) (kind : Kind) (fields : List (List ℕ)) → OpeningCause kind fields →
    OpeningFieldsCause words [] kind fields
line-cause words DoubleWord fields h = absurd h
line-cause words kind fields h = h

said-refused : (words : Words) (fields : List (List ℕ)) (kind : Kind) → opening_said words fields ≡ Err kind →
    (fields ≢ []) × OpeningFieldsCause words [] kind fields
said-refused words fields kind e =
    elim (bind-err (opening_line_at fields) (joined words) kind e) [
      | inl r ↦ (
        λ none. let told = opening-nothing fields none in absurd (cc (r, told)),
        line-cause words kind fields (opening-told fields (Err kind) (sym r)).1,
      )
      | inr r ↦ joined-refused words r.0 fields kind (opening-told fields (Ok r.0) (sym r.1)).0 r.2
    ]

cause-more : (words next : Words) (said : Option (ℕ × ℕ)) (fields : List (List ℕ)) (lines : List (List (List ℕ)))
    (kind : Kind) (at : List (List ℕ)) → Meant words fields next said → OpeningFieldsCause next lines kind at →
    OpeningFieldsCause words (with_fields fields lines) kind at
cause-more words next said fields lines DoubleWord at m h =
    let same : opened next h.2.0 ≡ opened words (list_of_option said ++ h.2.0) =
    ap (λ w. opened w h.2.0) (next-opened words fields next said m)
    ∙ sym (opened-append words (list_of_option said) h.2.0) in (
      h.0,
      h.1,
      (
        list_of_option said ++ h.2.0,
        says-more words next said fields lines h.2.0 m h.2.1,
        subst (λ (w : Words). IsSome (get w h.0.0)) same h.2.2,
      ),
    )
cause-more words next said fields lines kind at m h = h

pub opening-meant : Means opening_said TellOpening OpeningFieldsCause
opening-meant = record {
  none = says-none;
  nothing = says-nothing;
  more = λ words next said fields lines later e. says-more words next said fields lines later
      (said-meant words fields next said e);
  parts = parts;
  refused = said-refused;
  later = λ words next said fields lines kind at e. cause-more words next said fields lines kind at
      (said-meant words fields next said e);
  no_read = λ words fields h. h;
  no_memory = λ words fields h. h;
}

-- why a word that a line says isn't kept
pub word-fault : (words : Words) (fields : List (List ℕ)) (number : ℕ) (told : ℕ × ℕ) (e : TraceError) → 0 < number →
    opening_line_at fields ≡ Ok (Some told) → ((e ≡ whole NoMemory) × (get words told.0 ≡ None))
    ⊎ ((e.line ≡ number) × (opened_once words told (get words told.0) ≡ Err e.kind)) →
    ((e ≡ whole NoMemory) × ((next : Words) × (one : ℕ × ℕ) × (opening_said words fields ≡ Ok (next, Some one))))
    ⊎ (IsOfLine e × (e.line ≡ number) × (opening_said words fields ≡ Err e.kind))
word-fault words fields number told e some said (inl f) =
    inl (f.0, (insert words told.0 told.1, told, said-some words fields told said f.1))
word-fault words fields number told e some said (inr f) =
    let refused = ap (λ r. r >>= joined words) said ∙ f.1 in
    let of_line = fault-of-line opening_said TellOpening OpeningFieldsCause opening-meant words fields e
    (omega (arith, some, f.0)) refused in inr (of_line, f.0, refused)
