-- A fault of a text has its kind's cause in its line.
use Rattle.std.proofs.Common.{◌≡◌, ◌≢◌, ℕ, ◌≤◌, Bool, true, false, ltb, List, [], length}
use Rattle.std.proofs.Common.{Result, Ok, Err, refl, sym, ap, subst, inl, inr, arith}
use Rattle.std.specs.Prelude.{◌⊎◌, IfErr}
use Rattle.std.proofs.lemmas.Bool.{cond_both, ltb-true, ltb-false, both_ways}
use Rattle.litmus_lexer.specs.Pieces.{Piece}
use Rattle.litmus_lexer.specs.declared.errors.Kind.{Kind}
use Rattle.litmus_lexer.specs.declared.errors.Kind.TheVariants.{NoMemory, TooLarge, CutShort}
use Rattle.litmus_lexer.specs.declared.errors.LitmusError.{LitmusError}
use Rattle.litmus_lexer.specs.declared.errors.ReadError.{ReadError}
use Rattle.litmus_lexer.specs.declared.errors.ReadError.TheVariants.{Memory, Fault as ReadFault}
use Rattle.litmus_lexer.specs.Reading.{Fails, Read, fault_at}
use Rattle.piece_forms.specs.Forms.{Stands}
use Rattle.piece_forms.specs.Faults.{HasSame}
use Rattle.piece_forms.specs.Reading.{reads}
use Rattle.piece_forms.proofs.Lemmas.{takes, explains}
use Rattle.litmus_parser.specs.Extents.{reach}
use Rattle.litmus_parser.specs.Header.{text_pieces, preamble, TakesNoMemory}
use Rattle.litmus_reader.specs.Litmus.{Litmus}
use Rattle.litmus_reader.specs.TestViews.{test_of}
use Rattle.litmus_reader.specs.Grammar.{whole_test}
use Rattle.litmus_reader.specs.ReadingTest.{is_cut_short, ended_by, test_at, IsReadOrNoMemory}
use Rattle.litmus_reader.specs.Faults.{FaultBefore, FaultIn, good_lines, Fault, too_large, in_part, bad_byte}
use Rattle.litmus_reader.specs.Faults.{cut_short}
use Rattle.litmus_reader.specs.declared.contents.Test.{Test}
use Rattle.litmus_reader.proofs.Reaching.{reaches, good-allowed, good-within}
use Rattle.litmus_reader.proofs.Found.{whole_takes}

cut_is : (kind : Kind) → is_cut_short kind ≡ true → kind ≡ CutShort
cut_is CutShort e = refl
cut_is _ e = absurd cc

cut_isn't : (kind : Kind) → is_cut_short kind ≡ false → kind ≢ CutShort
cut_isn't kind e same = both_ways (is_cut_short kind) e (ap is_cut_short same)

abbrev Has : List ℕ → LitmusError → Type 0
Has text e = Fault text e.kind e.line

module _ (text : List ℕ) (le : length text ≤ 65536) where
  end_short : (n : ℕ) → FaultIn (good_lines text) CutShort n → Has text (reach text).1
  end_short n fault =
      elim (reaches text) [
        | inl h ↦ subst (Has text) (sym h.2)
            (cut_short le h.0 (subst (λ (t : List ℕ). FaultIn t CutShort n) h.1 fault))
        | inr h ↦ subst (Has text) (sym h.2) (bad_byte le h.0 (inr (n, fault)))
      ]

  end_behind : (x : Litmus × ℕ × List Piece) → reads whole_test 1 (text_pieces (good_lines text) []) ≡ Ok x →
      is_cut_short (reach text).1.kind ≡ false → Has text (reach text).1
  end_behind x is other =
      elim (reaches text) [
        | inl h ↦ absurd (both_ways (is_cut_short (reach text).1.kind) other
            (ap (λ (e : LitmusError). is_cut_short e.kind) h.2))
        | inr h ↦ subst (Has text) (sym h.2) (bad_byte le h.0 (inl (
          x.0,
          whole_takes (good_lines text) x
              (omega (arith, le, good-within text)) (good-allowed text) is,
        )))
      ]

  -- where the text ends too early the fault of its end is told, and so is a byte that isn't allowed after a whole test
  ended : (r : Read Litmus) → reads whole_test 1 (text_pieces (good_lines text) []) ≡ r → (e : LitmusError) →
      ended_by (reach text).1 r ≡ Err e → Has text e
  ended (Ok x) read e is =
      cond_both (is_cut_short (reach text).1.kind) _ _ (λ (v : Result Litmus LitmusError). v ≡ Err e → Has text e)
      (λ _ s. absurd cc)
      (λ other s. let same : (reach text).1 ≡ e = cc in subst (Has text) same (end_behind x read other)) is
  ended (Err fault) read e is =
      let why = explains whole_test 1 (text_pieces (good_lines text) []) fault read in
      cond_both (is_cut_short fault.kind) _ _ (λ (v : Result Litmus LitmusError). v ≡ Err e → Has text e)
      (λ short s. let same : (reach text).1 ≡ e = cc in subst (Has text) same (end_short fault.line
      (subst (λ (kind : Kind). FaultIn (good_lines text) kind fault.line) (cut_is fault.kind short) why)))
      (λ other s. let same : fault ≡ e = cc in
      subst (Has text) same (in_part le why (cut_isn't fault.kind other))) is

pub read_explains : (text : List ℕ) (e : LitmusError) → test_at text ≡ Err e → Has text e
unfolding test_at
read_explains text e is =
    cond_both (ltb 65536 (length text)) _ _ (λ (v : Result Litmus LitmusError). v ≡ Err e → Has text e)
    (λ more s. let same : fault_at TooLarge 1 ≡ e = cc in subst (Has text) same (too_large (ltb-true _ _ more)))
    (λ few s. ended text (ltb-false _ _ few) (reads whole_test 1 (text_pieces (good_lines text) [])) refl e s) is

pub fault-told : (text : List ℕ) (r : Result Test LitmusError) → IsReadOrNoMemory test_of r (test_at text) →
    IfErr r (λ e. (e ≡ record { line = 0; kind = NoMemory }) ⊎ Fault text e.kind e.line)
fault-told text (Ok test) h = tt
fault-told text (Err e) (inl memory) = inl memory
fault-told text (Err e) (inr fault) = inr (read_explains text e fault)

-- ---- a fault before the initial block

-- a reading that takes no memory fails with the text's fault
pub no-memory : {X : Type 0} (e : ReadError) (read : Result X LitmusError) → Fails e read → TakesNoMemory e →
    (fault : LitmusError) → read ≡ Err fault → (e ≡ ReadFault fault) × (fault.kind ≢ NoMemory)
no-memory Memory read h sure fault is = absurd sure
no-memory (ReadFault d) read h sure fault is =
    let same : d ≡ fault = cc in (ap ReadFault same, subst (λ (f : LitmusError). f.kind ≢ NoMemory) same sure)

-- where a form has a cause of a fault, it isn't read
refused : (text : List ℕ) (kind : Kind) (n : ℕ) → FaultBefore text kind n → (r : Read (List ℕ)) →
    reads preamble 1 (text_pieces text []) ≡ r → (e : LitmusError) × (r ≡ Err e)
refused text kind n cause (Err e) is = (e, refl)
refused text kind n cause (Ok x) is =
    absurd (cause.no_way cause.there (same cause.all) x.0 x.1 x.2
    (subst (λ (ps : List Piece). Stands preamble 1 ps x.0 x.1 x.2) cause.split
    (takes preamble 1 (text_pieces text []) x is)))
  where
    same : (all : Bool) → HasSame all cause.there cause.there
    same true = refl
    same false = refl

-- it is told, and never that memory ran out
pub early-told : (text : List ℕ) (r : Result Test LitmusError) → IsReadOrNoMemory test_of r (test_at text) →
    ((e : LitmusError) → reads preamble 1 (text_pieces (good_lines text) []) ≡ Err e →
    IfErr r (λ f. f.kind ≢ NoMemory)) → (kind : Kind) (n : ℕ) → FaultBefore (good_lines text) kind n →
    IfErr r (λ e. (e.kind ≢ NoMemory) × Fault text e.kind e.line)
early-told text (Ok test) told early kind n cause = tt
early-told text (Err e) told early kind n cause =
    let why = refused (good_lines text) kind n cause (reads preamble 1 (text_pieces (good_lines text) [])) refl in
    let other = early why.0 why.1 in (
      other,
      elim told [
        | inl memory ↦ absurd (other (ap (λ (f : LitmusError). f.kind) memory))
        | inr is ↦ read_explains text e is
      ],
    )
