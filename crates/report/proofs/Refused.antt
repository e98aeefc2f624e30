-- A text that is refused is no test.
use Rattle.std.proofs.Common.{◌≡◌, ◌≢◌, ℕ, ◌<◌, List, length, Option, Some, None, IfSome, Ok, Err}
use Rattle.std.proofs.Common.{ap, refl, sym, suc, ◌≤◌, nat_lt, replicate, Result, ◌∙◌, ⊎_elim}
use Rattle.std.proofs.lemmas.Bool.{cases_lt, cond-true, lt-ltb}
use Rattle.std.proofs.lemmas.List.{length-replicate}
use Rattle.std.proofs.Common.{subst, ◌⊎◌, inl, inr, arith}
use Rattle.byte_streams.specs.Whole.{ReadsAll}
use Rattle.litmus_lexer.specs.declared.errors.Kind.{Kind}
use Rattle.litmus_lexer.specs.declared.errors.Kind.TheVariants.{NoMemory as LackOfMemory, TooLarge, BadByte}
use Rattle.litmus_lexer.specs.declared.errors.Kind.TheVariants.{BadHeader, BadInitial, DoubleInitial, BadTable}
use Rattle.litmus_lexer.specs.declared.errors.Kind.TheVariants.{BadInstruction, ValueRange, MixedWidth}
use Rattle.litmus_lexer.specs.declared.errors.Kind.TheVariants.{AddressAsValue, ValueAsAddress, BadCondition, CutShort}
use Rattle.litmus_lexer.specs.declared.errors.LitmusError.{LitmusError}
use Rattle.litmus_lexer.specs.declared.limits.TheConstants.{MOST_BYTES}
use Rattle.litmus_reader.specs.Faults.{Fault, FaultBefore, good_lines, too_large}
use Rattle.litmus_reader.proofs.Lemmas.{some_of_test, some_before_block}
use Rattle.litmus_reader.specs.Grammar.{IsTest}
use Rattle.litmus_reader.specs.Litmus.{Litmus}
use Rattle.litmus_reader.specs.ReadingTest.{IsReadOrNoMemory, test_at}
use Rattle.litmus_reader.specs.TestViews.{test_of}
use Rattle.litmus_reader.specs.declared.contents.Test.{Test}
use Rattle.run_options.specs.declared.options.EndsOptions.{EndsOptions}
use Rattle.run_options.specs.declared.options.LitmusOptions.{LitmusOptions}
use Rattle.run_results.specs.declared.results.RunError.{RunError}
use Rattle.run_results.specs.declared.results.RunError.TheVariants.{Read, NoMemory, BadConfig}
use Rattle.run_results.specs.declared.results.RunError.TheVariants.{Litmus as Refused, TooManyStates}
use Rattle.report.specs.Bytes.{HasNoText, OfBytes}
use Rattle.report.specs.Ends.{HasNoEnds, HasNoEndsInMemory}
use Rattle.report.specs.Litmus.{HasNoReport, HasNoReportInMemory, HasNoTest, HasNoTestInMemory, IsLitmusFault}
use Rattle.report.specs.Litmus.{ReadingAllocates, litmus_refusal, litmus_refusal_of}

-- the kind of an answer's fault
abbrev kind_told : {X : Type 0} → Result X LitmusError → Kind → Kind
kind_told (Ok x) none = none
kind_told (Err e) none = e.kind

module _ (text : List ℕ) (error : LitmusError) where
  -- an answer of reading that isn't want of memory
  or_memory : (P : Type 0) → error.kind ≢ LackOfMemory → (error ≡ record { line = 0; kind = LackOfMemory }) ⊎ P → P
  or_memory P found (inl none) = absurd (found (ap (λ (e : LitmusError). e.kind) none))
  or_memory P found (inr is) = is

  refused_as : (kind : Kind) → (kind ≡ LackOfMemory → ReadingAllocates text) → (kind ≢ LackOfMemory → IsLitmusFault
      text error) →
      HasNoTestInMemory text (litmus_refusal_of kind error)
  refused_as LackOfMemory allocates is = allocates refl
  refused_as TooLarge allocates is = is (λ e. absurd cc)
  refused_as BadByte allocates is = is (λ e. absurd cc)
  refused_as BadHeader allocates is = is (λ e. absurd cc)
  refused_as BadInitial allocates is = is (λ e. absurd cc)
  refused_as DoubleInitial allocates is = is (λ e. absurd cc)
  refused_as BadTable allocates is = is (λ e. absurd cc)
  refused_as BadInstruction allocates is = is (λ e. absurd cc)
  refused_as ValueRange allocates is = is (λ e. absurd cc)
  refused_as MixedWidth allocates is = is (λ e. absurd cc)
  refused_as AddressAsValue allocates is = is (λ e. absurd cc)
  refused_as ValueAsAddress allocates is = is (λ e. absurd cc)
  refused_as BadCondition allocates is = is (λ e. absurd cc)
  refused_as CutShort allocates is = is (λ e. absurd cc)

  pub refused : (error ≡ record { line = 0; kind = LackOfMemory }) ⊎ Fault text error.kind error.line
      → ((test : Litmus) → IsTest text test → IsReadOrNoMemory test_of (Err error) (Ok test)) → IsReadOrNoMemory
      test_of (Err error)
      (test_at text) → ((kind : Kind) (n : ℕ) → FaultBefore (good_lines text) kind n →
      (error.kind ≢ LackOfMemory) × Fault text error.kind error.line)
      → (MOST_BYTES < length text → ◌≡◌ {A = Result Test LitmusError} (Err error)
      (Err (record { line = 1; kind = TooLarge }))) →
      HasNoTestInMemory text (litmus_refusal error)
  refused fault only told early large = refused_as error.kind allocates (λ found. (
    or_memory _ found told,
    (
      λ test is. let bad : Ok test ≡ Err error = or_memory _ found (only test is) in
          absurd cc,
      or_memory _ found fault,
    ),
    found,
  ))
    where
      -- too many bytes, or a fault before the initial block, are told without memory
      allocates : error.kind ≡ LackOfMemory → ReadingAllocates text
      allocates lacks = (
        ⊎_elim (λ more. let kinds : TooLarge ≡ LackOfMemory =
            sym (ap (λ (r : Result Test LitmusError). kind_told r LackOfMemory) (large more)) ∙ lacks in
            absurd cc)
            (λ (few : length text ≤ MOST_BYTES). few) (cases_lt MOST_BYTES (length text)),
        λ kind n before. (early kind n before).0 lacks,
      )

-- and no list of ends
no_ends : (options : EndsOptions) (text : List ℕ) (e : RunError) → HasNoTest text e → HasNoEnds options text e
no_ends options text (TooManyStates most enough) is = absurd is
no_ends options text e is = is

pub no_list : (options : EndsOptions) (text : List ℕ) (e : RunError) → HasNoTestInMemory text e →
    HasNoEndsInMemory options text e
no_list options text NoMemory allocates = inl allocates
no_list options text e is = no_ends options text e is

-- a list that a text in memory has none of
of_list : (options : EndsOptions) (text : List ℕ) (e : RunError) → HasNoEndsInMemory options text e →
    HasNoEnds options text e
of_list options text NoMemory is = ⊎_elim (λ allocates. some_before_block text allocates.1)
    (λ test. some_of_test text test.0 test.1) is
of_list options text e is = is

-- too many bytes are no test
refused_long : (text : List ℕ) → MOST_BYTES < length text →
    test_at text ≡ Err (record { line = 1; kind = TooLarge })
unfolding test_at
refused_long text long = cond-true (nat_lt MOST_BYTES (length text)) _ _ (lt-ltb MOST_BYTES (length text) long)

too_long : (text : List ℕ) → MOST_BYTES < length text → HasNoTest text (Refused (record { line = 1; kind = TooLarge }))
too_long text long = (
  refused_long text long,
  (λ test is. let few : length text ≤ MOST_BYTES = is.length_is in absurd (omega (arith, long, few)), too_large long),
  λ e. absurd cc,
)

-- of a source whose bytes aren't known there may be so many
many_bytes : (known : Option (List ℕ)) (n : ℕ) → IfSome known (λ bytes. n < length bytes) →
    OfBytes known (λ bytes. n < length bytes)
many_bytes None n more = (replicate (suc n) 0, tt, omega (arith, length-replicate {A = ℕ} (suc n) 0))
many_bytes (Some bytes) n more = (bytes, refl, more)

-- why there is no text is why there is no test
untold : (known : Option (List ℕ)) (before after : ℕ) (e : RunError) → HasNoText known before after e → e ≢ Read →
    OfBytes known (λ bytes. HasNoTest bytes e)
untold known before after Read is other = absurd (other refl)
untold known before after NoMemory is other = many_bytes known 0 is.1
untold known before after (Refused e) is other =
    let b = many_bytes known MOST_BYTES is.1.1 in
    (b.0, b.1, subst (λ e. HasNoTest b.0 (Refused e)) (sym is.1.0) (too_long b.0 b.2))
untold known before after e is other = absurd is

of_test : (options : LitmusOptions) (text : List ℕ) (e : RunError) → HasNoTest text e → HasNoReport options text e
of_test options text BadConfig is = absurd is
of_test options text e is = is

-- so there is no report
pub unread : (known : Option (List ℕ)) (options : LitmusOptions) (before after : ℕ) (e : RunError) →
    HasNoText known before after e → e ≢ Read → OfBytes known (λ bytes. HasNoReport options bytes e)
unread known options before after e is other =
    let b = untold known before after e is other in (b.0, b.1, of_test options b.0 e b.2)

-- and no list of ends
pub unlisted : (known : Option (List ℕ)) (options : EndsOptions) (before after : ℕ) (e : RunError) →
    HasNoText known before after e → e ≢ Read → OfBytes known (λ bytes. HasNoEnds options bytes e)
unlisted known options before after e is other =
    let b = untold known before after e is other in (b.0, b.1, no_ends options b.0 e b.2)

of_bytes : (options : LitmusOptions) (text : List ℕ) (e : RunError) → HasNoReportInMemory options text e →
    HasNoReport options text e
of_bytes options text NoMemory is = ⊎_elim (λ allocates. some_before_block text allocates.1)
    (λ run. some_of_test text run.0 run.1) is
of_bytes options text e is = is

-- and a fault speaks of those that were read
pub of_read : (P : List ℕ → Type 0) (known : Option (List ℕ)) (bytes text : List ℕ) → ReadsAll known bytes →
    text ≡ bytes → P text → OfBytes known P
of_read P known bytes text all same is = (bytes, all, subst P same is)

pub unreported : (known : Option (List ℕ)) (options : LitmusOptions) (bytes text : List ℕ) (e : RunError) →
    ReadsAll known bytes → text ≡ bytes → HasNoReportInMemory options text e →
    OfBytes known (λ b. HasNoReport options b e)
unreported known options bytes text e all same is =
    of_read (λ b. HasNoReport options b e) known bytes text all same (of_bytes options text e is)

pub unlisted_in_memory : (known : Option (List ℕ)) (options : EndsOptions) (bytes text : List ℕ) (e : RunError) →
    ReadsAll known bytes → text ≡ bytes → HasNoEndsInMemory options text e → OfBytes known (λ b. HasNoEnds options b e)
unlisted_in_memory known options bytes text e all same is =
    of_read (λ b. HasNoEnds options b e) known bytes text all same (of_list options text e is)
