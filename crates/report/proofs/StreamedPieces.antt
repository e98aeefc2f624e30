-- From one piece of a run to the next and to its end, and why a piece was refused.
use Rattle.std.proofs.Common.{◌≡◌, ◌≤◌, ◌<◌, ◌⊎◌, ℕ, true, List, [], ◌∷◌, ◌++◌}
use Rattle.std.proofs.Common.{Option, Some, None, IfSome, refl, sym, ap, subst, ◌∙◌, arith, inl, inr}
use Rattle.std.proofs.lemmas.List.{append-nil}
use Rattle.std.proofs.lemmas.Option.{same_Some}
use Rattle.programs.specs.declared.steps.Step.{Step}
use Rattle.run_options.specs.declared.options.StreamOptions.{StreamOptions}
use Rattle.streamed_runs.specs.StreamStates.{HasEnded, IsAllRead, IsGoing, IsSameRun, StreamState}
use Rattle.trace_reader.specs.declared.read_ahead.AheadError.{AheadError}
use Rattle.trace_reader.specs.declared.read_ahead.AheadError.TheVariants as ahead
use Rattle.trace_reader.specs.declared.step_streams.StepStream.{StepStream}
use Rattle.trace_reader.specs.Filling.{ComesFirst, Stops, unnumbered}
use Rattle.trace_reader.specs.Reading.{behind}
use Rattle.trace_reader.specs.Steps.{cores_of}
use Rattle.trace_reader.specs.Streams.{StepsTold, OnlyFault, Yields, coming, coming_of, steps_told, where_known}
use Rattle.trace_reader.proofs.Lemmas.{cores-append, yields-more}
use Rattle.worker_driver.specs.declared.set_up.Driver.TheVariants.{ByPolicy}
use Rattle.report.specs.Refusals.{IsUnread, refusal}
use Rattle.report.specs.StreamParts.{HasRun, IsRunning, ahead_refusal, text_told}
use Rattle.report.specs.Streams.{HasFault, IsPastCores, IsReadSoFar, IsReadWhole, IsStreamFault}
use Rattle.report.proofs.Unread.{fault_told}

abbrev Bytes : Type 0
Bytes = Option (List ℕ)

abbrev Steps : Type 0
Steps = List (ℕ × (ℕ × Step))

-- ---- what a text tells whose bytes are known

-- all of it, before any step is taken
pub text_comes : (s : StepStream) (known : Bytes) →
    ((bytes : List ℕ) → coming s (Some bytes) ≡ Some (steps_told bytes)) → Yields (text_told known) (coming s known) []
text_comes s None told = tt
text_comes s (Some bytes) told = sym (same_Some (coming_of s bytes) (steps_told bytes) (told bytes))

pub read_so_far : (known : Bytes) (to_come : Option StepsTold) (taken : Steps) →
    Yields (text_told known) to_come taken → IsReadSoFar known taken
read_so_far None to_come taken yields = tt
read_so_far (Some bytes) None taken yields = absurd yields
read_so_far (Some bytes) (Some later) taken yields = (later, yields)

-- the steps that were taken, and then what is to come
all_told : (known now next : Bytes) (s t : StepStream) (taken more : Steps) (P : Option StepsTold → Type 0)
    (Q : StepsTold → Type 0) → ((later : StepsTold) → P (Some later) → Q (behind (taken ++ more) later)) →
    Yields (text_told known) (coming s now) taken → Yields (coming s now) (coming t next) more →
    P (where_known now (coming t next)) → IfSome known (λ bytes. Q (steps_told bytes))
all_told None now next s t taken more P Q so first last is = tt
all_told (Some bytes) None next s t taken more P Q so first last is = absurd first
all_told (Some bytes) (Some x) None s t taken more P Q so first last is = absurd last
all_told (Some bytes) (Some x) (Some y) s t taken more P Q so first last is =
    subst Q (sym (yields-more (text_told (Some bytes)) (coming s (Some x)) (coming t (Some y)) taken more first last))
    (so _ is)

-- the end stays the end
still_read : (known now next : Bytes) (s t : StepStream) (taken : Steps) (Ends : Type 0) →
    Yields (text_told known) (coming s now) taken → (Ends → IsAllRead known now s) →
    ((Ends → IsAllRead now now s) → IsAllRead now next t) → IsAllRead known next t
still_read None now next s t taken Ends first before after = (tt, tt)
still_read (Some bytes) None next s t taken Ends first before after = absurd first
still_read (Some bytes) (Some x) next s t taken Ends first before after = after before

-- ---- the next piece, and the end

module _ (options : StreamOptions) (known : Bytes) (old new : StreamState) (now next : Bytes)
    (r : IsRunning options known old now) (same : IsSameRun old new) where
  pub next_running : ((taken : Steps) → IsGoing taken old → (more : Steps)
      × Yields (coming old.ahead.stream now) (coming new.ahead.stream next) more × IsGoing (taken ++ more) new) →
      (new.at_end ≡ true → (old.at_end ≡ true → IsAllRead now now old.ahead.stream) →
      IsAllRead now next new.ahead.stream) → IsRunning options known new next
  next_running went end =
      let w = went r.taken r.going in record {
        taken = r.taken ++ w.0;
        yields = yields-more (text_told known) (coming old.ahead.stream now) (coming new.ahead.stream next) r.taken w.0
            r.yields w.1;
        going = w.2;
        all_read = λ at. still_read known now next old.ahead.stream new.ahead.stream r.taken (old.at_end ≡ true)
            r.yields r.all_read (end at);
        config = same.config ∙ r.config;
        driver = r.driver ∙ ap ByPolicy (sym same.policy);
        limit = same.limit ∙ r.limit;
        names = same.names ∙ r.names;
      }

  pub has_run : ((taken : Steps) → IsGoing taken old → (more : Steps)
      × Yields (coming old.ahead.stream now) (coming new.ahead.stream next) more × HasEnded (taken ++ more) new) →
      ((old.at_end ≡ true → IsAllRead now now old.ahead.stream) → IsAllRead now next new.ahead.stream) →
      HasRun options known new next
  has_run ended end =
      let w = ended r.taken r.going in
      let all = still_read known now next old.ahead.stream new.ahead.stream r.taken (old.at_end ≡ true)
      r.yields r.all_read end in record {
        taken = r.taken ++ w.0;
        read = whole known now next old.ahead.stream new.ahead.stream r.taken w.0 r.yields w.1 all;
        ended = w.2;
        at_end = all.0;
        config = same.config ∙ r.config;
        driver = r.driver ∙ ap ByPolicy (sym same.policy);
        limit = same.limit ∙ r.limit;
        names = same.names ∙ r.names;
      }
    where
      whole : (k n e : Bytes) (s t : StepStream) (taken more : Steps) → Yields (text_told k) (coming s n) taken →
          Yields (coming s n) (coming t e) more → IsAllRead k e t → IsReadWhole k (taken ++ more)
      whole None n e s t taken more first last is = tt
      whole (Some bytes) None e s t taken more first last is = absurd first
      whole (Some bytes) (Some x) e s t taken more first last is =
          all_told (Some bytes) (Some x) e s t taken more (OnlyFault None) (λ told. told ≡ (taken ++ more, None))
          (λ later none. ap (behind (taken ++ more)) none
          ∙ ap (λ (xs : Steps). (xs, None)) (append-nil (taken ++ more))) first last is.1

-- ---- why a piece was refused

module _ (cores : ℕ) (known now next : Bytes) (s t : StepStream) (taken more : Steps)
    (first : Yields (text_told known) (coming s now) taken) (last : Yields (coming s now) (coming t next) more)
    (few : cores_of (unnumbered taken) ≤ cores) (few_more : cores_of (unnumbered more) ≤ cores) (old new : ℕ) where
  abbrev all : Steps
  all = taken ++ more

  few_all : cores_of (unnumbered all) ≤ cores
  few_all = let both = cores-append taken more in omega (arith, both, few, few_more)

  abbrev Unread : AheadError → Type 0
  Unread e = IsUnread (IsStreamFault cores known) (Unit {0}) old new (ahead_refusal e)

  pub why_stopped : (e : AheadError) → Stops cores old new (where_known now (coming t next)) e → Unread e
  why_stopped (ahead.Text e) (inl failed) =
      subst (IsUnread (IsStreamFault cores known) (Unit {0}) old new) (sym (ap refusal failed.0))
      (let counted : old < new = let c = failed.1 in omega (arith, c) in counted)
  why_stopped (ahead.Text e) (inr (none, line, only)) =
      subst (IsUnread (IsStreamFault cores known) (Unit {0}) old new) (sym (fault_told e.kind e line.1 line.2)) (
        none,
        inl (
          line,
          all_told known now next s t taken more (OnlyFault (Some e)) (λ told. HasFault cores told e)
              (λ later is. subst (λ told. HasFault cores (behind all told) e) (sym is)
              (refl, subst (λ xs. cores_of (unnumbered xs) ≤ cores) (sym (append-nil all)) few_all)) first last only,
        ),
      )
  why_stopped (ahead.NoQueue line) stopped = (
    stopped.0,
    inr (
      refl,
      all_told known now next s t taken more
          (λ to_come. ComesFirst to_come (λ one. (one.0 ≡ line) × (cores ≤ one.1.0)))
          (λ told. IsPastCores cores told line)
          (λ later f. (
            all,
            f.1,
            f.0.1,
            ap (λ (xs : Steps). all ++ xs) (f.2 ∙ ap (λ n. (n, f.0.1) ∷ f.1) f.3.0),
            few_all,
            f.3.1,
          )) first last stopped.1,
    ),
  )
  why_stopped ahead.NoMemory stopped = (stopped.0, tt)

-- the piece that comes next
pub next_refused : (options : StreamOptions) (known now next : Bytes) (s : StreamState) (t : StepStream) (old new : ℕ)
    (e : AheadError) → IsRunning options known s now → (more : Steps)
    × Yields (coming s.ahead.stream now) (coming t next) more × (cores_of (unnumbered more) ≤ s.machine.config.cores)
    × Stops s.machine.config.cores old new (where_known now (coming t next)) e →
    IsUnread (IsStreamFault options.cores known) (Unit {0}) old new (ahead_refusal e)
next_refused options known now next s t old new e r (more, yields, few, stops) =
    subst (λ n. IsUnread (IsStreamFault n known) (Unit {0}) old new (ahead_refusal e)) (ap (λ k. k.cores) r.config)
    (why_stopped s.machine.config.cores known now next s.ahead.stream t r.taken more r.yields yields r.going.few few old
    new e stops)

pub or_memory : (options : StreamOptions) (known now next : Bytes) (s : StreamState) (t : StepStream) (old new : ℕ)
    (e : AheadError) → IsRunning options known s now → (more : Steps)
    × Yields (coming s.ahead.stream now) (coming t next) more × (cores_of (unnumbered more) ≤ s.machine.config.cores)
    × (Stops s.machine.config.cores old new (where_known now (coming t next)) e
    ⊎ ((e ≡ ahead.NoMemory) × (new ≡ old))) →
    IsUnread (IsStreamFault options.cores known) (Unit {0}) old new (ahead_refusal e)
or_memory options known now next s t old new e r (more, yields, few, inl stops) =
    next_refused options known now next s t old new e r (more, yields, few, stops)
or_memory options known now next s t old new e r (more, yields, few, inr (lacks, same)) =
    subst (λ x. IsUnread (IsStreamFault options.cores known) (Unit {0}) old new (ahead_refusal x)) (sym lacks) (
      same,
      tt,
    )
