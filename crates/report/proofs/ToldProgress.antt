-- What was told of a run's progress, one piece after the other.
use Rattle.std.proofs.Common.{◌≡◌, ◌≤◌, ◌<◌, ◌*◌, ◌/◌, ℕ, zero, suc, Bool, true, false, List, [], ◌∷◌, ◌++◌, length}
use Rattle.std.proofs.Common.{refl, Option, None, Some, sym, ap, subst, ◌∙◌, arith, append_assoc, true≢false}
use Rattle.std.proofs.Common.{length-append}
use Rattle.std.proofs.lemmas.Bool.{ltb-false, ltb-true}
use Rattle.std.proofs.lemmas.List.{append-nil}
use Rattle.std.proofs.lemmas.Nat.{le-div}
use Rattle.std.proofs.Math.Nat.{div-mul-le_self, div-zero, zero-div}
use Rattle.byte_streams.specs.Whole.{GrowsByFront}
use Rattle.machine_table.specs.Machine.{Machine}
use Rattle.physiological_order.specs.declared.operation.Record.{Record}
use Rattle.physiological_order.specs.StaleHits.{stale_count}
use Rattle.run_options.specs.declared.options.StreamOptions.{StreamOptions}
use Rattle.streamed_runs.specs.StreamStates.{StreamState}
use Rattle.trace_texts.specs.Reports.{kinds_of}
use Rattle.report.specs.Answers.{TextGoesOut}
use Rattle.report.specs.Progress.{AreTold, IsProgress, lines_told, progress_line, times_passed}
use Rattle.report.specs.StreamParts.{HasGoneOut, IsTelling, is_due, line_if}
use Rattle.report.specs.Streams.{IsRunSoFar}
use Rattle.report.proofs.WrittenPieces.{Bytes, Grows-append, front_more, grows_none}

-- more operations pass no fewer
no_fewer : (k a b : ℕ) → a ≤ b → a / k ≤ b / k
no_fewer zero a b le = subst (λ n. n ≤ b / zero) (sym (div-zero a)) (omega arith)
no_fewer (suc k) a b le =
    let down = div-mul-le_self a (suc k) in le-div (a / suc k) b (suc k) (omega arith) (omega (arith, down, le))

passed_more : (every : Option ℕ) (a b : ℕ) → a ≤ b → times_passed every a ≤ times_passed every b
passed_more None a b le = omega arith
passed_more (Some millions) a b le = no_fewer (millions * 1000000) a b le

none_passed : (every : Option ℕ) → times_passed every 0 ≡ 0
none_passed None = refl
none_passed (Some millions) = zero-div (millions * 1000000)

-- ---- what went out

longer : (old new : Bytes) (text more : List ℕ) → GrowsByFront old new text → GrowsByFront old new (text ++ more)
longer old new text more (front, rest, is, grows) =
    (front, rest ++ more, ap (λ (w : List ℕ). w ++ more) is ∙ append_assoc front rest more, grows)

more_out : (goes goes' : Bool) (old now next : Bytes) (a b c : ℕ) (text more : List ℕ) →
    HasGoneOut goes old now a b text → (goes ≡ true → HasGoneOut goes' now next b c more) →
    (goes ≡ false → (goes' ≡ false) × (next ≡ now) × (c ≡ b)) → HasGoneOut goes' old next a c (text ++ more)
more_out true true old now next a b c text more first last stays =
    let last = last refl in (last.0 ∙ first.0, Grows-append old now next text more first.1 last.1)
more_out true false old now next a b c text more first last stays =
    let last = last refl in
    let here = first.0 in
    let failed = last.0 in (omega (arith, here, failed), front_more old now next text more first.1 last.1)
more_out false true old now next a b c text more first last stays = absurd (true≢false (stays refl).0)
more_out false false old now next a b c text more first last stays =
    let stays = stays refl in (
      subst (λ n. a < n) (sym stays.2) first.0,
      longer old next text more (subst (λ w. GrowsByFront old w text) (sym stays.1) first.1),
    )

goes_out : (goes : Bool) (old new : Bytes) (a b : ℕ) (text : List ℕ) → HasGoneOut goes old new a b text →
    TextGoesOut old new a b text
goes_out true old new a b text (same, grows) = ((text, [], sym (append-nil text), grows), λ is. grows)
goes_out false old new a b text (failed, front) = (front, λ is. absurd (omega (arith, failed, is)))

-- ---- the lines

module _ (options : StreamOptions) (known : Bytes) where
  abbrev every : Option ℕ
  every = options.progress

  still_told : (records more : List Record) (told : List Machine) → AreTold options known records told →
      AreTold options known (records ++ more) told
  still_told records more [] are = tt
  still_told records more (m ∷ earlier) (so_far, (later, is), rises, are) = (
    so_far,
    (later ++ more, ap (λ (rs : List Record). rs ++ more) is ∙ append_assoc m.records later more),
    rises,
    are,
  )

  pub none_told : (old : Bytes) (a : ℕ) (records : List Record) → records ≡ [] →
      IsTelling options known records true old old a a
  none_told old a records none = record {
    told = [];
    are = tt;
    all = sym (ap (λ (rs : List Record). times_passed every (length rs)) none ∙ none_passed every);
    out = (refl, grows_none old);
  }

  pub progress_of : (records : List Record) (goes : Bool) (old new : Bytes) (a b : ℕ) →
      IsTelling options known records goes old new a b → IsProgress options known records old new a b
  progress_of records goes old new a b t = (t.told, t.are, t.all, goes_out goes old new a b (lines_told t.told) t.out)

  pub nothing_told : (old : Bytes) (a : ℕ) → (records : List Record) × IsProgress options known records old old a a
  nothing_told old a = ([], progress_of [] true old old a a (none_told old a [] refl))

  -- behind a piece
  module _ (records more : List Record) (s : StreamState) (added : s.machine.records ≡ records ++ more)
      (so_far : IsRunSoFar options known s.machine) (kinds : s.kinds ≡ kinds_of s.machine.records)
      (stale : s.stale ≡ stale_count s.machine.records) (n : ℕ) (before : n ≡ length records) (goes goes' : Bool)
      (old now next : Bytes) (a b c : ℕ) (t : IsTelling options known records goes old now a b)
      (stays : goes ≡ false → (goes' ≡ false) × (next ≡ now) × (c ≡ b)) where
    abbrev after : ℕ
    after = length s.machine.records

    again : AreTold options known s.machine.records t.told
    again = subst (λ rs. AreTold options known rs t.told) (sym added) (still_told records more t.told t.are)

    no_less : times_passed every (length records) ≤ times_passed every after
    no_less =
        let longer = ap length added ∙ length-append records more in
        passed_more every (length records) after (omega (arith, longer))

    same_due : is_due every n s.kinds.completed ≡ is_due every (length records) after
    same_due i = is_due every (before i) ((kinds i).completed)

    by_due : (due : Bool) → is_due every (length records) after ≡ due →
        (goes ≡ true → HasGoneOut goes' now next b c (line_if due s)) →
        IsTelling options known s.machine.records goes' old next a c
    by_due true is last = record {
      told = s.machine ∷ t.told;
      are = (
        so_far,
        ([], sym (append-nil s.machine.records)),
        subst (λ k. k < times_passed every after) (sym t.all) (ltb-true _ _ is),
        again,
      );
      all = refl;
      out = subst (λ w. HasGoneOut goes' old next a c (lines_told t.told ++ w))
          (λ i. progress_line ((kinds i).completed) (stale i) s.machine)
          (more_out goes goes' old now next a b c (lines_told t.told) (line_if true s) t.out last stays);
    }
    by_due false is last = record {
      told = t.told;
      are = again;
      all =
          let le = ltb-false _ _ is in let more = no_less in let all = t.all in omega (arith, le, more, all);
      out = subst (λ w. HasGoneOut goes' old next a c w) (append-nil (lines_told t.told))
          (more_out goes goes' old now next a b c (lines_told t.told) [] t.out last stays);
    }

    pub more_told : (goes ≡ true → HasGoneOut goes' now next b c (line_if (is_due every n s.kinds.completed) s)) →
        IsTelling options known s.machine.records goes' old next a c
    more_told last = by_due (is_due every (length records) after) refl
        (subst (λ due. goes ≡ true → HasGoneOut goes' now next b c (line_if due s)) same_due last)
