-- What went out of a run that was read as it went: its records so far, or its whole report.
use Rattle.std.proofs.Common.{◌≡◌, ◌&&◌, ◌-◌, not, ℕ, Bool, true, false, List, [], ◌∷◌, ◌++◌}
use Rattle.std.proofs.Common.{Option, Some, None, refl, sym, ap, subst, ◌∙◌, arith, inl, inr, append_assoc}
use Rattle.std.proofs.lemmas.Grind.{flat_map-append}
use Rattle.std.proofs.lemmas.List.{append-nil}
use Rattle.std.proofs.Math.Bool.{and-true}
use Rattle.std.specs.FinMap.{empty}
use Rattle.byte_streams.specs.Device.{Grows}
use Rattle.byte_streams.specs.Whole.{GrowsByFront}
use Rattle.machine_table.specs.Opening.{at_start}
use Rattle.machine_table.specs.SetUp.{is_good}
use Rattle.physiological_order.specs.declared.operation.Record.{Record}
use Rattle.run_options.specs.declared.options.StreamOptions.{StreamOptions}
use Rattle.schedules.specs.Policies.{EndsBy}
use Rattle.streamed_runs.specs.StreamStates.{StreamState, lanes_for}
use Rattle.streamed_runs.proofs.Lemmas.{run_so_far}
use Rattle.trace_reader.specs.Filling.{unnumbered}
use Rattle.trace_reader.specs.Steps.{named}
use Rattle.trace_reader.specs.Streams.{coming}
use Rattle.trace_texts.specs.Records.{AreRanged, record_text, records_text}
use Rattle.trace_texts.proofs.Lemmas.{line-each, text-stands, writable}
use Rattle.worker_driver.specs.SetUp.{limit_of}
use Rattle.report.specs.Answers.{IsCutOff, IsReported}
use Rattle.report.specs.Layouts.{layout_of}
use Rattle.report.specs.Progress.{IsProgress, IsToldReport}
use Rattle.report.specs.Reports.{TellsRecords}
use Rattle.report.specs.Runs.{is_all_done, step_acts}
use Rattle.report.specs.StreamParts.{HasRun, HasWritten, IsRunning, text_if, text_unless}
use Rattle.report.specs.Streams.{IsBegun, IsRunSoFar, IsStreamReport, IsStreamRun, IsStreamText, TellsStream}
use Rattle.report.specs.Streams.{stream_config, stream_text}
use Rattle.report.proofs.StreamedPieces.{read_so_far}
use Rattle.report.proofs.StreamedSteps.{Laws, Led, stream_run}
use Rattle.report.proofs.StreamedTexts.{ended_is}

abbrev pub Bytes : Type 0
Bytes = Option (List ℕ)

-- ---- one piece after the other

pub Grows-append : (a b c : Bytes) (front more : List ℕ) → Grows a b front → Grows b c more → Grows a c (front ++ more)
Grows-append None b c front more p q = tt
Grows-append (Some x) None c front more p q = absurd p
Grows-append (Some x) (Some y) None front more p q = absurd q
Grows-append (Some x) (Some y) (Some z) front more p q =
    q ∙ ap (λ (w : List ℕ). w ++ more) p ∙ append_assoc x front more

pub grows_none : (old : Bytes) → Grows old old []
grows_none None = tt
grows_none (Some bytes) = sym (append-nil bytes)

pub none_written : (asked : Bool) (old : Bytes) (rs : List Record) → rs ≡ [] → HasWritten asked old old rs
none_written true old rs none = subst (HasWritten true old old) (sym none) (record {
  grows = grows_none old;
  ranged = λ is. tt;
})
none_written false old rs none = subst (HasWritten false old old) (sym none) (record {
  grows = grows_none old;
  ranged = λ is. tt;
})

text_more : (asked : Bool) (rs more : List Record) → text_if asked rs ++ text_if asked more ≡ text_if asked (rs ++ more)
text_more true rs more = sym (flat_map-append record_text rs more)
text_more false rs more = refl

ranged_more : (rs more : List Record) → AreRanged rs → AreRanged more → AreRanged (rs ++ more)
ranged_more [] more first last = last
ranged_more (r ∷ rs) more first last = (first.0, ranged_more rs more first.1 last)

pub more_written : (asked : Bool) (old now next : Bytes) (rs more : List Record) → HasWritten asked old now rs →
    Grows now next (text_if asked more) → (asked ≡ true → AreRanged more) → HasWritten asked old next (rs ++ more)
more_written asked old now next rs more w grows ranged = record {
  grows = subst (Grows old next) (text_more asked rs more)
      (Grows-append old now next (text_if asked rs) (text_if asked more) w.grows grows);
  ranged = λ is. ranged_more rs more (w.ranged is) (ranged is);
}

pub front_more : (old now next : Bytes) (text more : List ℕ) → Grows old now text → GrowsByFront now next more →
    GrowsByFront old next (text ++ more)
front_more old now next text more first (front, rest, is, last) = (
  text ++ front,
  rest,
  ap (λ (w : List ℕ). text ++ w) is ∙ sym (append_assoc text front rest),
  Grows-append old now next text front first last,
)

-- ---- a run so far

module _ (laws : Laws) (options : StreamOptions) (known : Bytes) (good : is_good (stream_config options) ≡ true) where
  -- the run so far is one of the steps so far
  led_so_far : (s : StreamState) (now : Bytes) (r : IsRunning options known s now) →
      Led options (s.limit - s.left) r.taken s.end s.machine
  led_so_far s now r =
      let run = run_so_far r.taken s r.going in record {
        config = s.machine.config;
        set_up = r.config;
        policy = s.pace.policy;
        driver = r.driver;
        events = run.0;
        programs = run.1;
        leads = run.3;
        ended = run.2;
        few = r.going.few;
        rising = r.going.rising;
      }

  pub is_run_so_far : (s : StreamState) (now : Bytes) → IsRunning options known s now →
      IsRunSoFar options known s.machine
  is_run_so_far s now r = record {
    taken = r.taken;
    first = read_so_far known (coming s.ahead.stream now) r.taken r.yields;
    turns = s.limit - s.left;
    within = let limit = r.limit in omega (arith, limit);
    end = s.end;
    ran = (stream_run laws options (s.limit - s.left) r.taken s.end s.machine good (led_so_far s now r)).0;
  }

  -- what was written so far
  begun_text : (s : StreamState) (now : Bytes) → IsRunning options known s now → (asked : Bool) →
      options.records ≡ asked → IsBegun options known (text_if asked s.machine.records)
  begun_text s now r false is = inl refl
  begun_text s now r true is = inr (is, (s.machine, is_run_so_far s now r, refl))

  pub begun : (s : StreamState) (now old new : Bytes) → IsRunning options known s now →
      HasWritten options.records old new s.machine.records → IsReported (IsBegun options known) old new
  begun s now old new r w =
      (text_if options.records s.machine.records, begun_text s now r options.records refl, w.grows)

  -- a piece that was written in part
  pub cut : (s : StreamState) (now old between new : Bytes) (before : List Record) → IsRunning options known s now →
      s.machine.records ≡ before ++ s.done → HasWritten options.records old between before →
      GrowsByFront between new (text_if options.records s.done) → IsCutOff (IsStreamText options known) old new
  cut s now old between new before r added w part = (
    text_if options.records s.machine.records,
    inl (begun_text s now r options.records refl),
    subst (GrowsByFront old new) (text_more options.records before s.done ∙ ap (text_if options.records) (sym added))
        (front_more old between new (text_if options.records before) (text_if options.records s.done) w.grows part),
  )

-- ---- a whole run

module _ (laws : Laws) (options : StreamOptions) (known : Bytes) (good : is_good (stream_config options) ≡ true)
    (s : StreamState) (now : Bytes) (r : HasRun options known s now) where
  abbrev led : Led options (limit_of options.run) r.taken s.end s.machine
  led = record {
    config = s.machine.config;
    set_up = r.config;
    policy = s.pace.policy;
    driver = r.driver;
    events = r.ended.events;
    programs = r.ended.programs;
    leads = r.ended.leads;
    ended = subst (λ n. EndsBy true step_acts s.pace.policy n (at_start s.machine.config empty)
        (lanes_for s.machine.config.cores (unnumbered r.taken)) r.ended.events s.machine r.ended.programs s.end) r.limit
        r.ended.ended;
    few = r.ended.few;
    rising = r.ended.rising;
  }

  abbrev ran : IsStreamRun options (limit_of options.run) r.taken s.end s.machine
  ran = (stream_run laws options (limit_of options.run) r.taken s.end s.machine good led).0

  abbrev text_by : Bool → List ℕ
  text_by asked = text_if asked s.machine.records ++ text_unless asked (layout_of options.json) s

  text_is : (asked : Bool) → options.records ≡ asked →
      text_by asked ≡ stream_text asked options.words (layout_of options.json) ran.lanes s.end s.machine
  text_is true is = append-nil (records_text s.machine.records)
  text_is false is =
      ended_is (layout_of options.json) (unnumbered r.taken) ran.lanes s ran.by_core r.ended.met r.ended.stale
      r.ended.kinds (stream_run laws options (limit_of options.run) r.taken s.end s.machine good led).1 options.words
      (r.ended.words ∙ ap (λ b. named b empty (unnumbered r.taken)) (r.names ∙ asked_words options.words is))
    where
      asked_words : (words : Bool) → options.records ≡ false → (words && not options.records) ≡ words
      asked_words words is = ap (λ b. words && not b) is ∙ and-true words

  stands : (asked : Bool) → AreRanged s.machine.records → asked ≡ true → TellsRecords (text_by asked) s.machine.records
  stands asked ranged is =
      let rs = s.machine.records in
      let can = writable rs ran.run.complete ranged in
      subst (λ b. TellsRecords (text_by b) rs) (sym is) (subst (λ w. TellsRecords w rs) (sym (append-nil (records_text
      rs)))
      (line-each rs can, text-stands rs can))

  abbrev tells : (HasRanged : options.records ≡ true → AreRanged s.machine.records) →
      TellsStream options r.taken (is_all_done s.end) (text_by options.records)
  tells ranged = record {
    good = good;
    end = s.end;
    machine = s.machine;
    ran = ran;
    text_is = text_is options.records refl;
    read_back = λ is. stands options.records (ranged is) is;
    done = refl;
  }

  module _ (old between new : Bytes) (w : HasWritten options.records old between s.machine.records) where
    abbrev report : IsStreamReport options known (is_all_done s.end) (text_by options.records)
    report = (r.taken, r.read, tells w.ranged)

    pub told : (first last : Bytes) (before after : ℕ) →
        IsProgress options known s.machine.records first last before after →
        Grows between new (text_unless options.records (layout_of options.json) s) →
        IsReported (IsToldReport options known (is_all_done s.end) first last before after) old new
    told first last before after progress grows = (
      text_by options.records,
      (report, progress),
      Grows-append old between new (text_if options.records s.machine.records)
          (text_unless options.records (layout_of options.json) s) w.grows grows,
    )

    pub reported_in_part : GrowsByFront between new (text_unless options.records (layout_of options.json) s) →
        IsCutOff (IsStreamText options known) old new
    reported_in_part part = (
      text_by options.records,
      inr (is_all_done s.end, report),
      front_more old between new (text_if options.records s.machine.records)
          (text_unless options.records (layout_of options.json) s) w.grows part,
    )
