-- The report on a run that was read as it went is the one on a trace, with its words or without them.
use Rattle.std.proofs.Common.{◌≡◌, ℕ, max, Bool, true, false, List, [], ◌++◌, map, sym, ap, ◌∙◌, arith}
use Rattle.std.proofs.lemmas.List.{append-nil, nil_from_length}
use Rattle.std.specs.FinMap.{empty, entries, len-empty, len-entries}
use Rattle.std.specs.Ordering.{nat_cmp}
use Rattle.machine_table.specs.Machine.{Machine}
use Rattle.machine_theorem.specs.Coherence.{coherent}
use Rattle.physiological_order.specs.declared.verdict.Verdict.TheVariants.{Legal as LegalVerdict}
use Rattle.physiological_order.specs.StaleHits.{stale_count}
use Rattle.programs.specs.declared.steps.Step.{Step}
use Rattle.report_lines.specs.declared.layout.Layout.{Layout}
use Rattle.report_lines.specs.Layouts.{closing}
use Rattle.streamed_runs.specs.StreamStates.{StreamState, issued_below, values_in}
use Rattle.trace_reader.specs.Steps.{IsByCore, cores_of, named, trace_cores}
use Rattle.trace_texts.specs.Reports.{kinds_of, told_text, trace_text}
use Rattle.report.specs.Runs.{bare_report, words_below}
use Rattle.report.specs.StreamParts.{ended_text}
use Rattle.report.specs.Streams.{stream_text}
use Rattle.report.proofs.LanesByCore.{same_words}

no_values : (m : Machine) → values_in m empty ≡ []
no_values m = ap (map (λ entry. (entry.0, coherent m entry.0)))
    (nil_from_length (entries empty) (sym (len-entries {R = nat_cmp} empty) ∙ len-empty nat_cmp ℕ))

-- the words that a report tells
abbrev told_values : Bool → List (List Step) → Machine → List (ℕ × ℕ)
told_values true lanes m = values_in m (words_below lanes (trace_cores lanes))
told_values false lanes m = []

same_values : (words : Bool) (told : List (ℕ × Step)) (lanes : List (List Step)) (m : Machine) → IsByCore told lanes →
    values_in m (named words empty told) ≡ told_values words lanes m
same_values true told lanes m is =
    let count = is.0 in ap (values_in m) (same_words told lanes is (trace_cores lanes) (omega (arith, count)))
same_values false told lanes m is = no_values m

module _ (layout : Layout) (told : List (ℕ × Step)) (lanes : List (List Step)) (s : StreamState)
    (is : IsByCore told lanes) (met : s.ahead.met ≡ cores_of told) (stale : s.stale ≡ stale_count s.machine.records)
    (kinds : s.kinds ≡ kinds_of s.machine.records)
    (issued : issued_below s.machine s.machine.config.cores ≡ issued_below s.machine (trace_cores lanes)) where
  with_values : (values : List (ℕ × ℕ)) → values_in s.machine s.ahead.words ≡ values →
      ended_text layout s ≡ trace_text layout (trace_cores lanes) (record {
        issued = issued_below s.machine (trace_cores lanes);
        end = s.end;
        counts = s.machine.mail.counts;
        stale = stale_count s.machine.records;
      }) LegalVerdict s.machine.records values ++ closing layout
  with_values values same =
      let cores : max 1 s.ahead.met ≡ trace_cores lanes = ap (max 1) (met ∙ sym is.0) in
      λ i. told_text layout (cores i) (record {
        issued = issued i;
        end = s.end;
        counts = s.machine.mail.counts;
        stale = stale i;
      }) LegalVerdict (kinds i) (same i) ++ closing layout

  pub ended_is : (words : Bool) → s.ahead.words ≡ named words empty told →
      ended_text layout s ≡ stream_text false words layout lanes s.end s.machine
  ended_is true are =
      with_values (told_values true lanes s.machine)
      (ap (values_in s.machine) are ∙ same_values true told lanes s.machine is)
      ∙ ap (λ (w : List ℕ). w ++ closing layout) (sym (append-nil (bare_report layout lanes s.end s.machine)))
  ended_is false are = with_values (told_values false lanes s.machine)
      (ap (values_in s.machine) are ∙ same_values false told lanes s.machine is)
