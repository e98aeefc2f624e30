use Rattle.std.proofs.Common.{◌≡◌, ◌≤◌, ℕ, List, Some, refl, ap, arith, length, subst, ◌∙◌, inl, inr}
use Rattle.std.specs.FinMap.{empty}
use Rattle.physiological_order.specs.declared.operation.Record.{Record}
use Rattle.physiological_order.specs.declared.verdict.Verdict.TheVariants.{Legal}
use Rattle.physiological_order.specs.Faults.{IsVerdict}
use Rattle.physiological_order.specs.Order.{flat}
use Rattle.run_results.specs.declared.results.RunError.{RunError}
use Rattle.run_results.specs.declared.results.RunError.TheVariants.{NoMemory, Trace}
use Rattle.programs.specs.declared.steps.Step.{Step}
use Rattle.trace_reader.specs.Grammar.{AreRecords, IsTrace}
use Rattle.trace_reader.specs.declared.limits.TheConstants.{MOST_LINES}
use Rattle.trace_reader.specs.Steps.{trace_ops}
use Rattle.report.specs.Verdicts.{HasNoVerdict, is_legal}
use Rattle.trace_texts.specs.Verdicts.{check_text}
use Rattle.report.proofs.FewRecords.{few_records}
use Rattle.report.proofs.laws.written_records_are_legal.Goals as goal

-- a trace that is read, and records that are read, have no fault
no_fault : (trace text : List ℕ) (lanes : List (List Step)) (records : List Record) → IsTrace trace lanes →
    AreRecords text records → (e : RunError) → HasNoVerdict (Some trace) (Some text) e → e ≡ NoMemory
no_fault trace text lanes records is are NoMemory refused = refl
no_fault trace text lanes records is are (Trace e) (inl fault) = absurd (fault.1.0 lanes is)
no_fault trace text lanes records is are (Trace e) (inr fault) = absurd (fault.1.1.0 records are)
no_fault trace text lanes records is are e refused = absurd refused

pub returns-clause-legal : goal.returns-clause-legal
returns-clause-legal c = λ options trace text told all_done legal layout asked reported checked.
    let lanes = reported.0 in
    let tells = reported.2 in
    let records = tells.machine.records in
    let back = tells.told.read_back asked in
    let read = checked.1 in
    let said = checked.4 in
    let one = c.one_text_tells_one_list.ensures in
    let few : length records ≤ MOST_LINES = let lines = back.0 in let fits = checked.3.0.0 in
    omega (arith, lines, fits) in
    let same_records = one.records text read records checked.3 (back.1 few) in
    let same_lanes = one.trace trace checked.0 lanes checked.2 reported.1 in
    let verdict_is : said.verdict ≡ Legal =
    c.one_verdict.ensures (flat empty) (trace_ops lanes) records said.verdict Legal
    (subst (λ (rs : List Record). IsVerdict (flat empty) (trace_ops lanes) rs said.verdict) same_records
    (subst (λ (ls : List (List Step)). IsVerdict (flat empty) (trace_ops ls) read said.verdict) same_lanes
    said.is_verdict)) tells.run.legal_in_trace in
    (said.told.1 ∙ ap is_legal verdict_is, said.told.0 ∙ ap (check_text layout) verdict_is)

pub returns-clause-accepted : goal.returns-clause-accepted
returns-clause-accepted c = λ options trace text all_done e asked reported refused.
    let tells = reported.2 in
    let records = tells.machine.records in
    let few = few_records trace reported.0 records reported.1 tells.run.legal_in_trace in
    no_fault trace text reported.0 records reported.1 ((tells.told.read_back asked).1 few) e refused
