use Rattle.std.proofs.Common.{◌≡◌, ◌∙◌, ℕ, Bool, List, [], map, ap, sym, subst, length}
use Rattle.std.proofs.lemmas.Result.{IfOk-weaker}
use Rattle.std.proofs.lemmas.List.{length-map}
use Rattle.std.specs.Prelude.{slice_index_or}
use Rattle.physiological_order.specs.declared.operation.Op.{Op}
use Rattle.physiological_order.specs.declared.operation.Record.{Record}
use Rattle.physiological_order.specs.declared.verdict.Verdict.{Verdict}
use Rattle.physiological_order.specs.Faults.{IsVerdict, IssuedLists, issued_by}
use Rattle.physiological_order.specs.Order.{Memory, flat}
use Rattle.programs.specs.declared.steps.Step.{Step}
use Rattle.report_lines.specs.declared.layout.Layout.{Layout}
use Rattle.trace_reader.specs.Steps.{ops_of, trace_ops}
use Rattle.report.specs.Verdicts.{IsVerdictLine, TellsVerdict}
use Rattle.report.proofs.checks.report_on_records.Goals as goal

-- what is said of the operations by core is said of the trace that issues them
line_of_trace : (opening : Memory) (complete : Bool) (layout : Layout) (lanes : List (List Step)) (issued : IssuedLists)
    (records : List Record) (verdict : Verdict) (legal : Bool) (text : List ℕ) →
    map (λ ops. ops.items) issued ≡ map ops_of lanes → IsVerdict opening (issued_by issued) records verdict →
    TellsVerdict complete layout (length issued) (issued_by issued) records verdict legal text →
    IsVerdictLine opening complete layout lanes records legal text
line_of_trace opening complete layout lanes issued records verdict legal text same is told = record {
  verdict = verdict;
  is_verdict = subst (λ (ops : List (List Op)). IsVerdict opening (λ core. slice_index_or ops core []) records verdict)
      same is;
  told = subst (λ (cores : ℕ). TellsVerdict complete layout cores (trace_ops lanes) records verdict legal text)
      (sym (length-map issued (λ ops. ops.items)) ∙ ap length same ∙ length-map lanes ops_of)
      (subst (λ (ops : List (List Op)). TellsVerdict complete layout (length issued) (λ core. slice_index_or ops core
      [])
      records verdict legal text) same told);
}

pub returns : goal.returns
returns c =
    let opening = flat c.args.opening.now in
    let records = c.args.records.now in
    let verdict = c.in_ok-verdict.verdict in
    let over = subst (λ (issued : IssuedLists). IsVerdict opening (issued_by issued) records verdict)
    c.deref.ensures.value c.in_ok-verdict.ensures.verdict in
    IfOk-weaker c.report_on_verdict.result _ (λ report. IsVerdictLine opening c.args.complete c.args.layout c.args.trace
    records report.all_done
    report.text.items) (λ report told. line_of_trace opening c.args.complete c.args.layout c.args.trace _ records
    verdict
    report.all_done report.text.items c.in_ok-issued.ensures over (subst (λ (issued : IssuedLists).
    TellsVerdict c.args.complete c.args.layout (length issued) (issued_by issued) records verdict report.all_done
    report.text.items)
    c.deref-2.ensures.value told)) c.report_on_verdict.ensures
