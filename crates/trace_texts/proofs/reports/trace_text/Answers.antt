use Rattle.std.proofs.Common.{ℕ, List, [], ◌++◌, map, ap, ap₂, subst, ◌∙◌}
use Rattle.std.specs.Prelude.{slice_index_or}
use Rattle.std.specs.FinMap.{empty}
use Rattle.physiological_order.specs.declared.operation.Op.{Op}
use Rattle.physiological_order.specs.Faults.{IsVerdict, issued_by, IssuedLists}
use Rattle.physiological_order.specs.Order.{flat}
use Rattle.report_lines.specs.Layouts.{closing}
use Rattle.trace_texts.specs.Reports.{told_text}
use Rattle.trace_texts.proofs.reports.trace_text.Goals as goal

pub returns : goal.returns
returns c =
    let records = c.args.records.now in
    let verdict = c.in_ok-verdict.verdict in
    let over_zeros = subst (λ m. IsVerdict (flat m) (issued_by c.deref.result.now) records verdict) c.new.ensures
    c.in_ok-verdict.ensures.verdict in
    let same = ap (λ (lists : IssuedLists). map (λ ops. ops.items) lists) c.deref.ensures.value ∙
    c.in_ok-issued.ensures in
    let is = subst (λ (lists : List (List Op)). IsVerdict (flat empty) (λ core. slice_index_or lists core []) records
    verdict) same over_zeros in
    let text = ap₂ (λ n done. told_text c.args.layout n c.args.run.now verdict done c.args.values.now)
    c.cores-cores.ensures.cores c.of-done.ensures in (
      verdict,
      is,
      c.in_ok-put_report_closing.ensures
          ∙ ap (λ (t : List ℕ). t ++ closing c.args.layout) (c.in_ok-text.ensures ∙ text),
    )
