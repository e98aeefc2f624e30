use Rattle.std.proofs.Common.{◌≡◌, ◌⊎◌, ℕ, ◌<◌, true, List, [], Some, arith, length, inl, inr, ap, map, ◌≤◌}
use Rattle.std.proofs.Common.{slice_get, true≢false}
use Rattle.std.proofs.lemmas.Bool.{cases_lt}
use Rattle.std.proofs.lemmas.List.{get_or_past, length-map}
use Rattle.std.proofs.lemmas.Option.{slice_get_within}
use Rattle.physiological_order.specs.declared.operation.Op.{Op}
use Rattle.physiological_order.specs.declared.operation.Record.{Record}
use Rattle.physiological_order.specs.declared.verdict.Verdict.{Verdict}
use Rattle.physiological_order.specs.declared.verdict.Verdict.TheVariants.{Legal, BadNumber, OutOfProgramOrder}
use Rattle.physiological_order.specs.declared.verdict.Verdict.TheVariants.{WrongValue}
use Rattle.physiological_order.specs.Faults.{IsVerdict}
use Rattle.physiological_order.specs.Order.{Legal as IsLegal, Memory}
use Rattle.programs.specs.declared.steps.Step.{Step}
use Rattle.report_lines.specs.declared.layout.Layout.{Layout}
use Rattle.trace_reader.specs.Steps.{ops_of, trace_ops}
use Rattle.report.specs.Complete.{AreAll, HasRecord}
use Rattle.report.specs.Verdicts.{TellsVerdict}
use Rattle.report.proofs.CompleteRecords.{at_most_all, operation_at, places_below, record_at}
use Rattle.report.proofs.laws.complete_records_are_all.Goals as goal

module _ (opening : Memory) (cores : ℕ) (issued : ℕ → List Op) (records : List Record) where
  of_all : IsLegal opening issued records → AreAll cores issued records → (core place : ℕ) (op : Op) → core < cores →
      slice_get (issued core) place ≡ Some op → HasRecord records core place op
  of_all legal all core place op among at =
      let count = all core among in
      let within = slice_get_within (issued core) place op at in
      record_at opening issued records legal core place op (omega (arith, count, within)) at

  all_told : (layout : Layout) (verdict : Verdict) (text : List ℕ) → IsVerdict opening issued records verdict →
      TellsVerdict true layout cores issued records verdict true text →
      IsLegal opening issued records × AreAll cores issued records
  all_told layout Legal text is (inl told) = (is, told.0)
  all_told layout Legal text is (inr lacking) = absurd (true≢false lacking.3)
  all_told layout (BadNumber number) text is told = absurd (true≢false told.1)
  all_told layout (OutOfProgramOrder number) text is told = absurd (true≢false told.1)
  all_told layout (WrongValue number) text is told = absurd (true≢false told.1)

-- an operation is that of a core of the trace
core_of : (lanes : List (List Step)) (core place : ℕ) (op : Op) → slice_get (trace_ops lanes core) place ≡ Some op →
    core < length lanes
core_of lanes core place op at = by_order (cases_lt core (length lanes))
  where
    by_order : (core < length lanes) ⊎ (length lanes ≤ core) → core < length lanes
    by_order (inl among) = among
    by_order (inr past) =
        let none = get_or_past (map ops_of lanes) core [] (omega (arith, past, length-map lanes ops_of)) in
        absurd (omega (arith, slice_get_within (trace_ops lanes core) place op at, ap length none))

pub returns-clause-all : goal.returns-clause-all
returns-clause-all c = of_all

pub returns-clause-line : goal.returns-clause-line
returns-clause-line c = λ opening lanes records text layout line core place op at.
    let said = all_told opening (length lanes) (trace_ops lanes) records layout line.verdict text line.is_verdict
    line.told in
    of_all opening (length lanes) (trace_ops lanes) records said.0 said.1 core place op
    (core_of lanes core place op at) at

pub returns-clause-lack : goal.returns-clause-lack
returns-clause-lack c = λ opening cores issued records core legal lack.
    let few = at_most_all opening issued records legal core in
    let lacks = lack.lacks in
    let operation = operation_at (issued core) _ (omega (arith, few, lacks)) in (
      operation.0,
      operation.1,
      places_below opening issued records legal core,
      record_at opening issued records legal core,
    )
