use Rattle.std.proofs.Common.{List, subst, sym}
use Rattle.std.specs.FinMap.{empty}
use Rattle.physiological_order.specs.declared.operation.Record.{Record}
use Rattle.physiological_order.specs.Order.{flat, Legal}
use Rattle.trace_reader.specs.Steps.{trace_ops}
use Rattle.report.proofs.one_run.report_without_counts.Goals as goal

pub legal_trace_text-requires : goal.legal_trace_text-requires
legal_trace_text-requires g c =
    let shows = c.requires.shows in
    subst (λ (rs : List Record). Legal (flat empty) (trace_ops c.args.trace.now) rs)
    (sym (c.records.ensures.records shows.0 shows.1)) shows.2
