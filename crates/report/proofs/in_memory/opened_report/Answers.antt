use Rattle.std.proofs.Common.{◌≢◌, ℕ, List, Some, Result, Ok, Err, IfErr, inl, inr, arith}
use Rattle.std.proofs.lemmas.Result.{IfOk-weaker}
use Rattle.std.specs.FinMap.{FinMap}
use Rattle.std.specs.Ordering.{nat_cmp}
use Rattle.run_results.specs.declared.results.RunError.TheVariants.{Read}
use Rattle.run_results.specs.declared.results.RunError.{RunError}
use Rattle.trace_reader.specs.Grammar.{IsOpening}
use Rattle.report.specs.declared.outputs.Report.{Report}
use Rattle.report.specs.Openings.{HasNoOpenedReport}
use Rattle.report.specs.Verdicts.{HasNoVerdict, ReadsCounted}
use Rattle.report.proofs.in_memory.opened_report.Goals as goal

-- no call of a text in memory fails
no_verdict : (opening trace records : List ℕ) (words : FinMap nat_cmp ℕ) (r : Result Report RunError) →
    IsOpening opening words → IfErr r (λ e. e ≢ Read → HasNoVerdict (Some trace) (Some records) e) →
    ReadsCounted r 0 0 0 0 → IfErr r (HasNoOpenedReport opening trace records)
no_verdict opening trace records words (Ok report) is refused counted = tt
no_verdict opening trace records words (Err Read) is refused (inl more) = absurd (omega (arith, more.0))
no_verdict opening trace records words (Err Read) is refused (inr more) = absurd (omega (arith, more.1))
no_verdict opening trace records words (Err e) is refused counted = inr ((words, is), refused (λ same. cc))

pub returns-clause-report : goal.returns-clause-report
returns-clause-report c =
    IfOk-weaker c.check_sources.result _ _ (λ report told. (c.in-Ok.memory, c.in-Ok.ensures.read, told))
    c.check_sources.ensures.report

pub returns-clause-refused : goal.returns-clause-refused
returns-clause-refused c =
    no_verdict c.args.opening.now c.args.trace.now c.args.records.now c.in-Ok.memory c.check_sources.result
    c.in-Ok.ensures.read c.check_sources.ensures.refused c.check_sources.ensures.reads
