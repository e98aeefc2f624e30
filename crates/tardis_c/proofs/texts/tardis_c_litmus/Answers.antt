use Rattle.std.proofs.Common.{subst, sym}
use Rattle.report.specs.Litmus.{HasNoReportInMemory, IsLitmusReport}
use Rattle.run_options.specs.declared.options.LitmusOptions.{LitmusOptions}
use Rattle.worker_driver.specs.SetUp.{FollowsPolicy}
use Rattle.tardis_c.specs.Answers.{IsTold}
use Rattle.tardis_c.specs.Options.{is_set}
use Rattle.tardis_c.proofs.Told.{follows_a_policy, told}
use Rattle.tardis_c.proofs.texts.tardis_c_litmus.Goals as goal

pub litmus_report-came-requires : goal.litmus_report-came-requires
litmus_report-came-requires c =
    subst (λ (options : LitmusOptions). FollowsPolicy options.run) (sym c.litmus_options.ensures)
    (follows_a_policy (is_set c.args.options.now.by_seed) (is_set c.args.options.now.fair) c.args.options.now.seed)

pub returns : goal.returns
returns c =
    let text = c.args.text.now in
    let came = c.litmus_report-came in
    subst (λ (o : LitmusOptions). IsTold (IsLitmusReport o text) (HasNoReportInMemory o text) c.args.buffer.now
    c.write_result.new.buffer c.write_result.new.long c.write_result.result) c.litmus_options.ensures
    (told _ _ came.result _ _ _ _ came.ensures.report came.ensures.refused c.write_result.ensures)
