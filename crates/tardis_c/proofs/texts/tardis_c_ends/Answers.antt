use Rattle.std.proofs.Common.{subst}
use Rattle.report.specs.Ends.{HasNoEndsInMemory, IsEndsReport}
use Rattle.run_options.specs.declared.options.EndsOptions.{EndsOptions}
use Rattle.tardis_c.specs.Answers.{IsTold}
use Rattle.tardis_c.proofs.Told.{told}
use Rattle.tardis_c.proofs.texts.tardis_c_ends.Goals as goal

pub returns : goal.returns
returns c =
    let text = c.args.text.now in
    let came = c.ends_report-came in
    subst (λ (o : EndsOptions). IsTold (IsEndsReport o text) (HasNoEndsInMemory o text) c.args.buffer.now
    c.write_result.new.buffer c.write_result.new.long c.write_result.result) c.ends_options.ensures
    (told _ _ came.result _ _ _ _ came.ensures.report came.ensures.refused c.write_result.ensures)
