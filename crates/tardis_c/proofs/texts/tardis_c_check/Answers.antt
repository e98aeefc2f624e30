use Rattle.tardis_c.proofs.Told.{told}
use Rattle.tardis_c.proofs.texts.tardis_c_check.Goals as goal

pub returns : goal.returns
returns c =
    told _ _ c.check_report-came.result _ _ _ _ c.check_report-came.ensures.report c.check_report-came.ensures.refused
    c.write_result.ensures
