use Rattle.std.proofs.Common.{sym, subst}
use Rattle.report.specs.Litmus.{HasNoTestInMemory}
use Rattle.report.proofs.Refused.{refused}
use Rattle.report.proofs.litmus.litmus_test_of.Goals as goal

pub returns-in-Err-clause-refused : goal.returns-in-Err-clause-refused
returns-in-Err-clause-refused c =
    subst (HasNoTestInMemory c.args.bytes.now) (sym c.litmus_refusal.ensures)
    (refused c.args.bytes.now c.in-Err.error c.in-Err.ensures.fault c.in-Err.ensures.only
    c.in-Err.ensures.told c.in-Err.ensures.early c.in-Err.ensures.large)
