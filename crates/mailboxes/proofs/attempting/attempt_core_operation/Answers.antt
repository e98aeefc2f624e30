use Rattle.std.specs.Result.{result_ok}
use Rattle.std.proofs.Common.{Some, ap, sym, refl, ◌∙◌}
use Rattle.network.specs.declared.message.Body.TheVariants.{ShReq, ExReq}
use Rattle.core_pts.specs.CoreTable.{to_bank}
use Rattle.machine_table.specs.Step.{attempt_open, attempted}
use Rattle.mailboxes.proofs.CoreFacts.{opened_is}
use Rattle.mailboxes.proofs.attempting.attempt_core_operation.Goals as goal

pub returns-in-Ok-NeedShared-clause-core : goal.returns-in-Ok-NeedShared-clause-core
returns-in-Ok-NeedShared-clause-core c =
    let opens = opened_is _ _ _ _ (sym c.open_op.ensures ∙ c.in-Some.is) in
    let is = sym c.attempt.ensures ∙ ap (λ r. (r, c.attempt.new.self)) (ap result_ok c.in-Ok-NeedShared.is
    ∙ ap Some c.in-Ok-NeedShared.field-0-is) in
    let kept = c.nothing_completed_keeps.ensures c.args.core.now c.attempt.new.self _ is refl in (
      kept,
      record {
        op = c.in-Some.op;
        body = ShReq c.in-Ok-NeedShared.pts c.in-Ok-NeedShared.version;
        request = c.to_bank.ensures.message
            ∙ (λ i.
            to_bank (kept i) (c.line_of-line.ensures i) (ShReq c.in-Ok-NeedShared.pts c.in-Ok-NeedShared.version));
        step = ap (attempt_open c.args.core.now) opens ∙ ap (attempted c.args.core.now c.in-Some.op) is;
      },
    )

pub returns-in-Ok-NeedExclusive-clause-core : goal.returns-in-Ok-NeedExclusive-clause-core
returns-in-Ok-NeedExclusive-clause-core c =
    let opens = opened_is _ _ _ _ (sym c.open_op.ensures ∙ c.in-Some.is) in
    let is = sym c.attempt.ensures ∙ ap (λ r. (r, c.attempt.new.self)) (ap result_ok c.in-Ok-NeedExclusive.is
    ∙ ap Some c.in-Ok-NeedExclusive.field-0-is) in
    let kept = c.nothing_completed_keeps.ensures c.args.core.now c.attempt.new.self _ is refl in (
      kept,
      record {
        op = c.in-Some.op;
        body = ExReq c.in-Ok-NeedExclusive.version;
        request = c.to_bank-in-Ok-NeedExclusive.ensures.message
            ∙ (λ i. to_bank (kept i) (c.line_of-line.ensures i) (ExReq c.in-Ok-NeedExclusive.version));
        step = ap (attempt_open c.args.core.now) opens ∙ ap (attempted c.args.core.now c.in-Some.op) is;
      },
    )
