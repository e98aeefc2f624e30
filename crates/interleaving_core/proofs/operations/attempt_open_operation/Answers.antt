use Rattle.std.specs.Result.{result_ok}
use Rattle.std.proofs.Common.{◌≡◌, Some, ap, sym, subst, refl, ◌∙◌}
use Rattle.core_pts.specs.CoreTable.{CoreState}
use Rattle.network.specs.declared.message.Body.TheVariants.{ExReq, ShReq}
use Rattle.network.specs.Mail.{Mail}
use Rattle.machine_table.specs.declared.event.Answer.{Answer}
use Rattle.interleaving_core.specs.PartChanges.{request_answer}
use Rattle.interleaving_core.proofs.ClosedOps.{attempt_requests, seen_beside}
use Rattle.interleaving_core.proofs.operations.attempt_open_operation.Goals as goal

pub returns-in-Ok-NeedShared-clause-done : goal.returns-in-Ok-NeedShared-clause-done
returns-in-Ok-NeedShared-clause-done c =
    let opens = seen_beside _ _ _ _ (sym c.open_op.ensures ∙ c.in-Some.is) in
    let is = sym c.attempt.ensures ∙ ap (λ r. (r, c.attempt.new.self)) (ap result_ok c.in-Ok-NeedShared.is
    ∙ ap Some c.in-Ok-NeedShared.field-0-is) in
    let kept = c.nothing_completed_keeps.ensures c.args.core.now c.attempt.new.self _ is refl in
    ap (λ (a : Answer). (a, c.send_core_request.new.core, c.send_core_request.new.flight.mail))
    c.answer_after_request.ensures
    ∙ subst (λ (x : Answer × CoreState × Mail).
    (request_answer c.send_core_request.result, c.send_core_request.new.core, c.send_core_request.new.flight.mail) ≡ x)
    (attempt_requests c.args.number c.args.count c.args.flight.now.capacity c.args.flight.now.mail c.args.core.now
    c.attempt.new.self _ _ (ShReq c.in-Ok-NeedShared.pts c.in-Ok-NeedShared.version) kept opens is refl)
    c.send_core_request.ensures.done

pub returns-in-Ok-NeedExclusive-clause-done : goal.returns-in-Ok-NeedExclusive-clause-done
returns-in-Ok-NeedExclusive-clause-done c =
    let opens = seen_beside _ _ _ _ (sym c.open_op.ensures ∙ c.in-Some.is) in
    let is = sym c.attempt.ensures ∙ ap (λ r. (r, c.attempt.new.self)) (ap result_ok c.in-Ok-NeedExclusive.is
    ∙ ap Some c.in-Ok-NeedExclusive.field-0-is) in
    let kept = c.nothing_completed_keeps.ensures c.args.core.now c.attempt.new.self _ is refl in
    ap (λ (a : Answer). (
      a,
      c.send_core_request-in-Ok-NeedExclusive.new.core,
      c.send_core_request-in-Ok-NeedExclusive.new.flight.mail,
    ))
    c.answer_after_request-in-Ok-NeedExclusive.ensures
    ∙ subst (λ (x : Answer × CoreState × Mail). (
      request_answer c.send_core_request-in-Ok-NeedExclusive.result,
      c.send_core_request-in-Ok-NeedExclusive.new.core,
      c.send_core_request-in-Ok-NeedExclusive.new.flight.mail,
    ) ≡ x)
    (attempt_requests c.args.number c.args.count c.args.flight.now.capacity c.args.flight.now.mail
    c.args.core.now c.attempt.new.self _ _ (ExReq c.in-Ok-NeedExclusive.version) kept opens is refl)
    c.send_core_request-in-Ok-NeedExclusive.ensures.done
