use Rattle.std.proofs.Common.{◌≡◌, ◌∙◌, Some, None, true, false, ap, sym, rules}
use Rattle.std.proofs.lemmas.Result.{err_from_is_err_and}
use Rattle.machine_table.specs.declared.event.Event.TheVariants.{Attempt}
use Rattle.machine_table.specs.declared.event.Answer.{Answer}
use Rattle.machine_table.specs.Machine.{Machine}
use Rattle.schedules.specs.Parts.{Does, one, only_if, finds_no_place, makes_place, is_no_room}
use Rattle.schedules.proofs.Parts.{did_then, did_first, did_if, did_not}
use Rattle.schedules.proofs.Events.{event_made, event_not_made, no_place_found}
use Rattle.schedules.proofs.turn.attempt_or_make_place.Goals as goal

pub returns-in_err-plain-clause-did : goal.returns-in_err-plain-clause-did
returns-in_err-plain-clause-did g c =
    let a = c.args in
    let acts = g.P.Program.acts in
    let e = err_from_is_err_and c.from_residual.result c.from_residual.ensures.1 in
    rw (e.1, e.2) (did_first acts _ _ _ (one (Does (Attempt a.core)))
    (only_if (finds_no_place a.system.now a.core) (makes_place a.core)) c.in_err-plain.field-0.0
    (event_not_made acts _ a.system.now a.programs.now a.log.now (Attempt a.core) c.in_err-plain.field-0.0
    c.attempt_and_log.new.system c.attempt_and_log.new.log c.in_err-plain.ensures))

pub returns-in_err-evict_copy_for_place-clause-did : goal.returns-in_err-evict_copy_for_place-clause-did
returns-in_err-evict_copy_for_place-clause-did g c =
    let a = c.args in
    let acts = g.P.Program.acts in
    let e = err_from_is_err_and c.from_residual-in_err-evict_copy_for_place.result
    c.from_residual-in_err-evict_copy_for_place.ensures.1 in
    let full : is_no_room _ ≡ true = search rules in
    let found : finds_no_place a.system.now a.core ≡ true =
    ap (λ (x : Answer × Machine). is_no_room x.0) (sym c.in_ok-plain.ensures.0) ∙ full in
    rw (e.1, e.2) (did_then acts _ _ (one (Does (Attempt a.core)))
    (only_if (finds_no_place a.system.now a.core) (makes_place a.core))
    (no_place_found acts _ a.system.now a.programs.now a.log.now a.core _ c.attempt_and_log.new.system
    c.attempt_and_log.new.log c.in_ok-plain.ensures full) (Some _)
    (did_if acts _ _ _ (finds_no_place a.system.now a.core) (makes_place a.core) found (Some _)
    (c.in_err-evict_copy_for_place.ensures a.programs.now)))

pub returns-then-is_no_room-clause-did : goal.returns-then-is_no_room-clause-did
returns-then-is_no_room-clause-did g c =
    let a = c.args in
    let acts = g.P.Program.acts in
    let full : is_no_room _ ≡ true = search rules in
    let found : finds_no_place a.system.now a.core ≡ true =
    ap (λ (x : Answer × Machine). is_no_room x.0) (sym c.in_ok-plain.ensures.0) ∙ full in
    did_then acts _ _ (one (Does (Attempt a.core))) (only_if (finds_no_place a.system.now a.core) (makes_place a.core))
    (no_place_found acts _ a.system.now a.programs.now a.log.now a.core _ c.attempt_and_log.new.system
    c.attempt_and_log.new.log c.in_ok-plain.ensures full) None
    (did_if acts _ _ _ (finds_no_place a.system.now a.core) (makes_place a.core) found None
    (c.in_ok-evict_copy_for_place.ensures a.programs.now))

pub returns-then-is_no_room-clause-full : goal.returns-then-is_no_room-clause-full
returns-then-is_no_room-clause-full g c =
    let full : is_no_room _ ≡ true = search rules in
    sym (ap (λ (x : Answer × Machine). is_no_room x.0) (sym c.in_ok-plain.ensures.0) ∙ full)

pub returns-clause-did : goal.returns-clause-did
returns-clause-did g c =
    let a = c.args in
    let acts = g.P.Program.acts in
    let room : is_no_room _ ≡ false = search rules in
    let found : finds_no_place a.system.now a.core ≡ false =
    ap (λ (x : Answer × Machine). is_no_room x.0) (sym c.in_ok-plain.ensures.0) ∙ room in
    did_then acts _ _ (one (Does (Attempt a.core))) (only_if (finds_no_place a.system.now a.core) (makes_place a.core))
    (event_made acts _ a.system.now a.programs.now a.log.now (Attempt a.core) _ c.attempt_and_log.new.system
    c.mark_operation_done.new.programs c.attempt_and_log.new.log c.mark_operation_done.new.log c.in_ok-plain.ensures
    c.mark_operation_done.ensures.done c.mark_operation_done.ensures.told)
    None (did_not acts _ _ (finds_no_place a.system.now a.core) (makes_place a.core) found)

pub returns-clause-full : goal.returns-clause-full
returns-clause-full g c =
    let room : is_no_room _ ≡ false = search rules in
    sym (ap (λ (x : Answer × Machine). is_no_room x.0) (sym c.in_ok-plain.ensures.0) ∙ room)
