use Rattle.std.proofs.lemmas.Result.{err_from_is_err_and}
use Rattle.schedules.proofs.Events.{event_made, event_not_made}
use Rattle.schedules.proofs.turn.make_event.Goals as goal

pub returns-in_err-plain : goal.returns-in_err-plain
returns-in_err-plain g c =
    let a = c.args in
    let e = err_from_is_err_and c.from_residual.result c.from_residual.ensures.1 in
    rw (e.1, e.2) (event_not_made g.P.Program.acts _ a.system.now a.programs.now a.log.now a.event.now
    c.in_err-plain.field-0.0 c.step_and_log.new.system c.step_and_log.new.log c.in_err-plain.ensures)

pub returns : goal.returns
returns g c =
    let a = c.args in
    event_made g.P.Program.acts _ a.system.now a.programs.now a.log.now a.event.now _ c.step_and_log.new.system
    c.mark_operation_done.new.programs c.step_and_log.new.log c.mark_operation_done.new.log c.in_ok-plain.ensures
    c.mark_operation_done.ensures.done c.mark_operation_done.ensures.told
