use Rattle.std.proofs.lemmas.Result.{err_from_is_err_and}
use Rattle.machine_table.specs.declared.event.Event.TheVariants.{Deliver}
use Rattle.schedules.proofs.Events.{event_not_made, delivery_made}
use Rattle.schedules.proofs.turn.deliver_again.Goals as goal

pub returns-in_err-step_and_log : goal.returns-in_err-step_and_log
returns-in_err-step_and_log g c programs =
    let a = c.args in
    let e = err_from_is_err_and c.from_residual.result c.from_residual.ensures.1 in
    rw (e.1, e.2) (event_not_made g.P.Program.acts _ a.system.now programs a.log.now (Deliver a.number)
    c.in_err-step_and_log.field-0.0 c.step_and_log.new.system c.step_and_log.new.log c.in_err-step_and_log.ensures)

pub returns : goal.returns
returns g c programs =
    let a = c.args in
    delivery_made g.P.Program.acts _ a.system.now programs a.log.now a.number _ c.step_and_log.new.system
    c.step_and_log.new.log c.in_ok-step_and_log.ensures
