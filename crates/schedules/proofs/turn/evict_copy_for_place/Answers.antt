use Rattle.std.proofs.Common.{◌≡◌, Some, None, ap, sym, rules, false}
use Rattle.std.proofs.lemmas.Result.{err_from_is_err_and}
use Rattle.machine_table.specs.declared.event.Event.TheVariants.{EvictCache}
use Rattle.machine_table.specs.Machine.{open_op}
use Rattle.interleaving_core.specs.LookUps.{victim_for_core}
use Rattle.schedules.specs.Parts.{Does, one, copy_leaves, makes_place}
use Rattle.schedules.specs.Notes.{at, standing}
use Rattle.schedules.proofs.Parts.{did_as, none_made}
use Rattle.schedules.proofs.Events.{event_not_made, copy_gone}
use Rattle.schedules.proofs.turn.evict_copy_for_place.Goals as goal

pub returns-in_default : goal.returns-in_default
returns-in_default g c programs =
    let a = c.args in
    let none : victim_for_core a.system.now a.core (open_op a.system.now a.core) ≡ None = search rules in
    rw none (none_made g.P.Program.acts _ _)

pub returns-in_err-step_and_log : goal.returns-in_err-step_and_log
returns-in_err-step_and_log g c programs =
    let a = c.args in
    let e = err_from_is_err_and c.from_residual.result c.from_residual.ensures.1 in
    let line : victim_for_core a.system.now a.core (open_op a.system.now a.core) ≡ Some c.in-Some.line = search rules in
    rw (e.1, e.2) (did_as g.P.Program.acts _ _ _ (one (Does (EvictCache a.core c.in-Some.line))) (makes_place a.core)
    (ap (λ o. copy_leaves a.core o (standing (at a.system.now programs a.log.now) false)) (sym line)) (Some _)
    (event_not_made g.P.Program.acts _ a.system.now programs a.log.now
    (EvictCache a.core c.in-Some.line) c.in_err-step_and_log.field-0.0 c.step_and_log.new.system c.step_and_log.new.log
    c.in_err-step_and_log.ensures))

pub returns : goal.returns
returns g c programs =
    let a = c.args in
    let line : victim_for_core a.system.now a.core (open_op a.system.now a.core) ≡ Some c.in-Some.line = search rules in
    rw line (copy_gone g.P.Program.acts _ a.system.now programs a.log.now a.core c.in-Some.line _
    c.step_and_log.new.system c.step_and_log.new.log c.in_ok-step_and_log.ensures)
