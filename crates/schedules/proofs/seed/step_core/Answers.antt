use Rattle.std.proofs.Common.{Some, subst, sym, rules}
use Rattle.std.proofs.lemmas.Result.{err_from_is_err_and}
use Rattle.machine_table.specs.Machine.{open_op}
use Rattle.programs.specs.Acts.{next_in}
use Rattle.schedules.specs.SeedSchedule.{chosen}
use Rattle.schedules.specs.Notes.{Reaches, at}
use Rattle.schedules.proofs.SeedEntries.{core_does, core_tries}
use Rattle.schedules.proofs.seed.step_core.Goals as goal

pub returns-in_err-attempt_or_make_place : goal.returns-in_err-attempt_or_make_place
returns-in_err-attempt_or_make_place g c next only =
    let a = c.args in
    let e = err_from_is_err_and c.from_residual.result c.from_residual.ensures.1 in
    let is = core_tries a.core (open_op a.system.now a.core) (next_in g.P.Program.acts a.programs.now a.core) next
    (search rules) only in
    rw (e.1, e.2) (subst (λ choice. Reaches g.P.Program.acts g.W.Watcher.watches (chosen g.P.Program.acts choice)
    (at a.system.now a.programs.now a.log.now) (Some c.in_err-attempt_or_make_place.field-0.0)
    (at c.attempt_or_make_place.new.system c.attempt_or_make_place.new.programs c.attempt_or_make_place.new.log))
    (sym is) c.in_err-attempt_or_make_place.ensures.did)

pub returns-then-is_some : goal.returns-then-is_some
returns-then-is_some g c next only =
    let a = c.args in
    rw (core_tries a.core (open_op a.system.now a.core) (next_in g.P.Program.acts a.programs.now a.core) next
    (search rules) only) c.in_ok-attempt_or_make_place.ensures.did

pub returns : goal.returns
returns g c next only =
    rw (core_does c.args.core c.in-Some.next next (search rules)) c.do_program_step.ensures
