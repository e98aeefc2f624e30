use Rattle.std.proofs.Common.{◌≡◌, Some, None, false, rules}
use Rattle.std.proofs.lemmas.Result.{err_from_is_err_and}
use Rattle.machine_table.specs.Machine.{open_op}
use Rattle.programs.specs.Acts.{next_in}
use Rattle.schedules.specs.Parts.{one}
use Rattle.schedules.specs.RoundSchedule.{step_action, steps_on}
use Rattle.schedules.specs.Notes.{at, standing}
use Rattle.schedules.proofs.Parts.{did_as, none_made}
use Rattle.schedules.proofs.RoundSteps.{has_step, no_step}
use Rattle.schedules.proofs.round.begin_next_step.Goals as goal

pub returns-then-is_some-clause-did : goal.returns-then-is_some-clause-did
returns-then-is_some-clause-did g c =
    let a = c.args in
    rw (no_step a.core (open_op a.system.now a.core) (next_in g.P.Program.acts a.programs.now a.core) _ (search rules))
    (none_made g.P.Program.acts _ _)

pub returns-in_default-clause-did : goal.returns-in_default-clause-did
returns-in_default-clause-did g c =
    let a = c.args in
    let free : open_op a.system.now a.core ≡ None = search rules in
    let ended : next_in g.P.Program.acts a.programs.now a.core ≡ None = search rules in
    rw (free, ended) (none_made g.P.Program.acts _ _)

pub returns-in_err-do_program_step-clause-did : goal.returns-in_err-do_program_step-clause-did
returns-in_err-do_program_step-clause-did g c =
    let a = c.args in
    let e = err_from_is_err_and c.from_residual.result c.from_residual.ensures.1 in
    let free : open_op a.system.now a.core ≡ None = search rules in
    let next : next_in g.P.Program.acts a.programs.now a.core ≡ Some c.in-Some.next = search rules in
    rw (e.1, e.2) (did_as g.P.Program.acts _ _ _ (one (step_action a.core c.in-Some.next))
    (steps_on g.P.Program.acts a.core)
    (has_step a.core _ _ c.in-Some.next (standing (at a.system.now a.programs.now a.log.now) false) free next) (Some _)
    c.in_err-do_program_step.ensures)

pub returns-clause-did : goal.returns-clause-did
returns-clause-did g c =
    let a = c.args in
    let free : open_op a.system.now a.core ≡ None = search rules in
    let next : next_in g.P.Program.acts a.programs.now a.core ≡ Some c.in-Some.next = search rules in
    rw (free, next) c.in_ok-do_program_step.ensures
