use Rattle.std.proofs.Common.{◌≡◌, None, true, false, rules}
use Rattle.std.specs.Prelude.{is_some}
use Rattle.machine_table.specs.Machine.{open_op}
use Rattle.schedules.specs.RoundSchedule.{steps_on, tries_twice, attempts}
use Rattle.schedules.specs.Notes.{at, standing, end_in}
use Rattle.schedules.proofs.Parts.{did_then, did_first, did_as, none_made}
use Rattle.schedules.proofs.RoundSteps.{attempted, not_attempted}
use Rattle.schedules.proofs.round.core_turn.Goals as goal

pub returns-in-Ok-true : goal.returns-in-Ok-true
returns-in-Ok-true g c =
    let core = c.args.core in
    let acts = g.P.Program.acts in
    let n = c.begin_next_step.new in
    let has : is_some (open_op n.system core) ≡ true = search rules in
    did_then acts _ _ (steps_on acts core) (attempts acts core) c.in-Ok-true.ensures.did
    (end_in c.attempt_with_retry.result) (did_as acts _ _ _ (tries_twice acts core) (attempts acts core)
    (attempted acts core (open_op n.system core) (standing (at n.system n.programs n.log) false) has)
    (end_in c.attempt_with_retry.result) c.attempt_with_retry.ensures)

pub returns-in-Ok-false : goal.returns-in-Ok-false
returns-in-Ok-false g c =
    let core = c.args.core in
    let acts = g.P.Program.acts in
    let n = c.begin_next_step.new in
    let has : is_some (open_op n.system core) ≡ false = search rules in
    did_then acts _ _ (steps_on acts core) (attempts acts core) c.in-Ok-false.ensures.did None
    (rw (not_attempted acts core (open_op n.system core) (standing (at n.system n.programs n.log) false) has)
    (none_made acts _ (at n.system n.programs n.log)))

pub returns-in-Err : goal.returns-in-Err
returns-in-Err g c =
    let core = c.args.core in
    let acts = g.P.Program.acts in
    did_first acts _ _ _ (steps_on acts core) (attempts acts core) _ c.in-Err.ensures.did
