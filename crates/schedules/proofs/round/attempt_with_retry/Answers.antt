use Rattle.std.proofs.Common.{None, sym, ◌∙◌}
use Rattle.std.proofs.lemmas.Result.{err_from_is_err_and}
use Rattle.machine_table.specs.declared.event.Event.TheVariants.{Attempt}
use Rattle.schedules.specs.Parts.{Does, one, only_if, finds_no_place, tries}
use Rattle.schedules.specs.Notes.{end_in}
use Rattle.schedules.proofs.Parts.{did_then, did_first, did_if, did_not}
use Rattle.schedules.proofs.round.attempt_with_retry.Goals as goal

pub returns-in_err-attempt_or_make_place : goal.returns-in_err-attempt_or_make_place
returns-in_err-attempt_or_make_place g c =
    let a = c.args in
    let acts = g.P.Program.acts in
    let e = err_from_is_err_and c.from_residual.result c.from_residual.ensures.1 in
    rw (e.1, e.2) (did_first acts _ _ _ (tries acts a.core)
    (only_if (finds_no_place a.system.now a.core) (one (Does (Attempt a.core)))) _
    c.in_err-attempt_or_make_place.ensures.did)

pub returns-then-branch : goal.returns-then-branch
returns-then-branch g c =
    let a = c.args in
    let acts = g.P.Program.acts in
    let full = finds_no_place a.system.now a.core in
    did_then acts _ _ (tries acts a.core) (only_if full (one (Does (Attempt a.core))))
    c.in_ok-attempt_or_make_place.ensures.did
    (end_in c.make_event.result) (did_if acts _ _ _ full (one (Does (Attempt a.core)))
    (sym c.in_ok-attempt_or_make_place.ensures.full ∙ c.if-branch.true) (end_in c.make_event.result)
    c.make_event.ensures)

pub returns : goal.returns
returns g c =
    let a = c.args in
    let acts = g.P.Program.acts in
    let full = finds_no_place a.system.now a.core in
    did_then acts _ _ (tries acts a.core) (only_if full (one (Does (Attempt a.core))))
    c.in_ok-attempt_or_make_place.ensures.did
    None (did_not acts _ _ full (one (Does (Attempt a.core))) (sym c.in_ok-attempt_or_make_place.ensures.full
    ∙ c.if-branch.false))
