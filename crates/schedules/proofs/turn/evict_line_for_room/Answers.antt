use Rattle.std.proofs.Common.{◌≡◌, ◌∙◌, Some, None, true, false, ap, refl, sym, rules}
use Rattle.std.specs.Prelude.{◌&&◌}
use Rattle.std.proofs.lemmas.Result.{err_from_is_err_and}
use Rattle.machine_table.specs.declared.event.Event.TheVariants.{EvictBank, Deliver}
use Rattle.machine_table.specs.declared.event.Answer.{Answer}
use Rattle.machine_table.specs.Machine.{Machine}
use Rattle.machine_table.specs.Transition.{transition}
use Rattle.interleaving_core.specs.LookUps.{make_room}
use Rattle.interleaving_core.specs.PartChanges.{answer_in}
use Rattle.schedules.specs.Parts.{Does, one, only_if, line_leaves, makes_room, is_evicted}
use Rattle.schedules.specs.Notes.{at, standing, end_in}
use Rattle.schedules.proofs.Parts.{none_made, did_as, did_then, did_first, did_if}
use Rattle.schedules.proofs.Events.{event_not_made, line_gone}
use Rattle.schedules.proofs.turn.evict_line_for_room.Goals as goal

pub returns-in_default : goal.returns-in_default
returns-in_default g c programs =
    let none : make_room c.args.system.now c.args.number ≡ None = search rules in
    rw none (none_made g.P.Program.acts _ _)

pub returns-in_err-plain : goal.returns-in_err-plain
returns-in_err-plain g c programs =
    let a = c.args in
    let acts = g.P.Program.acts in
    let v = c.in-Some.victim in
    let e = err_from_is_err_and c.from_residual.result c.from_residual.ensures.1 in
    let line : make_room a.system.now a.number ≡ Some (v.0, v.1) = search rules in
    let again = a.is_fair && is_evicted (transition a.system.now (EvictBank v.0 v.1)).0 in
    rw (e.1, e.2) (did_as acts _ _ _ (line_leaves acts a.is_fair a.number (Some (v.0, v.1)))
    (makes_room acts a.is_fair a.number)
    (ap (λ o. line_leaves acts a.is_fair a.number o (standing (at a.system.now programs a.log.now) false)) (sym line))
    (Some _) (did_first acts _ _ _ (one (Does (EvictBank v.0 v.1))) (only_if again (one (Does (Deliver a.number))))
    c.in_err-plain.field-0.0 (event_not_made acts _ a.system.now programs a.log.now (EvictBank v.0 v.1)
    c.in_err-plain.field-0.0 c.step_and_log.new.system c.step_and_log.new.log c.in_err-plain.ensures)))

pub returns-then-is_evicted : goal.returns-then-is_evicted
returns-then-is_evicted g c programs =
    let a = c.args in
    let n = c.step_and_log.new in
    let acts = g.P.Program.acts in
    let v = c.in-Some.victim in
    let o = end_in c.deliver_again.result in
    let line : make_room a.system.now a.number ≡ Some (v.0, v.1) = search rules in
    let left : is_evicted (answer_in n.system.records c.in_ok-plain.plain) ≡ true = search rules in
    let gone : is_evicted (transition a.system.now (EvictBank v.0 v.1)).0 ≡ true =
    ap (λ (x : Answer × Machine). is_evicted x.0) (sym c.in_ok-plain.ensures.0) ∙ left in
    let again = a.is_fair && is_evicted (transition a.system.now (EvictBank v.0 v.1)).0 in
    did_as acts _ _ _ (line_leaves acts a.is_fair a.number (Some (v.0, v.1))) (makes_room acts a.is_fair a.number)
    (ap (λ o. line_leaves acts a.is_fair a.number o (standing (at a.system.now programs a.log.now) false)) (sym line))
    o (did_then acts _ _ (one (Does (EvictBank v.0 v.1))) (only_if again (one (Does (Deliver a.number))))
    (line_gone acts _ a.system.now programs a.log.now v.0 v.1 _ n.system n.log c.in_ok-plain.ensures)
    o (did_if acts _ _ _ again (one (Does (Deliver a.number))) (rw (c.if-is_fair.true, gone) refl) o
    (c.deliver_again.ensures programs)))
