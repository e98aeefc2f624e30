use Rattle.std.proofs.Common.{◌≡◌, ◌∙◌, ℕ, IsTrue, Option, None, true, false, ap, sym, rules}
use Rattle.std.proofs.lemmas.Result.{err_from_is_err_and}
use Rattle.machine_table.specs.declared.event.Event.TheVariants.{Deliver}
use Rattle.machine_table.specs.declared.event.Answer.{Answer}
use Rattle.machine_table.specs.Machine.{Machine}
use Rattle.machine_table.specs.Transition.{transition}
use Rattle.schedules.specs.Parts.{Does, one, only_if, line_leaves, makes_room, is_held}
use Rattle.schedules.specs.Notes.{at, end_in, standing}
use Rattle.schedules.proofs.Parts.{did_then, did_first, did_if, did_not, did_nothing}
use Rattle.schedules.proofs.Events.{event_not_made, delivery_made}
use Rattle.schedules.proofs.turn.deliver_or_make_room.Goals as goal

pub returns-in_err-plain : goal.returns-in_err-plain
returns-in_err-plain g c programs =
    let a = c.args in
    let acts = g.P.Program.acts in
    let e = err_from_is_err_and c.from_residual.result c.from_residual.ensures.1 in
    rw (e.1, e.2) (did_first acts _ _ _ (one (Does (Deliver a.number)))
    (only_if (is_held (transition a.system.now (Deliver a.number)).0) (makes_room acts a.is_fair a.number))
    c.in_err-plain.field-0.0 (event_not_made acts _ a.system.now programs a.log.now (Deliver a.number)
    c.in_err-plain.field-0.0 c.deliver_and_log.new.system c.deliver_and_log.new.log c.in_err-plain.ensures.noted))

pub returns-then-waits : goal.returns-then-waits
returns-then-waits g c programs =
    let a = c.args in
    let acts = g.P.Program.acts in
    let waits : IsTrue c.deliver_and_log.new.waits = search rules in
    let behind = at c.deliver_and_log.new.system programs c.deliver_and_log.new.log in
    did_then acts _ _ (one (Does (Deliver a.number)))
    (only_if (is_held (transition a.system.now (Deliver a.number)).0) (makes_room acts a.is_fair a.number))
    (delivery_made acts _ a.system.now programs a.log.now a.number _ c.deliver_and_log.new.system
    c.deliver_and_log.new.log c.in_ok-plain.ensures.noted) None
    (did_nothing acts _ behind _ (makes_room acts a.is_fair a.number)
    (ap (λ (o : Option (ℕ × ℕ)). line_leaves acts a.is_fair a.number o (standing behind false))
    (c.deliver_and_log.ensures.told waits)))

pub returns-then-is_held : goal.returns-then-is_held
returns-then-is_held g c programs =
    let a = c.args in
    let acts = g.P.Program.acts in
    let stays : is_held _ ≡ true = search rules in
    let held : is_held (transition a.system.now (Deliver a.number)).0 ≡ true =
    ap (λ (x : Answer × Machine). is_held x.0) (sym c.in_ok-plain.ensures.noted.0) ∙ stays in
    did_then acts _ _ (one (Does (Deliver a.number)))
    (only_if (is_held (transition a.system.now (Deliver a.number)).0) (makes_room acts a.is_fair a.number))
    (delivery_made acts _ a.system.now programs a.log.now a.number _ c.deliver_and_log.new.system
    c.deliver_and_log.new.log c.in_ok-plain.ensures.noted) (end_in c.evict_line_for_room.result)
    (did_if acts _ _ _ _ (makes_room acts a.is_fair a.number) held (end_in c.evict_line_for_room.result)
    (c.evict_line_for_room.ensures programs))

pub returns : goal.returns
returns g c programs =
    let a = c.args in
    let acts = g.P.Program.acts in
    let gone : is_held _ ≡ false = search rules in
    let held : is_held (transition a.system.now (Deliver a.number)).0 ≡ false =
    ap (λ (x : Answer × Machine). is_held x.0) (sym c.in_ok-plain.ensures.noted.0) ∙ gone in
    did_then acts _ _ (one (Does (Deliver a.number)))
    (only_if (is_held (transition a.system.now (Deliver a.number)).0) (makes_room acts a.is_fair a.number))
    (delivery_made acts _ a.system.now programs a.log.now a.number _ c.deliver_and_log.new.system
    c.deliver_and_log.new.log
    c.in_ok-plain.ensures.noted) None (did_not acts _ _ _ (makes_room acts a.is_fair a.number) held)
