use Rattle.std.proofs.Common.{◌∙◌, cond, ap, arith}
use Rattle.std.specs.Prelude.{is_some}
use Rattle.programs.specs.Acts.{next_in}
use Rattle.schedules.proofs.Events.{far_told, one_told}
use Rattle.schedules.proofs.look_ups.mark_step_done.Goals as goal

pub returns-clause-told : goal.returns-clause-told
returns-clause-told g c =
    let a = c.args in
    let acts = g.P.Program.acts in
    rw c.give_received.ensures (one_told acts a.programs.now a.log.now a.core a.received c.set_core_unfinished.new.self
    c.set_core_unfinished.ensures.same
    (c.set_core_unfinished.ensures.here ∙ ap (λ b. cond b 1 0) (c.is_some.ensures
    ∙ ap is_some c.next_step_of_core.ensures
    ∙ ap (λ ps. is_some (next_in acts ps a.core)) c.give_received.ensures)) c.set_core_unfinished.ensures.elsewhere)

pub returns-then-core-ge64-clause-told : goal.returns-then-core-ge64-clause-told
returns-then-core-ge64-clause-told g c =
    let a = c.args in
    rw c.give_received.ensures (far_told g.P.Program.acts a.programs.now a.log.now a.core a.received
    (omega (arith, c.if-core-ge64.true)))
