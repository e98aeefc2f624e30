use Rattle.std.proofs.Common.{◌≡◌, ◌+◌, ◌∙◌, ◌%◌, length, ap, subst, sym, arith}
use Rattle.std.specs.Prelude.{count_ones}
use Rattle.schedules.specs.SeedSchedule.{chosen, steps}
use Rattle.schedules.specs.Notes.{Reaches, at, end_in}
use Rattle.schedules.proofs.Parts.{none_made}
use Rattle.schedules.proofs.SeedEntries.{delivery_drawn, is_in_flight, no_entry, step_drawn, steps_count}
use Rattle.schedules.proofs.seed.step_core_or_deliver.Goals as goal

pub returns-then-at-count : goal.returns-then-at-count
returns-then-at-count g c =
    let a = c.args in
    let found = c.ready_core_at-core.ensures in
    let all : c.from.result + c.from-2.result ≡ count_ones c.ready_cores-ready.result
    + length a.system.now.mail.messages = omega (arith, c.from.ensures, c.from-2.ensures, c.messages.ensures) in
    rw (step_drawn g.P.Program.acts a.system.now a.programs.now a.b
    c.drawn_index-at.result (count_ones c.ready_cores-ready.result) c.ready_cores-ready.ensures.count
    (c.drawn_index-at.ensures ∙ ap (λ n. a.b % n) all) found.0 found.2) (c.step_core.ensures found.0 found.1)

pub unreachable-requires : goal.unreachable-requires
unreachable-requires g c =
    let a = c.args in
    let all : c.from.result + c.from-2.result ≡ count_ones c.ready_cores-ready.result
    + length a.system.now.mail.messages = omega (arith, c.from.ensures, c.from-2.ensures, c.messages.ensures) in
    is_in_flight g.P.Program.acts a.system.now a.programs.now a.b c.drawn_index-at.result
    (count_ones c.ready_cores-ready.result) c.ready_cores-ready.ensures.count
    (c.drawn_index-at.ensures ∙ ap (λ n. a.b % n) all) (omega (arith, all, c.if-total-eq0.false)) c.if-at-count.false
    (sym c.seek_message.ensures.number ∙ c.in-None.is)

pub returns : goal.returns
returns g c =
    let a = c.args in
    let acts = g.P.Program.acts in
    let all : c.from.result + c.from-2.result ≡ count_ones c.ready_cores-ready.result
    + length a.system.now.mail.messages = omega (arith, c.from.ensures, c.from-2.ensures, c.messages.ensures) in
    let is = delivery_drawn acts a.system.now a.programs.now a.b
    c.drawn_index-at.result (count_ones c.ready_cores-ready.result) c.ready_cores-ready.ensures.count
    (c.drawn_index-at.ensures ∙ ap (λ n. a.b % n) all) c.in-Some.number c.if-at-count.false
    (sym c.seek_message.ensures.number ∙ c.in-Some.is) in
    subst (λ choice. Reaches acts g.W.Watcher.watches (chosen acts choice) (at a.system.now a.programs.now a.log.now)
    (end_in c.deliver_or_make_room.result) (at c.deliver_or_make_room.new.system a.programs.now
    c.deliver_or_make_room.new.log)) (sym is)
    (rw c.seek_message.ensures.same at (c.deliver_or_make_room.ensures a.programs.now))

pub returns-then-total-eq0 : goal.returns-then-total-eq0
returns-then-total-eq0 g c =
    let a = c.args in
    let all : c.from.result + c.from-2.result ≡ count_ones c.ready_cores-ready.result
    + length a.system.now.mail.messages = omega (arith, c.from.ensures, c.from-2.ensures, c.messages.ensures) in
    rw (no_entry (steps g.P.Program.acts a.system.now a.programs.now) a.b
    (omega (
      arith,
      steps_count g.P.Program.acts a.system.now a.programs.now,
      c.ready_cores-ready.ensures.count,
      all,
      c.if-total-eq0.true,
    )))
    (none_made g.P.Program.acts _ _)
