use Rattle.std.proofs.Common.{◌≡◌, ℕ, [], length, subst, sym}
use Rattle.std.proofs.lemmas.Result.{err_from_is_err_and}
use Rattle.trace_reader.specs.contracts.read_ahead.ReadAhead.{the_view}
use Rattle.trace_reader.specs.Filling.{AheadState, HasTaken, HasTakenOne, Stops}
use Rattle.trace_reader.specs.Streams.{coming, where_known, Yields}
use Rattle.trace_reader.proofs.QueuedSteps.{held-taken, none-taken, stops-known}
use Rattle.trace_reader.proofs.read_ahead.ReadAhead.take_next_step.Goals as goal

pub returns-in_err-take_held_step-in-Ok-true-clause-none : goal.returns-in_err-take_held_step-in-Ok-true-clause-none
returns-in_err-take_held_step-in-Ok-true-clause-none g c = λ not.
    let shown = the_view c.self.inside in
    let held = c.hold_next_step.new.self in
    let left = g.S.Source.remaining c.hold_next_step.new.source in
    let before = g.S.Source.remaining c.args.source.now in
    subst (λ (s : AheadState). Yields (coming c.args.self.now.stream before) (coming s.stream left) []
    × HasTaken c.args.keeps c.args.self.now s []) (sym c.in_err-take_held_step-in-Ok-true.ensures.same)
    (subst (λ (s : AheadState). Yields (coming s.stream before) (coming held left) []
    × HasTaken c.args.keeps s (record shown { stream = held }) []) c.self.view_is
    (c.hold_next_step.ensures.kept, none-taken c.args.keeps shown held))

pub returns-in_err-take_held_step-in-Ok-true-clause-stops : goal.returns-in_err-take_held_step-in-Ok-true-clause-stops
returns-in_err-take_held_step-in-Ok-true-clause-stops g c =
    let p = err_from_is_err_and c.from_residual.result c.from_residual.ensures.1 in
    let e = c.in_err-take_held_step-in-Ok-true.field-0.0 in
    let failures = g.S.Source.failures in
    let known = g.S.Source.remaining c.args.source.now in
    let to_come = coming c.take_held_step.new.self.stream (g.S.Source.remaining c.hold_next_step.new.source) in
    let same : failures c.hold_next_step.new.source ≡ failures c.args.source.now = c.in-Ok-true.ensures.none_failed in
    let told : Stops (length c.args.self.now.queues) (failures c.args.source.now) (failures c.hold_next_step.new.source)
    (where_known known to_come) e =
    subst (λ (n : ℕ). Stops (length c.args.self.now.queues) (failures c.args.source.now) n (where_known known to_come)
    e)
    (sym same) (subst (λ (s : AheadState). Stops (length s.queues) (failures c.args.source.now)
    (failures c.args.source.now) (where_known known to_come) e) c.self.view_is
    (stops-known known to_come _ _ _ e (c.in_err-take_held_step-in-Ok-true.ensures.stops
    (g.S.Source.remaining c.hold_next_step.new.source) (failures c.args.source.now)))) in
    rw (p.1, p.2) told

pub returns-in-Err-clause-none : goal.returns-in-Err-clause-none
returns-in-Err-clause-none g c = λ not.
    let shown = the_view c.self.inside in
    let held = c.hold_next_step.new.self in
    let left = g.S.Source.remaining c.hold_next_step.new.source in
    let before = g.S.Source.remaining c.args.source.now in
    subst (λ (s : AheadState). Yields (coming s.stream before) (coming held left) []
    × HasTaken c.args.keeps s (record shown { stream = held }) []) c.self.view_is
    (c.hold_next_step.ensures.kept, none-taken c.args.keeps shown held)

pub returns-in_ok-take_held_step-in-Ok-true-clause-one : goal.returns-in_ok-take_held_step-in-Ok-true-clause-one
returns-in_ok-take_held_step-in-Ok-true-clause-one g c = λ is.
    let left = g.S.Source.remaining c.hold_next_step.new.source in
    let new = c.take_held_step.new.self in
    subst (λ (s : AheadState). HasTakenOne c.args.keeps (coming s.stream (g.S.Source.remaining c.args.source.now))
    (coming new.stream left) s new) c.self.view_is
    (held-taken c.args.keeps (the_view c.self.inside) new c.hold_next_step.new.self _ _ _ c.hold_next_step.ensures.kept
    (c.in_ok-take_held_step-in-Ok-true.ensures.one left))

pub returns-in-Ok-false-clause-none : goal.returns-in-Ok-false-clause-none
returns-in-Ok-false-clause-none g c = λ not.
    let shown = the_view c.self.inside in
    let held = c.hold_next_step.new.self in
    let left = g.S.Source.remaining c.hold_next_step.new.source in
    let before = g.S.Source.remaining c.args.source.now in
    subst (λ (s : AheadState). Yields (coming s.stream before) (coming held left) []
    × HasTaken c.args.keeps s (record shown { stream = held }) []) c.self.view_is
    (c.hold_next_step.ensures.kept, none-taken c.args.keeps shown held)
