use Rattle.std.proofs.Common.{None, Some, Ok, refl, sym, subst}
use Rattle.thread_driver.specs.Calls.{Attempted}
use Rattle.thread_driver.specs.Playing.{AttemptsWork, Plays}
use Rattle.thread_driver.proofs.KeptWork.{same_both}
use Rattle.thread_driver.proofs.Played.{plays_not, plays_done}
use Rattle.thread_driver.proofs.core_turns.attempt_for_program.Goals as goal

pub returns-in-Ok-None-clause-plays : goal.returns-in-Ok-None-clause-plays
returns-in-Ok-None-clause-plays g c =
    plays_not g.P.Program.acts c.args.seat.now c.attempt_open_op.new.seat c.args.program.now c.requires.ahead
    (subst (λ o. AttemptsWork (Ok o) c.args.seat.now c.attempt_open_op.new.seat) c.in-Ok-None.field-0-is
    c.in-Ok-None.ensures.work)

pub returns-in-Ok-None-clause-step : goal.returns-in-Ok-None-clause-step
returns-in-Ok-None-clause-step g c = (
  Ok None,
  c.attempt_open_op.new.seat,
  subst (λ o. Attempted c.args.machine.now (Ok o) c.args.seat.now c.attempt_open_op.new.seat) c.in-Ok-None.field-0-is
      c.in-Ok-None.ensures.attempted,
  (refl, refl, refl),
)

pub returns-in-Ok-Some-clause-plays : goal.returns-in-Ok-Some-clause-plays
returns-in-Ok-Some-clause-plays g c =
    subst (Plays g.P.Program.acts c.args.seat.now c.args.program.now c.attempt_open_op.new.seat) (sym c.done.ensures)
    (plays_done g.P.Program.acts c.in-Ok-Some.done c.args.seat.now c.attempt_open_op.new.seat c.args.program.now
    c.requires.ahead (subst (λ o. AttemptsWork (Ok o) c.args.seat.now c.attempt_open_op.new.seat)
    c.in-Ok-Some.field-0-is c.in-Ok-Some.ensures.work))

pub returns-in-Ok-Some-clause-step : goal.returns-in-Ok-Some-clause-step
returns-in-Ok-Some-clause-step g c = (
  Ok (Some c.in-Ok-Some.done),
  c.attempt_open_op.new.seat,
  subst (λ o. Attempted c.args.machine.now (Ok o) c.args.seat.now c.attempt_open_op.new.seat) c.in-Ok-Some.field-0-is
      c.in-Ok-Some.ensures.attempted,
  (refl, refl, c.done.ensures),
)

pub returns-in-Err-clause-plays : goal.returns-in-Err-clause-plays
returns-in-Err-clause-plays g c =
    plays_not g.P.Program.acts c.args.seat.now c.handle_refusal.new.seat c.args.program.now c.requires.ahead
    (same_both c.args.seat.now c.attempt_open_op.new.seat c.handle_refusal.new.seat c.in-Err.ensures.work
    c.handle_refusal.ensures.work)
