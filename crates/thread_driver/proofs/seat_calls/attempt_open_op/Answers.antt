use Rattle.thread_driver.proofs.KeptWork.{attempted_stays}
use Rattle.thread_driver.proofs.Turned.{waits}
use Rattle.thread_driver.proofs.seat_calls.attempt_open_op.Goals as goal

pub returns-in_default-clause-attempted : goal.returns-in_default-clause-attempted
returns-in_default-clause-attempted c = (
  c.attempt.result,
  waits c.attempt.result c.in_default.not-Completed c.in_default.not-Refused,
  record { place = c.attempt.ensures.seat.1; attempt = c.attempt.ensures.attempt; sure = c.attempt.ensures.sure },
)

pub returns-in_default-clause-work : goal.returns-in_default-clause-work
returns-in_default-clause-work c =
    attempted_stays c.args.machine.now c.args.seat.now c.attempt.new.self c.attempt.result c.attempt.ensures.seat.1
    c.in_default.not-Completed c.attempt.ensures.attempt
