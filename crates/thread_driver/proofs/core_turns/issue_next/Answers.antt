use Rattle.thread_driver.proofs.Played.{plays_not, none_ahead}
use Rattle.thread_driver.proofs.core_turns.issue_next.Goals as goal

pub returns-in-Err-clause-plays : goal.returns-in-Err-clause-plays
returns-in-Err-clause-plays g c =
    plays_not g.P.Program.acts c.args.seat.now c.issue.new.seat c.args.program.now
    (none_ahead g.P.Program.acts c.args.seat.now c.args.program.now c.requires.none) c.in-Err.ensures.work
