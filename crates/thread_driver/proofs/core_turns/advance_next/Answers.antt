use Rattle.std.proofs.Common.{sym, subst}
use Rattle.thread_driver.specs.Playing.{Plays}
use Rattle.thread_driver.proofs.Played.{plays_not, plays_advance, none_ahead}
use Rattle.thread_driver.proofs.core_turns.advance_next.Goals as goal

pub returns-in-Ok-clause-plays : goal.returns-in-Ok-clause-plays
returns-in-Ok-clause-plays g c =
    subst (Plays g.P.Program.acts c.args.seat.now c.args.program.now c.advance.new.seat) (sym c.done.ensures)
    (plays_advance g.P.Program.acts c.args.seat.now c.advance.new.seat c.args.program.now c.requires.none
    c.requires.next c.advance.ensures.work)

pub returns-in-Err-clause-plays : goal.returns-in-Err-clause-plays
returns-in-Err-clause-plays g c =
    plays_not g.P.Program.acts c.args.seat.now c.advance.new.seat c.args.program.now
    (none_ahead g.P.Program.acts c.args.seat.now c.args.program.now c.requires.none) c.advance.ensures.work
