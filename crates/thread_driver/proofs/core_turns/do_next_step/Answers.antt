use Rattle.thread_driver.proofs.Lemmas.{plays_none}
use Rattle.thread_driver.proofs.core_turns.do_next_step.Goals as goal

pub returns-in-None-clause-plays : goal.returns-in-None-clause-plays
returns-in-None-clause-plays g c =
    plays_none g.P.Program.acts c.args.seat.now c.args.program.now c.requires.ahead
