use Rattle.thread_driver.proofs.Reports.{turns_decide}
use Rattle.thread_driver.proofs.laws.turns_decide_the_end.Goals as goal

pub returns-clause-over : goal.returns-clause-over
returns-clause-over g c m fair limit cores cores' banks banks' programs programs' e ran = (ran.done, ran.all_done)

pub returns-clause-decided : goal.returns-clause-decided
returns-clause-decided g c m fair limit cores cores' banks banks' programs programs' e ran left =
    turns_decide g.P.Program.acts m fair limit cores cores' banks banks' programs programs' e ran left
