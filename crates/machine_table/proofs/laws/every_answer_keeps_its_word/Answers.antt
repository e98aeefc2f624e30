use Rattle.machine_table.proofs.Cases.{every_answer, once_stopped}
use Rattle.machine_table.proofs.laws.every_answer_keeps_its_word.Goals as goal

pub returns-clause-answered : goal.returns-clause-answered
returns-clause-answered c = every_answer

pub returns-clause-stopped : goal.returns-clause-stopped
returns-clause-stopped c = once_stopped
