use Rattle.text_lines.proofs.ByLines.{lines-none, lines-first, lines-shorter}
use Rattle.text_lines.proofs.laws.a_text_is_its_lines.Goals as goal

pub returns-clause-none : goal.returns-clause-none
returns-clause-none c = lines-none

pub returns-clause-first : goal.returns-clause-first
returns-clause-first c = lines-first

pub returns-clause-shorter : goal.returns-clause-shorter
returns-clause-shorter c = lines-shorter
