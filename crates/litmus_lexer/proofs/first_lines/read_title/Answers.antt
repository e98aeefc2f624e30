use Rattle.litmus_lexer.proofs.Titles.{title_cases}
use Rattle.litmus_lexer.proofs.first_lines.read_title.Goals as goal

pub returns-clause-title : goal.returns-clause-title
returns-clause-title c = title_cases _ _ c.title_of_line.ensures
