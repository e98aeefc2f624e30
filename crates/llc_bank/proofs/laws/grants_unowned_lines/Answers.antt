use Rattle.llc_bank.proofs.LawProofs.{grants_unowned_lines}
use Rattle.llc_bank.proofs.laws.grants_unowned_lines.Goals as goal

pub returns : goal.returns
returns c = grants_unowned_lines
