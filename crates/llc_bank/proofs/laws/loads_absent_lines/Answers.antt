use Rattle.llc_bank.proofs.LawProofs.{loads_absent_lines}
use Rattle.llc_bank.proofs.laws.loads_absent_lines.Goals as goal

pub returns : goal.returns
returns c = loads_absent_lines
