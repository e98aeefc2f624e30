use Rattle.llc_bank.proofs.LawProofs.{evictions_raise_time}
use Rattle.llc_bank.proofs.laws.evictions_raise_time.Goals as goal

pub returns : goal.returns
returns c = evictions_raise_time
