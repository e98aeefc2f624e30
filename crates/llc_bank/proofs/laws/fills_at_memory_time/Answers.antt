use Rattle.llc_bank.proofs.LawProofs.{fills_at_memory_time}
use Rattle.llc_bank.proofs.laws.fills_at_memory_time.Goals as goal

pub returns : goal.returns
returns c = fills_at_memory_time
