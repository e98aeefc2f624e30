use Rattle.llc_bank.proofs.LawProofs.{readers_are_leased}
use Rattle.llc_bank.proofs.laws.readers_are_leased.Goals as goal

pub returns : goal.returns
returns c = readers_are_leased
