use Rattle.llc_bank.proofs.LawProofs.{words_go_to_other_versions}
use Rattle.llc_bank.proofs.laws.words_go_to_other_versions.Goals as goal

pub returns : goal.returns
returns c = words_go_to_other_versions
