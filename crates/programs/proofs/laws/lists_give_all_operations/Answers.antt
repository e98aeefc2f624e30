use Rattle.programs.proofs.DoneOps.{all_given}
use Rattle.programs.proofs.laws.lists_give_all_operations.Goals as goal

pub returns : goal.returns
returns c = λ ops rest records performs ended. all_given ops rest records performs ended
