use Rattle.sequential_machine.proofs.Steps.{both_receive_one, one_receives_zero}
use Rattle.sequential_machine.proofs.NeverBoth.{never_both}
use Rattle.sequential_machine.proofs.laws.store_buffering_runs.Goals as goal

pub returns-clause-both : goal.returns-clause-both
returns-clause-both c = both_receive_one

pub returns-clause-one : goal.returns-clause-one
returns-clause-one c = one_receives_zero

pub returns-clause-neither : goal.returns-clause-neither
returns-clause-neither c = never_both
