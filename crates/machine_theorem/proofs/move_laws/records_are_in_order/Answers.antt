use Rattle.machine_theorem.proofs.move_laws.records_are_in_order.Goals as goal
use Rattle.machine_theorem.proofs.ReachedParts.{records_in_order}

pub returns : goal.returns
returns c = λ config opening a reached k done is. records_in_order config opening a reached k done is
