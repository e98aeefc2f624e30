use Rattle.closed_machine.proofs.Records.{stand}
use Rattle.closed_machine.proofs.laws.records_of_cores_stand_by_number.Goals as goal

pub returns : goal.returns
returns c =
    λ config opening a reached core.
    stand a.records (c.records_are_in_order.ensures config opening a reached) core
