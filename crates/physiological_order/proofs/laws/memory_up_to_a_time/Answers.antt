use Rattle.physiological_order.proofs.History.{memory_at-placed_before, memory_at-placed_keeps}
use Rattle.physiological_order.proofs.History.{memory_at-placed_writes, memory_at-end}
use Rattle.physiological_order.proofs.ArrangedRecords.{Sorted-from_Ascends}
use Rattle.physiological_order.proofs.laws.memory_up_to_a_time.Goals as goal

pub returns-clause-before : goal.returns-clause-before
returns-clause-before c = memory_at-placed_before

pub returns-clause-keeps : goal.returns-clause-keeps
returns-clause-keeps c = memory_at-placed_keeps

pub returns-clause-writes : goal.returns-clause-writes
returns-clause-writes c = λ opening next records time word value ascends unused gives later.
    memory_at-placed_writes opening next records time word value (Sorted-from_Ascends records ascends) unused gives
    later

pub returns-clause-end : goal.returns-clause-end
returns-clause-end c = memory_at-end
