use Rattle.std.proofs.Common.{◌≡◌, ℕ, take}
use Rattle.physiological_order.specs.Faults.{issued_by}
use Rattle.tardis_c.specs.Plain.{issued_of}
use Rattle.tardis_c.proofs.arrays.issued_lists.Given as goal

abbrev pub invariant-loop-operation : goal.invariant-loop-operation
invariant-loop-operation l =
    (core : ℕ) → issued_by l.lists.items core ≡ issued_of (take l.operation-index l.operations) core
