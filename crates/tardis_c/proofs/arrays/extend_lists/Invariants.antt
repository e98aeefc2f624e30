use Rattle.std.proofs.Common.{◌≡◌, ◌-◌, ℕ, length}
use Rattle.physiological_order.specs.Faults.{issued_by}
use Rattle.tardis_c.proofs.arrays.extend_lists.Given as goal

abbrev pub invariant-loop-alloc : goal.invariant-loop-alloc
invariant-loop-alloc l = (core : ℕ) → issued_by l.lists.items core ≡ issued_by l.initial.lists.items core

abbrev pub decreases-loop-alloc : goal.decreases-loop-alloc
decreases-loop-alloc l = l.number - length l.lists.items
