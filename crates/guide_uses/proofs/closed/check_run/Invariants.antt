use Rattle.std.proofs.Common.{◌≡◌, ℕ, ◌<◌, length}
use Rattle.physiological_order.specs.Faults.{issued_by}
use Rattle.closed_machine.specs.RunParts.{Parts, state_of_run}
use Rattle.guide_uses.proofs.closed.check_run.Given as goal

-- the lists so far are those of the cores below
abbrev pub invariant-loop-core : goal.invariant-loop-core
invariant-loop-core l =
    (length l.issued.items ≡ l.core)
    × ((parts : Parts l.run) (k : ℕ) → k < l.core → issued_by l.issued.items k ≡ (state_of_run l.run parts).issued k)
