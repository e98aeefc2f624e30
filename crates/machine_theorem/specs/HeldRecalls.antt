-- Recalls in flight of the line of a core's open operation: the core holds them until the operation is completed.
use Rattle.std.specs.Prelude.{ℕ, ◌≤◌}
use Rattle.machine_table.specs.Machine.{Machine}
use Rattle.protocol.specs.Machine.{IsPinned, tally}
use Rattle.protocol.specs.Recalls.{recall_to, OwnsOrWill}
use Rattle.machine_theorem.specs.States.{seen}
use Rattle.machine_theorem.specs.View.{line_in, set_up, view}

-- each finds its core as the line's owner, now or after its grant
abbrev pub RecallsFindOwners : Machine → Type 0
RecallsFindOwners m =
    (line core : ℕ) → 1 ≤ tally (recall_to core) (line_in m line).messages →
    IsPinned (set_up m.config m.opening) (view m.config (seen m)).cores line core → OwnsOrWill core (line_in m line)
