-- Which cores do what, as sets of cores: core c is in a set exactly if bit c of a number is set.
use Rattle.std.specs.Prelude.{◌≡◌, ◌≤◌, ◌&&◌, ℕ, Bool, false, not, List, length, Option, Some, None, is_some}
use Rattle.std.specs.Prelude.{if◌then◌else◌, slice_get}
use Rattle.std.specs.Int.{bit_at}
use Rattle.core_pts.specs.CoreTable.{CoreState}
use Rattle.machine_table.specs.Machine.{Machine}
use Rattle.interleaving_core.specs.declared.core_masks.CoreMasks.{CoreMasks}

-- whether a core has no open operation, and whether it has one whose request isn't out; of a core that isn't there
-- neither is so
abbrev pub is_idle_of : Option CoreState → Bool
is_idle_of None = false
is_idle_of (Some core) = not (is_some core.open_op)

abbrev pub is_trying_of : Option CoreState → Bool
is_trying_of None = false
is_trying_of (Some core) = is_some core.open_op && not core.is_out

abbrev pub is_idle : Machine → ℕ → Bool
is_idle m core = is_idle_of (slice_get m.cores core)

abbrev pub is_trying : Machine → ℕ → Bool
is_trying m core = is_trying_of (slice_get m.cores core)

-- the set of the cores of which something holds
abbrev pub IsMask : ℕ → (ℕ → Bool) → Type 0
IsMask mask holds = (core : ℕ) → bit_at mask core ≡ (if holds core then 1 else 0)

-- the sets of such cores
pub record AreMasks (masks : CoreMasks) (cores : List CoreState) : Type 0 where
  pub few : length cores ≤ 64
  pub idle : IsMask masks.idle (λ core. is_idle_of (slice_get cores core))
  pub trying : IsMask masks.trying (λ core. is_trying_of (slice_get cores core))
