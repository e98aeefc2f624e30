-- What is found of a line that was drawn.
use Rattle.std.specs.Prelude.{◌≡◌, ℕ, Bool, true, false, Option, Some, None, Result, Ok, Err}
use Rattle.machine_table.specs.declared.event.Event.{Event}
use Rattle.schedules.specs.SeedSchedule.{Choice, Evicts, Nothing}

abbrev pub is_eviction : Choice → Bool
is_eviction (Evicts e) = true
is_eviction _ = false

-- the entry that is drawn is this line's eviction; or there is none; or an allocation failed, where there is one
abbrev pub IsLine : {E : Type 0} → (ℕ → ℕ → Event) → Choice → Result (Option (ℕ × ℕ)) E → Type 0
IsLine eviction next (Ok None) = next ≡ Nothing
IsLine eviction next (Ok (Some x)) = next ≡ Evicts (eviction x.0 x.1)
IsLine eviction next (Err e) = is_eviction next ≡ true
