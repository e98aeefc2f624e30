-- In which machines messages may be in flight, and how many.
use Rattle.std.specs.Prelude.{ℕ, ◌≤◌}

-- 1 to 64 cores, 1 to 8 banks, and room for 1 to 65,536 messages
pub record IsInRange (cores banks capacity : ℕ) : Type 0 where
  pub some_cores : 1 ≤ cores
  pub most_cores : cores ≤ 64
  pub some_banks : 1 ≤ banks
  pub most_banks : banks ≤ 8
  pub some_capacity : 1 ≤ capacity
  pub most_capacity : capacity ≤ 65536
