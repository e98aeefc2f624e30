-- How many sets and ways a table of lines has, in a private cache and in a bank.
use Rattle.std.specs.Prelude.{ℕ, ◌≤◌}

-- 1 to 1,024 sets, and 1 to 16 ways
pub record IsGeometry (sets ways : ℕ) : Type 0 where
  pub some_sets : 1 ≤ sets
  pub most_sets : sets ≤ 1024
  pub some_ways : 1 ≤ ways
  pub most_ways : ways ≤ 16
