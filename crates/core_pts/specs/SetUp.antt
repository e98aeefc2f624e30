-- What a core may be set up with.
use Rattle.std.specs.Prelude.{◌≡◌, ◌⊎◌, ◌^◌, ℕ, ◌<◌, ◌≤◌}
use Rattle.core_pts.specs.declared.config.CoreConfig.{CoreConfig}

-- there is a bank, and a line has one to eight words
pub record IsSetUp (banks line_words : ℕ) : Type 0 where
  pub some_banks : 0 < banks
  pub some_words : 0 < line_words
  pub most_words : line_words ≤ 8

-- the ranges of what a core is made with: its number, the banks, a line's words and the lease
pub record IsInRange (config : CoreConfig) : Type 0 where
  pub number : config.number < 64
  pub some_banks : 1 ≤ config.banks
  pub most_banks : config.banks ≤ 8
  pub words : (config.line_words ≡ 1) ⊎ (config.line_words ≡ 8)
  pub some_lease : 1 ≤ config.lease
  pub most_lease : config.lease ≤ 2 ^ 32
