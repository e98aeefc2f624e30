-- What a bank may be set up with.
use Rattle.std.specs.Prelude.{◌^◌, ◌<◌, ◌≤◌}
use Rattle.llc_bank.specs.declared.config.BankConfig.{BankConfig}

-- the ranges of what a bank is made with: the banks, its number among them, and the lease
pub record IsInRange (config : BankConfig) : Type 0 where
  pub some_banks : 1 ≤ config.banks
  pub most_banks : config.banks ≤ 8
  pub number : config.number < config.banks
  pub some_lease : 1 ≤ config.lease
  pub most_lease : config.lease ≤ 2 ^ 32
