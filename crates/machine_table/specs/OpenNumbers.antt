-- The numbers of the reasons why no machine was made.
use Rattle.std.specs.Prelude.{ℕ}
use Rattle.machine_table.specs.declared.config.OpenError.{OpenError}
use Rattle.machine_table.specs.declared.config.OpenError.TheVariants.{BadConfig, NoMemory}

abbrev pub number_of : OpenError → ℕ
number_of BadConfig = 1
number_of NoMemory = 2
