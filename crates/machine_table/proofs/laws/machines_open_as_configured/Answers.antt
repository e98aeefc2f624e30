use Rattle.std.proofs.Common.{arith}
use Rattle.std.specs.FinMap.{entries}
use Rattle.machine_table.specs.Opening.{dram_of, open_bank, open_core}
use Rattle.machine_table.proofs.Openings.{row_at, row_many}
use Rattle.machine_table.proofs.laws.machines_open_as_configured.Goals as goal

pub returns-clause-many : goal.returns-clause-many
returns-clause-many c config opening = (
  row_many (open_core config) 0 config.cores,
  row_many (open_bank config) 0 config.banks,
  row_many (λ b. dram_of config b (entries opening)) 0 config.banks,
)

pub returns-clause-cores : goal.returns-clause-cores
returns-clause-cores c config opening core lt = row_at (open_core config) 0 config.cores core core lt (omega arith)

pub returns-clause-banks : goal.returns-clause-banks
returns-clause-banks c config opening bank lt = row_at (open_bank config) 0 config.banks bank bank lt (omega arith)
