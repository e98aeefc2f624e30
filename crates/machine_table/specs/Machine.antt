-- The machine as data.
use Rattle.std.specs.Prelude.{ℕ, Bool, List, Option, Some, None, option_map, slice_get, slice_set}
use Rattle.std.specs.Ordering.{nat_cmp}
use Rattle.std.specs.FinMap.{FinMap}
use Rattle.physiological_order.specs.declared.operation.Op.{Op}
use Rattle.physiological_order.specs.declared.operation.Record.{Record}
use Rattle.network.specs.Mail.{Mail}
use Rattle.core_pts.specs.CoreTable.{CoreState}
use Rattle.llc_bank.specs.BankTable.{BankState}
use Rattle.machine_table.specs.declared.config.Config.{Config}

pub record Machine : Type 0 where
  pub config : Config
  -- the words that were set when the machine opened
  pub opening : FinMap nat_cmp ℕ
  pub cores : List CoreState
  pub banks : List BankState
  -- the words of the lines that each bank's DRAM was given
  pub drams : List (FinMap nat_cmp (List ℕ))
  -- the messages in flight
  pub mail : Mail
  -- the operations that each core was issued
  pub issued : List (List Op)
  pub records : List Record
  -- whether times are exhausted
  pub is_stopped : Bool

-- one part is replaced
abbrev pub with_core : Machine → ℕ → CoreState → Machine
with_core m c core = record m { cores = slice_set m.cores c core }

abbrev pub with_bank : Machine → ℕ → BankState → Machine
with_bank m b bank = record m { banks = slice_set m.banks b bank }

abbrev pub with_dram : Machine → ℕ → FinMap nat_cmp (List ℕ) → Machine
with_dram m b lines = record m { drams = slice_set m.drams b lines }

-- the open operation of a core; one that isn't there has none
abbrev pub operation_of : Option CoreState → Option Op
operation_of None = None
operation_of (Some core) = core.open_op

-- a core's open operation, and whether its request is out; a core that isn't there has none
abbrev pub open_op_of : Option CoreState → Option (Op × Bool)
open_op_of None = None
open_op_of (Some core) = option_map (λ op. (op, core.is_out)) core.open_op

abbrev pub open_op : Machine → ℕ → Option (Op × Bool)
open_op m core = open_op_of (slice_get m.cores core)
