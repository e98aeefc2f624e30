-- The parts in a machine's lists have their shape.
use Rattle.std.proofs.Common.{arith, ◌≡◌, ℕ, [], get_or, Some, slice_get}
use Rattle.std.proofs.lemmas.Option.{get_or_from_slice_get}
use Rattle.core_pts.specs.CoreTable.{CoreState}
use Rattle.llc_bank.specs.BankTable.{BankState}
use Rattle.machine_table.specs.Machine.{Machine}
use Rattle.machine_table.specs.Opening.{open_bank, open_core}
use Rattle.machine_theorem.specs.Shape.{IsCore, IsBank}
use Rattle.machine_theorem.specs.Kept.{Invariant}

pub core_shape : (m : Machine) → Invariant m → (c : ℕ) (core : CoreState) → slice_get m.cores c ≡ Some core →
    IsCore m.config c (get_or m.issued c []) core
core_shape m s c core at = grind (arith, get_or_from_slice_get m.cores c core (open_core m.config c) at)

pub bank_shape : (m : Machine) → Invariant m → (b : ℕ) (bank : BankState) → slice_get m.banks b ≡ Some bank →
    IsBank m.config b bank
bank_shape m s b bank at = grind (arith, get_or_from_slice_get m.banks b bank (open_bank m.config b) at)
