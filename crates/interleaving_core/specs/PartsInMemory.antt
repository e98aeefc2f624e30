-- The parts of a machine in memory, which its history isn't among.
use Rattle.std.specs.Prelude.{◌≡◌, ℕ, Bool, List}
use Rattle.std.specs.Ordering.{nat_cmp}
use Rattle.std.specs.FinMap.{FinMap}
use Rattle.network.specs.Flight.{Flight}
use Rattle.network.specs.Mail.{Mail}
use Rattle.core_pts.specs.CoreTable.{CoreState}
use Rattle.llc_bank.specs.BankTable.{BankState}
use Rattle.machine_table.specs.Machine.{Machine}
use Rattle.machine_theorem.specs.Kept.{Invariant}
use Rattle.interleaving_core.specs.declared.core_masks.CoreMasks.{CoreMasks}
use Rattle.interleaving_core.specs.Reservation.{IsFitted}

-- a machine with these parts
abbrev pub with_parts : Machine → List CoreState → List BankState → List (FinMap nat_cmp (List ℕ)) → Mail → Bool →
    Machine
with_parts m cores banks drams mail is_stopped =
    record m { cores = cores; banks = banks; drams = drams; mail = mail; is_stopped = is_stopped }

-- these parts are those of a machine that has the invariant, with room for so many records
pub record ArePartsOf (m : Machine) (room : ℕ) (cores : List CoreState) (banks : List BankState)
    (drams : List (FinMap nat_cmp (List ℕ))) (flight : Flight) (masks : CoreMasks) (is_stopped : Bool) : Type 0 where
  pub are : with_parts m cores banks drams flight.mail is_stopped ≡ m
  pub kept : Invariant m
  pub fits : IsFitted m.config flight cores m.records room masks
