-- What a part does with a message that waits, that it drops, or that it has a case for.
use Rattle.std.specs.Prelude.{◌≡◌, ◌≢◌, ℕ, true, false, List, Some}
use Rattle.std.specs.Ordering.{nat_cmp}
use Rattle.std.specs.FinMap.{FinMap}
use Rattle.network.specs.declared.message.Message.{Message}
use Rattle.core_pts.specs.CoreTable.{CoreState, core_table}
use Rattle.llc_bank.specs.BankTable.{BankState, bank_table, bank_has_case}
use Rattle.dram_mts.specs.Table.{dram_table, dram_has_case}
use Rattle.machine_table.specs.declared.event.Answer.TheVariants.{Delivered, Started}
use Rattle.machine_table.specs.Step.{Drops, Makes, Stays, reacted}

-- a core that holds or drops a message stays as it is, and starts nothing on behalf of one
pub record CoresStay : Type 0 where
  pub stays : (core : CoreState) (message : Message) → Stays core (core_table core message)
  pub started : (core after : CoreState) (message started : Message) →
      reacted (core_table core message) ≢ Makes Started false (Some started) after

-- a bank that holds or drops a message stays as it is, and drops none that it has a case for; a DRAM answers each that
-- it has a case for
pub record BanksStay : Type 0 where
  pub stays : (bank : BankState) (message : Message) → Stays bank (bank_table bank message)
  pub dropped : (bank : BankState) (message : Message) → bank_has_case bank message ≡ true →
      reacted (bank_table bank message) ≢ Drops
  pub answered : (lines : FinMap nat_cmp (List ℕ)) (message : Message) → dram_has_case lines message ≡ true →
      (answer : Message) × (after : FinMap nat_cmp (List ℕ)) ×
      (reacted (dram_table lines message) ≡ Makes Delivered true (Some answer) after)
