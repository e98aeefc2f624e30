-- Whether the part that a message goes to has a case for it.
use Rattle.std.specs.Prelude.{Bool, false, Option, Some, None, slice_get}
use Rattle.network.specs.declared.message.Node.{Node}
use Rattle.network.specs.declared.message.Node.TheVariants.{Core, Bank, Dram}
use Rattle.network.specs.declared.message.Message.{Message}
use Rattle.core_pts.specs.CoreTable.{core_has_case}
use Rattle.llc_bank.specs.BankTable.{bank_has_case}
use Rattle.dram_mts.specs.Table.{dram_has_case}
use Rattle.machine_table.specs.Machine.{Machine}

-- whether a part has a case for the message; one that isn't there has none
abbrev pub takes : {S : Type 0} → (S → Message → Bool) → Option S → Message → Bool
takes has_case None message = false
takes has_case (Some part) message = has_case part message

abbrev pub has_case_at : Machine → Message → Node → Bool
has_case_at m message (Core c) = takes core_has_case (slice_get m.cores c) message
has_case_at m message (Bank b) = takes bank_has_case (slice_get m.banks b) message
has_case_at m message (Dram b) = takes dram_has_case (slice_get m.drams b) message

-- the part that the message goes to is there, and its table has a case for it
abbrev pub has_case : Machine → Message → Bool
has_case m message = has_case_at m message message.to
