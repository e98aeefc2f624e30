-- What the owner of a machine owns.
use Rattle.std.specs.Prelude.{Option, Some, None}
use Rattle.std.specs.Coded.{coded_option}
use base.Fml.{Fml, ftrue}
use base.Stored.{Coded}
use denote.RattleType.{RattleType}
use denote.RawPtr.{Ptr}
use Rattle.std.specs.Box.Ownership.{box_owns}
use Rattle.std.specs.Global.{Global}
use Rattle.std_heap.specs.contracts.GlobalAllocator.TheImpl.{ghosts}
use Rattle.interleaving_core.specs.contracts.histories.KeptHistory as kept
use Rattle.interleaving_core.specs.contracts.histories.KeptHistoryHistory.TheImpl as history
use Rattle.interleaving_core.specs.contracts.system.System as system
use Rattle.machine_table.specs.Machine.{Machine}

-- a machine in memory that keeps its history
abbrev pub system_row : RattleType
system_row = system.the_row kept.the_row history.ghosts

abbrev pub held_code : Coded (Option Machine)
held_code = coded_option system_row.coded

-- nothing; or the machine and the right to free its memory
abbrev pub owner_owns : Global → Ptr → Option Machine → Fml
owner_owns alloc at None = ftrue
owner_owns alloc at (Some machine) = box_owns (ghosts.dealloc_token alloc) system_row at machine
