-- The machine as a box has it, and what holds it besides.
use mir.Syntax.{impl, tnil, dnil}
use mathlib.Core.List.{[]}
use denote.RattleType.{RattleType}
use denote.Signature.{Slot, plain}
use Rattle.std_alloc.proofs.BoxSteps.Form.{Bx}
use Rattle.std_heap.specs.contracts.Global as heap
use Rattle.std_heap.specs.contracts.GlobalAllocator.TheImpl.{ghosts, dict}
use Rattle.std_heap.proofs.Global.TheLaws.{the_row_laws as heap_laws}
use Rattle.interleaving_core.specs.contracts.histories.KeptHistory as kept
use Rattle.interleaving_core.specs.contracts.histories.KeptHistoryHistory.TheImpl as history
use Rattle.interleaving_core.proofs.histories.KeptHistory.TheLaws.{the_row_laws as kept_laws}
use Rattle.interleaving_core.proofs.system.System.TheLaws.{the_row_laws as system_laws}
use Rattle.held_machine.specs.Ownership.{system_row}
use Rattle.held_machine.specs.contracts.owner.Owner as owner
use Rattle.held_machine.specs.contracts.parts.Parts as parts

abbrev pub E : Bx
E = record {
  row = system_row;
  laws = system_laws kept.the_row history.ghosts kept_laws;
  al = record { row = heap.the_row; laws = heap_laws; g = ghosts; d = dict; drops = impl [] tnil dnil };
}

abbrev pub ToParts : RattleType
ToParts = parts.the_row system_row heap.the_row ghosts

abbrev pub FromParts : Slot 0
FromParts = plain (λ _. ToParts)

abbrev pub FromOwner : Slot 0
FromOwner = plain (λ _. owner.the_row)
