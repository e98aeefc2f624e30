-- The state whose parts a closed machine leaves.
use Rattle.machine_theorem.specs.States.{State}
use Rattle.closed_machine.specs.declared.run.Run.{Run}
use Rattle.closed_machine.specs.PartsOfState.{PartsOfState, state_of_parts}

-- the run has the parts of one reached and consistent state: what `close` answers has
abbrev pub Parts : Run → Type 0
Parts run = PartsOfState run.set_up run.cores.items run.banks.items run.slots.items run.records.items

-- that state
abbrev pub state_of_run : (run : Run) → Parts run → State
state_of_run run parts = state_of_parts parts
