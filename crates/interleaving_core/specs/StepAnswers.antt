-- How a machine in memory follows the table: each event is answered as the table says, or, if it allocates and the
-- allocation fails, it is refused and leaves the machine as it was.
use Rattle.std.specs.Prelude.{◌≡◌, ◌⊎◌, ◌<◌, Bool, true, false, List, [], ◌∷◌, IsTrue}
use Rattle.std.specs.Prelude.{slice_get, option_map, unwrap_or}
use Rattle.network.specs.declared.message.Message.{Message}
use Rattle.network.specs.declared.message.Node.{Node}
use Rattle.network.specs.declared.message.Node.TheVariants.{Dram}
use Rattle.network.specs.NumberedMessages.{at_number}
use Rattle.dram_mts.specs.Table.{needs_memory}
use Rattle.machine_table.specs.declared.event.Event.{Event}
use Rattle.machine_table.specs.declared.event.Event.TheVariants.{Issue, Deliver}
use Rattle.machine_table.specs.declared.event.Answer.{Answer}
use Rattle.machine_table.specs.declared.event.Answer.TheVariants.{Issued, Refused}
use Rattle.machine_table.specs.declared.event.Refusal.TheVariants.{NoMemory}
use Rattle.machine_table.specs.Machine.{Machine}
use Rattle.machine_table.specs.Transition.{transition}

-- only opening an operation and sending a message allocate
abbrev pub TakesMemory : Machine → Answer × Machine → Type 0
TakesMemory m next = (next.0 ≡ Issued) ⊎ (m.mail.next < next.1.mail.next)

-- a message is the first store of its line in the DRAM that it goes to
abbrev pub is_first_store : Machine → Message → Node → Bool
is_first_store m x (Dram bank) = unwrap_or (option_map (λ dram. needs_memory dram x) (slice_get m.drams bank)) false
is_first_store m x _ = false

-- which events ask for memory: an issue, and the delivery of the first store of a line to its DRAM
abbrev pub asks_memory : Machine → Event → Bool
asks_memory m (Issue core op) = true
asks_memory m (Deliver n) = unwrap_or (option_map (λ x. is_first_store m x x.to) (at_number n m.mail.messages)) false
asks_memory m _ = false

-- one event; it is refused memory only if it asks for some and the table's answer takes some
abbrev pub Stepped : Machine → Event → Answer → Machine → Type 0
Stepped m event answer after = ((answer, after) ≡ transition m event) ⊎ ((answer ≡ Refused NoMemory) × (after ≡ m) ×
    TakesMemory m (transition m event) × IsTrue (asks_memory m event))

-- a list of events, one answer each, from the one machine to the other
abbrev pub Ran : Machine → List Event → List Answer → Machine → Type 0
Ran m [] [] after = after ≡ m
Ran m (event ∷ events) (answer ∷ answers) after =
    (next : Machine) × Stepped m event answer next × Ran next events answers after
Ran m [] (answer ∷ answers) after = ⊥
Ran m (event ∷ events) [] after = ⊥
