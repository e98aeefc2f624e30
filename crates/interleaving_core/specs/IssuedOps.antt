-- What cores are issued by a list of events with its answers.
use Rattle.std.specs.Prelude.{ℕ, ◌==◌, List, [], ◌∷◌, ◌++◌, if◌then◌else◌}
use Rattle.physiological_order.specs.declared.operation.Op.{Op}
use Rattle.machine_table.specs.declared.event.Event.{Event}
use Rattle.machine_table.specs.declared.event.Event.TheVariants.{Issue}
use Rattle.machine_table.specs.declared.event.Answer.{Answer}
use Rattle.machine_table.specs.declared.event.Answer.TheVariants.{Issued}

-- an Issue event issues its core its operation if the answer is Issued; no other event issues one
abbrev pub issued_at_event : ℕ → Event → Answer → List Op
issued_at_event core (Issue c op) Issued = if c == core then op ∷ [] else []
issued_at_event core _ _ = []

-- what a core is issued by a list of events, in order
abbrev pub issued_in : ℕ → List Event → List Answer → List Op
issued_in core (event ∷ events) (answer ∷ answers) = issued_at_event core event answer ++ issued_in core events answers
issued_in core _ _ = []
