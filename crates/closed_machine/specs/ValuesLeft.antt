-- The values that records leave in words of a memory.
use Rattle.std.specs.Prelude.{◌≡◌, ℕ, List, map}
use Rattle.physiological_order.specs.declared.operation.Record.{Record}
use Rattle.physiological_order.specs.Order.{Memory, Arrangement, replay_end}

-- the values of these words, in their order, once the operations of the records were performed on the memory, one
-- after the other by their times, and at equal times by their numbers
abbrev pub ValuesLeft : Memory → List Record → List ℕ → List ℕ → Type 0
ValuesLeft opening records words values = (arranged : List Record) → Arrangement records arranged →
    values ≡ map (replay_end opening (map (λ r. r.op) arranged)) words
