-- What is done first in a turn of a core's seat.
use Rattle.std.proofs.Common.{◌≡◌, ◌≢◌, None, Ok, refl}
use Rattle.physiological_order.specs.declared.operation.Record.{Record}
use Rattle.machine_table.specs.declared.event.Answer.{Answer}
use Rattle.machine_table.specs.declared.event.Answer.TheVariants as answer
use Rattle.machine_table.specs.declared.event.Refusal.{Refusal}
use Rattle.thread_driver.specs.Calls.{came_to}

-- an answer that is no record and no refusal
pub waits : (a : Answer) → ((r : Record) → a ≢ answer.Completed r) → ((r : Refusal) → a ≢ answer.Refused r) →
    Ok None ≡ came_to a
waits (answer.Completed r) done refused = absurd (done r refl)
waits (answer.Refused r) done refused = absurd (refused r refl)
waits _ done refused = refl
