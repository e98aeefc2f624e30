-- What a watcher makes of a run: how many messages are in flight after each event, and how many attempts waited.
use Rattle.std.specs.Prelude.{ℕ, ◌+◌, ◌%◌, ◌^◌, List, [], ◌∷◌, ◌++◌, length, Bool, true, false, if◌then◌else◌}
use Rattle.machine_table.specs.declared.event.Event.{Event}
use Rattle.machine_table.specs.declared.event.Answer.{Answer}
use Rattle.machine_table.specs.declared.event.Answer.TheVariants.{Waiting}
use Rattle.machine_table.specs.Machine.{Machine}

abbrev pub is_waiting : Answer → Bool
is_waiting Waiting = true
is_waiting _ = false

-- one more number, and one more attempt that waited, modulo 2^64
abbrev pub sees_messages : List ℕ × ℕ → Machine → Event → Answer → Machine → List ℕ × ℕ
sees_messages seen m event answer after =
    (seen.0 ++ length after.mail.messages ∷ [], if is_waiting answer then (seen.1 + 1) % 2 ^ 64 else seen.1)
