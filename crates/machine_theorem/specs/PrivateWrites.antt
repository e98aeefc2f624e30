-- A run under private writes: a core that owns a line writes it again at the same time.
use Rattle.std.specs.Prelude.{ℕ, true, List, [], ◌∷◌, Some, None}
use Rattle.physiological_order.specs.declared.operation.Op.TheVariants.{Load, Store}
use Rattle.physiological_order.specs.declared.operation.Record.{Record}
use Rattle.machine_table.specs.declared.config.Config.{Config}
use Rattle.machine_table.specs.declared.event.Event.{Event}
use Rattle.machine_table.specs.declared.event.Event.TheVariants.{Issue, Attempt, Deliver}
use Rattle.machine_theorem.specs.StaleHit.{two_cores}

abbrev pub private_cores : Config
private_cores = record two_cores { private_write = true }

-- core 0 writes 1 to word 0, then 2, and reads it
abbrev pub private_writes : List Event
private_writes =
    Issue 0 (Store 0 1) ∷ Attempt 0 ∷ Deliver 0 ∷ Deliver 1 ∷ Deliver 2 ∷ Deliver 0 ∷ Deliver 3 ∷ Attempt 0
    ∷ Issue 0 (Store 0 2) ∷ Attempt 0
    ∷ Issue 0 (Load 0) ∷ Attempt 0 ∷ []

-- all at time 1: the second write needs no later one; the read receives this word
abbrev pub private_records : ℕ → List Record
private_records word =
    record { core = 0; place = 0; op = Store 0 1; received = None; ts = 1; number = 0 }
    ∷ record { core = 0; place = 1; op = Store 0 2; received = None; ts = 1; number = 1 }
    ∷ record { core = 0; place = 2; op = Load 0; received = Some word; ts = 1; number = 2 } ∷ []
