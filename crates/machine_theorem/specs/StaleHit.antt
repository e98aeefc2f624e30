-- A run in which a core reads a word that another core has written since, and the history is legal all the same.
use Rattle.std.specs.Prelude.{ℕ, false, List, [], ◌∷◌, Some, None}
use Rattle.physiological_order.specs.declared.operation.Op.TheVariants.{Load, Store}
use Rattle.physiological_order.specs.declared.operation.Record.{Record}
use Rattle.machine_table.specs.declared.config.Config.{Config}
use Rattle.machine_table.specs.declared.event.Event.{Event}
use Rattle.machine_table.specs.declared.event.Event.TheVariants.{Issue, Attempt, Deliver}

-- two cores with small caches, one bank, lines of one word, leases of 10
abbrev pub two_cores : Config
two_cores = record {
  cores = 2;
  banks = 1;
  sets = 1;
  ways = 2;
  bank_sets = 1;
  bank_ways = 2;
  line_words = 1;
  lease = 10;
  messages = 8;
  opening_time = 0;
  private_write = false;
}

-- core 0 reads word 0, core 1 writes 7 to it, and core 0 reads it again on the copy that it still has
abbrev pub stale_hit : List Event
stale_hit =
    Issue 0 (Load 0) ∷ Attempt 0 ∷ Deliver 0 ∷ Deliver 1 ∷ Deliver 2 ∷ Deliver 0 ∷ Deliver 3 ∷ Attempt 0
    ∷ Issue 1 (Store 0 7) ∷ Attempt 1 ∷ Deliver 4 ∷ Deliver 5 ∷ Attempt 1
    ∷ Issue 0 (Load 0) ∷ Attempt 0 ∷ []

-- both reads receive what word 0 was at the opening: the second one comes before the write, by its time
abbrev pub stale_records : ℕ → List Record
stale_records word =
    record { core = 0; place = 0; op = Load 0; received = Some word; ts = 0; number = 0 }
    ∷ record { core = 1; place = 0; op = Store 0 7; received = None; ts = 11; number = 1 }
    ∷ record { core = 0; place = 1; op = Load 0; received = Some word; ts = 0; number = 2 } ∷ []
