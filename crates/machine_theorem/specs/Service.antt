-- What a run issued to each core, and what the core's program received: the program gave these operations, one after
-- the other, and received what each completed one did.
use Rattle.std.specs.Prelude.{◌≡◌, ℕ, ◌<◌, List, [], ◌++◌, length, map, Option, None}
use Rattle.std.specs.Prelude.{slice_get, slice_index_or}
use Rattle.std.specs.List.{AllByRecursion}
use Rattle.physiological_order.specs.declared.operation.Op.{Op}
use Rattle.physiological_order.specs.declared.operation.Record.{Record}
use Rattle.physiological_order.specs.Order.{Follows, of_core}
use Rattle.programs.specs.Acts.{Acts}
use Rattle.programs.specs.Performs.{Told}
use Rattle.machine_table.specs.Machine.{Machine, open_op, operation_of}
use Rattle.protocol.specs.Issued.{listed}

-- What a core was issued in all, earlier and later; the records that it got in between; the operation that is still
-- open; and its program, before and after, if it has one. The core had no open operation before.
pub record IsServed {P : Type 0} (acts : Acts P) (earlier later : List Op) (added : List Record)
    (still_open : Option Op) (before after : Option P) : Type 0 where
  -- in between it was issued the operations of the records, in their order, and then the one that is still open
  pub issued : later ≡ earlier ++ (map (λ r. r.op) added ++ listed still_open)
  -- each record has the next place in what the core was issued, and the operation there
  pub in_order : Follows (length earlier) later added
  -- its program gave them
  pub told : Told acts added still_open before after

-- the records added are of cores that there are, and each core that had no open operation was served, with its program
-- if it has one
pub record AreServed {P : Type 0} (acts : Acts P) (m after : Machine) (before programs : List P) : Type 0 where
  pub added : List Record
  pub records : after.records ≡ m.records ++ added
  pub there : AllByRecursion (λ r. r.core < m.config.cores) added
  pub each : (core : ℕ) → core < m.config.cores → open_op m core ≡ None →
      IsServed acts (slice_index_or m.issued core []) (slice_index_or after.issued core []) (of_core core added)
      (operation_of (slice_get after.cores core)) (slice_get before core) (slice_get programs core)
