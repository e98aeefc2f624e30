-- What a watcher keeps of a run that keeps its records.
use Rattle.std.specs.Prelude.{true, List}
use Rattle.physiological_order.specs.declared.operation.Record.{Record}
use Rattle.interleaving_core.specs.PartChanges.{with_record}
use Rattle.schedules.specs.Watches.{Watches}

-- the records of what completed, behind those that were there; it is ready where it has room
abbrev pub keeps_records : {W : Type 0} → (W → List Record) → (W → Type 0) → Watches W
keeps_records records has_room = record {
  Seen = List Record;
  seen = records;
  sees = λ seen m event answer after. with_record seen answer;
  IsReady = λ watcher m event. has_room watcher;
  asks = true;
}
