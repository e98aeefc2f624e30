use Rattle.std.proofs.Common.{take}
use Rattle.closed_machine.specs.LastWrites.{AreLast}
use Rattle.closed_machine.proofs.values.last_writes.Given as goal

abbrev pub invariant-loop-record : goal.invariant-loop-record
invariant-loop-record l = AreLast (take l.record-index l.records) l.lasts
