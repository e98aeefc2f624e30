use Rattle.std.proofs.Common.{take}
use Rattle.closed_machine.specs.LastWrites.{IsLast}
use Rattle.closed_machine.proofs.values.last_write.Given as goal

abbrev pub invariant-loop-record : goal.invariant-loop-record
invariant-loop-record l = IsLast l.addr (take l.record-index l.records) l.last
