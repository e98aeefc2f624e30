use Rattle.std.proofs.Common.{take}
use Rattle.tardis_c.specs.Writes.{IsLastWrite}
use Rattle.tardis_c.proofs.expected.last_earlier_write.Given as goal

abbrev pub invariant-loop-record : goal.invariant-loop-record
invariant-loop-record l = IsLastWrite l.faulty (take l.record-index l.records) l.last
