use Rattle.std.proofs.Common.{◌≡◌, map, take}
use Rattle.tardis_c.specs.Plain.{record_of}
use Rattle.tardis_c.proofs.arrays.records_of_plain.Given as goal

abbrev pub invariant-loop-record : goal.invariant-loop-record
invariant-loop-record l = l.records.items ≡ map record_of (take l.record-index l.plain)
