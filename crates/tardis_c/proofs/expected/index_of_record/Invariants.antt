use Rattle.std.proofs.Common.{◌≢◌, take, All}
use Rattle.tardis_c.proofs.expected.index_of_record.Given as goal

abbrev pub invariant-loop-index : goal.invariant-loop-index
invariant-loop-index l = All (λ r. r.number ≢ l.number) (take l.index l.records)
