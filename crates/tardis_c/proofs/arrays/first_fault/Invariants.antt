use Rattle.std.proofs.Common.{take}
use Rattle.tardis_c.specs.Arrays.{HaveNone}
use Rattle.tardis_c.proofs.arrays.first_fault.Given as goal

abbrev pub invariant-loop-index : goal.invariant-loop-index
invariant-loop-index g l = HaveNone g.T.Plain.fault (take l.index l.items)
