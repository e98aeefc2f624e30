use Rattle.std.proofs.Common.{◌≡◌, ◌++◌, take, drop}
use Rattle.tardis_c.proofs.system_looks.overwrite_front.Given as goal

abbrev pub invariant-loop-at : goal.invariant-loop-at
invariant-loop-at l = l.lines ≡ take l.at l.found ++ drop l.at l.initial.lines
