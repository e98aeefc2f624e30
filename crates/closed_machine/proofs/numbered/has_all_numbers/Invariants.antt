use Rattle.std.proofs.Common.{ℕ, ◌+◌, ◌<◌}
use Rattle.closed_machine.specs.Numbers.{Has}
use Rattle.closed_machine.proofs.numbered.has_all_numbers.Given as goal

-- all numbers so far are there
abbrev pub invariant-loop-j : goal.invariant-loop-j
invariant-loop-j g l = (k : ℕ) → k < l.j → Has g.T.Numbered.number l.parts (l.first + k)
