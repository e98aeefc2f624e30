use Rattle.std.proofs.Common.{◌≡◌, ℕ, ◌<◌, ◌≤◌, cond}
use Rattle.std.specs.Prelude.{is_some}
use Rattle.std.specs.Int.{bit_at}
use Rattle.programs.specs.Acts.{next_in}
use Rattle.schedules.proofs.look_ups.unfinished_cores.Given as goal

abbrev pub invariant-loop-core : goal.invariant-loop-core
invariant-loop-core g l = record {
  asked : (core : ℕ) → core < l.core →
      bit_at l.mask core ≡ cond (is_some (next_in g.P.Program.acts l.programs core)) 1 0;
  none : (core : ℕ) → l.core ≤ core → bit_at l.mask core ≡ 0;
}
