use Rattle.std.proofs.Common.{◌<◌, ◌≤◌, ◌^◌}
use Rattle.schedules.proofs.SeedEntries.{Left}
use Rattle.schedules.proofs.seed.ready_core_at.Given as goal

abbrev pub invariant-loop-skipped : goal.invariant-loop-skipped
invariant-loop-skipped g l = record {
  left : Left g.P.Program.acts l._system l._programs l._system.config.cores l.ready l.left l._skipped;
  fits : l.left < 2 ^ 64;
  few : l._skipped ≤ l.place;
}
