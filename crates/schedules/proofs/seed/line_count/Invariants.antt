use Rattle.std.proofs.Common.{◌≡◌, ◌≤◌, ◌*◌, ◌^◌, length}
use Rattle.schedules.specs.SeedSchedule.{line_events}
use Rattle.schedules.proofs.seed.line_count.Given as goal

abbrev pub invariant-loop-holder : goal.invariant-loop-holder
invariant-loop-holder g l = record {
  counted : l.total ≡ length (line_events g.H.Holder.eviction (g.H.Holder.lines l.system) l.holder);
  bounded : l.total ≤ l.holder * 2 ^ 64;
}
