use Rattle.std.proofs.Common.{◌≡◌, ◌+◌, ◌%◌, length}
use Rattle.schedules.specs.SeedSchedule.{line_events}
use Rattle.schedules.proofs.seed.drawn_line.Given as goal

abbrev pub invariant-loop-holder : goal.invariant-loop-holder
invariant-loop-holder g l =
    length (line_events g.H.Holder.eviction (g.H.Holder.lines l.fn.system) l.holder) + l.at ≡ l.b % l.total
