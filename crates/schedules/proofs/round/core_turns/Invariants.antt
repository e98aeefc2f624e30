use Rattle.std.proofs.Common.{◌-◌}
use Rattle.schedules.specs.Parts.{for_each}
use Rattle.schedules.specs.RoundSchedule.{core_turn, core_turns, rising}
use Rattle.schedules.specs.Notes.{at}
use Rattle.schedules.proofs.Parts.{IsLeft}
use Rattle.schedules.proofs.round.core_turns.Given as goal

abbrev pub invariant-loop-core : goal.invariant-loop-core
invariant-loop-core g l =
    let acts = g.P.Program.acts in
    IsLeft acts g.W.Watcher.watches (core_turns acts l.fn.cores)
    (for_each acts (core_turn acts) (rising (l.fn.cores - l.core) l.core))
    (at l.fn.system l.fn.programs l.fn.log) (at l.system l.programs l.log)
