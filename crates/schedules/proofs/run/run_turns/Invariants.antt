use Rattle.schedules.specs.Runs.{initial_position, plan_of}
use Rattle.schedules.specs.Notes.{IsAsked, at}
use Rattle.schedules.proofs.RunTurns.{IsAt}
use Rattle.schedules.proofs.run.run_turns.Given as goal

abbrev pub invariant-loop-made : goal.invariant-loop-made
invariant-loop-made g l = record {
  here :
      IsAt g.W.Watcher.watches (plan_of g.P.Program.acts g.S.Schedule.rule l.fn.limit)
      (initial_position g.P.Program.acts l.fn.system l.fn.programs l.fn.schedule) l.fn.log.watcher l._made
      (at l.system l.programs l.log) l.schedule;
  asked : IsAsked g.P.Program.acts l.programs l.log.unfinished;
}
