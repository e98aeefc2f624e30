use Rattle.schedules.proofs.RoundSteps.{rounds_give_steps}
use Rattle.schedules.proofs.SeedSteps.{seeds_give_steps}
use Rattle.schedules.proofs.policies.run_by_pace.Goals as goal

pub run_schedule-requires-clause-gives : goal.run_schedule-requires-clause-gives
run_schedule-requires-clause-gives g c = rounds_give_steps g.P.Program.acts (Unit {0})

pub run_schedule-requires-in-FairRounds-clause-gives : goal.run_schedule-requires-in-FairRounds-clause-gives
run_schedule-requires-in-FairRounds-clause-gives g c = rounds_give_steps g.P.Program.acts (Unit {0})

pub run_schedule-end-requires-clause-gives : goal.run_schedule-end-requires-clause-gives
run_schedule-end-requires-clause-gives g c = seeds_give_steps g.P.Program.acts
