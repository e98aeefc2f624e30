use Rattle.schedules.proofs.RoundSteps.{rounds_give_steps}
use Rattle.schedules.proofs.rounds.drive_round.Goals as goal

pub drive_schedule-requires : goal.drive_schedule-requires
drive_schedule-requires g c = rounds_give_steps g.P.Program.acts (Unit {0})
