use Rattle.schedules.proofs.SeedSteps.{seeds_give_steps}
use Rattle.schedules.proofs.seeds.drive_seed.Goals as goal

pub drive_schedule-driven-requires : goal.drive_schedule-driven-requires
drive_schedule-driven-requires g c = seeds_give_steps g.P.Program.acts
