use Rattle.schedules.proofs.Stalls.{round_tried}
use Rattle.schedules.proofs.laws.rounds_without_progress_tried_all.Goals as goal

pub returns : goal.returns
returns g c = λ round s cores quiet in_time.
    round_tried g.P.Program.acts round s cores (record { quiet = quiet; in_time = in_time })
