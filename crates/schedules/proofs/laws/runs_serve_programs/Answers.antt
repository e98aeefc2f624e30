use Rattle.schedules.proofs.ServedRuns.{runs_served}
use Rattle.schedules.proofs.laws.runs_serve_programs.Goals as goal

pub returns : goal.returns
returns g c = λ config memory earlier good.
    runs_served g.P.Program.acts config memory good
    (λ events. c.every_history_is_legal.ensures.consistent config memory events good) earlier
