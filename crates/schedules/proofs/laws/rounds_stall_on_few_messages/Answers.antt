use Rattle.schedules.proofs.FewMessages.{stalls_whole}
use Rattle.schedules.proofs.laws.rounds_stall_on_few_messages.Goals as goal

pub returns : goal.returns
returns g c = λ config memory good fair keeps m opening programs limit events ended.
    stalls_whole g.P.Program.acts config good memory fair limit opening ended
