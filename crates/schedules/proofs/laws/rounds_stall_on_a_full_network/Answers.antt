use Rattle.schedules.proofs.Stalls.{stalls_since}
use Rattle.schedules.proofs.laws.rounds_stall_on_a_full_network.Goals as goal

pub returns : goal.returns
returns g c = λ config memory earlier good running fair keeps m opening programs limit events ended.
    stalls_since g.P.Program.acts config good memory earlier fair limit opening running ended
