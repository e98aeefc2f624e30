use Rattle.interleaving_core.proofs.GoodRanges.{flight_in_range}
use Rattle.interleaving_core.proofs.system.System.cores.Goals as goal

pub returns-clause-most : goal.returns-clause-most
returns-clause-most g c =
    rw (← c.self-inside.view_is) at (flight_in_range c.self.inside.state.config c.self.invariant.0).most_cores
