use Rattle.seat_rule.proofs.Closings.{ends}
use Rattle.seat_rule.proofs.laws.closed_machines_are_one_state.Goals as goal

pub returns : goal.returns
returns c =
    λ z id w words slots count good live final found.
    ends c.laws_of_states.ensures z id w words slots count good live final found
