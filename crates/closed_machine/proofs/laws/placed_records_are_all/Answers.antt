use Rattle.machine_theorem.specs.States.{numbered}
use Rattle.closed_machine.proofs.Records.{all_placed}
use Rattle.closed_machine.proofs.laws.placed_records_are_all.Goals as goal

pub returns : goal.returns
returns c =
    λ config opening a placed good reached same stands.
    all_placed a.records placed a.issued config.cores same (c.records_are_in_order.ensures config opening a reached)
    (λ core.
    ((c.machines_with_the_invariant_are_consistent.ensures (numbered config opening a)
    (c.reached_states_have_the_invariant.ensures.invariant config opening a good reached)).issued core).in_order)
    stands
