use Rattle.thread_driver.specs.ThreadRuns.{machine_of}
use Rattle.thread_driver.proofs.laws.closed_machines_are_consistent.Goals as goal
use Rattle.closed_machine.specs.RunParts.{state_of_run}

pub returns : goal.returns
returns c = λ run parts.
    c.machines_with_the_invariant_are_consistent.ensures (machine_of run parts)
    (c.reached_states_have_the_invariant.ensures.invariant run.set_up.config run.set_up.memory (state_of_run run parts)
    parts.good parts.whole.reached)
