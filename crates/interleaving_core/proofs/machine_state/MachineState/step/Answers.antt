use Rattle.interleaving_core.proofs.MemoryAnswers.{never_told}
use Rattle.interleaving_core.proofs.machine_state.MachineState.step.Goals as goal

pub returns-in-Ok-clause-memory : goal.returns-in-Ok-clause-memory
returns-in-Ok-clause-memory g c = λ none.
    absurd (never_told _ c.args.event _ _ c.in-Ok.ensures.done none)
