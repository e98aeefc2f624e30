use Rattle.std.proofs.Common.{ℕ, List, refl, subst}
use Rattle.litmus_reader.specs.ThreadSteps.{settled_thread}
use Rattle.sequential_machine.specs.Threads.{Goes}
use Rattle.sequential_machine.proofs.ThreadSteps.{settles, performs, none_left}
use Rattle.sequential_machine.proofs.laws.programs_are_threads.Goals as goal

pub returns-clause-opened : goal.returns-clause-opened
returns-clause-opened c = λ test s t registers left.
    subst (λ (rs : List ℕ). Goes s t s.memory (settled_thread t rs test.cells)) registers (settles t test.cells s left)

pub returns-clause-performed : goal.returns-clause-performed
returns-clause-performed c = λ s t program op stands next. performs s t program op _ stands next refl

pub returns-clause-finished : goal.returns-clause-finished
returns-clause-finished c = none_left
