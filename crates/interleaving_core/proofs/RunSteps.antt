-- A run goes on by one step.
use Rattle.std.proofs.Common.{List, [], ◌∷◌, ◌++◌, refl, subst, arith}
use Rattle.std.proofs.lemmas.Bool.Decides.{nat_tests}
use Rattle.machine_table.specs.Machine.{Machine}
use Rattle.machine_table.specs.declared.event.Event.{Event}
use Rattle.machine_table.specs.declared.event.Answer.{Answer}
use Rattle.machine_table.specs.SetUp.{SetUpAs}
use Rattle.interleaving_core.specs.StepAnswers.{Ran, Stepped}

pub ran_more : (es : List Event) (answers : List Answer) (old mid new : Machine) (e : Event) (a : Answer) →
    Ran old es answers mid → Stepped mid e a new → Ran old (es ++ e ∷ []) (answers ++ a ∷ []) new
ran_more [] [] old mid new e a same step = (new, subst (λ s. Stepped s e a new) same step, refl)
ran_more (x ∷ es) (y ∷ answers) old mid new e a (m, first, rest) step =
    (m, first, ran_more es answers m mid new e a rest step)
ran_more [] (y ∷ answers) old mid new e a never step = absurd never
ran_more (x ∷ es) [] old mid new e a never step = absurd never

pub set_up_on : (m n k : Machine) → SetUpAs m n → SetUpAs n k → SetUpAs m k
set_up_on m n k first second = grind (arith, nat_tests)
