-- The table never answers that memory is wanted.
use Rattle.std.proofs.Common.{◌≡◌, ◌∙◌, sym, subst, true, false, Option, Some, None, IfSome, IsTrue}
use Rattle.std.proofs.lemmas.Bool.{false≢true}
use Rattle.machine_table.specs.declared.event.Event.{Event}
use Rattle.machine_table.specs.declared.event.Answer.{Answer}
use Rattle.machine_table.specs.declared.event.Answer.TheVariants.{Refused}
use Rattle.machine_table.specs.declared.event.Refusal.TheVariants.{NoMemory}
use Rattle.machine_table.specs.Answered.{Answered}
use Rattle.machine_table.specs.Machine.{Machine}
use Rattle.machine_table.specs.Transition.{transition}
use Rattle.machine_table.proofs.Lemmas.{every_answer}
use Rattle.interleaving_core.specs.StepAnswers.{asks_memory}

pub never_told : (m : Machine) (event : Event) (answer : Answer) (after : Machine) →
    (answer, after) ≡ transition m event → answer ≡ Refused NoMemory → ⊥
never_told m event answer after is none =
    subst (λ (a : Answer). Answered m a after) none
    (subst (λ (x : Answer × Machine). Answered m x.0 x.1) (sym is) (every_answer m event))

-- an event that asks for no memory
pub not_asked : (m : Machine) (event other : Event) → event ≡ other → asks_memory m other ≡ false →
    IsTrue (asks_memory m event) → ⊥
not_asked m event other is none asks =
    let two : false ≡ true = sym none ∙ subst (λ (e : Event). asks_memory m e ≡ true) is asks in false≢true two

pub all_some : {X : Type 0} {P : X → Type 0} (o : Option X) → ((x : X) → P x) → IfSome o P
all_some None each = tt
all_some (Some x) each = each x
