-- What a step of the machine in memory keeps.
use Rattle.std.proofs.Common.{◌≡◌, ◌≢◌, inl, inr, ℕ, IsSome, true, sym, ◌∙◌, subst, arith}
use Rattle.std.proofs.lemmas.Bool.Decides.{nat_tests}
use Rattle.std.proofs.lemmas.Grind.{common_steps}
use Rattle.network.specs.NumberedMessages.{at_number}
use Rattle.machine_table.specs.declared.event.Event.{Event}
use Rattle.machine_table.specs.declared.event.Event.TheVariants.{Deliver}
use Rattle.machine_table.specs.declared.event.Answer.{Answer}
use Rattle.machine_table.specs.declared.event.Answer.TheVariants.{Refused}
use Rattle.machine_table.specs.declared.event.Refusal.TheVariants.{NoSuch}
use Rattle.machine_table.specs.Machine.{Machine}
use Rattle.machine_table.specs.SetUp.{SetUpAs, is_good}
use Rattle.machine_theorem.specs.Kept.{Invariant}
use Rattle.machine_theorem.proofs.Lemmas.{any_transition, delivery_found, messages_find_cases, set_up_same}
use Rattle.machine_theorem.proofs.Lemmas.{transition_same}
use Rattle.interleaving_core.specs.StepAnswers.{Stepped}
use Rattle.interleaving_core.specs.RecordOrder.{AreNumbered}
use Rattle.interleaving_core.proofs.ChangedParts.{had}
use Rattle.interleaving_core.proofs.InOrder.{step_numbers}

pub step_invariant : (m : Machine) (event : Event) (answer : Answer) (after : Machine) → Invariant m →
    Stepped m event answer after → Invariant after
step_invariant m event answer after invariant (inl is) =
    subst (λ (x : Answer × Machine). Invariant x.1) (sym is) (any_transition m invariant event)
step_invariant m event answer after invariant (inr none) = subst Invariant (sym none.1) invariant

pub step_set_up : (m : Machine) (event : Event) (answer : Answer) (after : Machine) → Stepped m event answer
    after → SetUpAs m after
step_set_up m event answer after (inl is) =
    subst (λ (x : Answer × Machine). SetUpAs m x.1) (sym is) (transition_same m event)
step_set_up m event answer after (inr none) = subst (SetUpAs m) (sym none.1) (set_up_same m)

-- what is always true of a machine in memory
pub step_keeps : (m : Machine) (event : Event) (answer : Answer) (after : Machine) →
    (is_good m.config ≡ true) × Invariant m × AreNumbered 0 m.records → Stepped m event answer after →
    (is_good after.config ≡ true) × Invariant after × AreNumbered 0 after.records
step_keeps m event answer after kept stepped =
    let q0 = step_set_up m event answer after stepped in let q1 = step_invariant m event answer after kept.1 stepped in
    let q2 = step_numbers m event answer after kept.2 stepped in grind (arith, nat_tests, q0, q1, q2)

-- the delivery of a message in flight finds its part, and its case there
pub step_found : (m : Machine) (event : Event) (answer : Answer) (after : Machine) → Invariant m →
    Stepped m event answer after →
    (number : ℕ) → event ≡ Deliver number → IsSome (at_number number m.mail.messages) → answer ≢ Refused NoSuch
step_found m event answer after invariant (inl is) number delivers there none =
    grind (arith, nat_tests, common_steps, delivery_found, had, messages_find_cases)
step_found m event answer after invariant (inr refused) number delivers there none =
    absurd (let z = sym refused.0 ∙ none in cc)
