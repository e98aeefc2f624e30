use Rattle.std.proofs.Common.{IsSome, refl, sym, subst, slice_get, ◌∙◌}
use Rattle.network.specs.NumberedMessages.{at_number}
use Rattle.machine_table.specs.Machine.{Machine}
use Rattle.machine_table.specs.SetUp.{SetUpAs}
use Rattle.interleaving_core.proofs.MemoryAnswers.{all_some, not_asked}
use Rattle.interleaving_core.proofs.Coherence.{step_found, step_keeps, step_set_up}
use Rattle.interleaving_core.proofs.system.System.step.Goals as goal

pub invariant_of-self : goal.invariant_of-self
invariant_of-self g c = step_keeps _ c.args.event _ _ c.self.invariant c.step-plain.ensures.stepped

pub returns-clause-set_up : goal.returns-clause-set_up
returns-clause-set_up g c = subst (λ (m : Machine). SetUpAs m c.step-plain.new.self) c.self.view_is
    (step_set_up _ c.args.event _ _ c.step-plain.ensures.stepped)

pub returns-clause-advanced : goal.returns-clause-advanced
returns-clause-advanced g c = λ core is none.
    not_asked c.self.inside.state c.args.event _ is refl (c.step-plain.ensures.memory (sym c.answer_in.ensures ∙ none))

pub returns-clause-completed : goal.returns-clause-completed
returns-clause-completed g c = λ core is.
    all_some (slice_get _ core) (λ x done none.
    not_asked c.self.inside.state c.args.event _ is refl (c.step-plain.ensures.memory (sym c.answer_in.ensures ∙ none)))

pub returns-clause-found : goal.returns-clause-found
returns-clause-found g c = λ number delivers there none.
    step_found _ c.args.event _ _ c.self.invariant.1 c.step-plain.ensures.stepped number delivers
    (subst (λ (m : Machine). IsSome (at_number number m.mail.messages)) (sym c.self.view_is) there)
    (sym c.answer_in.ensures ∙ none)
