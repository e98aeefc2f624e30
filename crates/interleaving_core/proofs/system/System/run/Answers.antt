use Rattle.std.proofs.Common.{◌++◌, [], ◌∷◌, List, length, length-append, take, refl, ap, sym, subst, ◌∙◌, arith}
use Rattle.std.proofs.lemmas.List.{take_all, take_more}
use Rattle.machine_table.specs.declared.event.Answer.{Answer}
use Rattle.machine_table.specs.declared.event.Event.{Event}
use Rattle.machine_theorem.proofs.Lemmas.{set_up_same}
use Rattle.interleaving_core.specs.StepAnswers.{Ran}
use Rattle.machine_theorem.specs.Kept.{Invariant}
use Rattle.interleaving_core.proofs.Throughout.{throughout}
use Rattle.interleaving_core.proofs.RunSteps.{ran_more, set_up_on}
use Rattle.interleaving_core.proofs.system.System.run.Goals as goal

pub loop-event-init : goal.loop-event-init
loop-event-init g c =
    let none = ap length c.in_ok-answers.ensures.items in
    record {
      ran = subst (λ (answers : List Answer). Ran c.args.self.now [] answers c.args.self.now)
          (sym c.in_ok-answers.ensures.items) refl;
      set_up = set_up_same c.args.self.now;
      many = omega (arith, none, c.in_ok-answers.ensures.capacity);
    }

pub loop-event-preserved : goal.loop-event-preserved
loop-event-preserved g c =
    let taken = take_more c.args.events.now c.loop-event.event-index c.event-item.result c.loop-event-test.true
    ∙ ap (λ (e : Event). take c.loop-event.event-index c.args.events.now ++ e ∷ []) (sym c.event-item.is) in
    let one = ap length c.add_answer.ensures.items in
    let more = length-append c.loop-event.answers.items (c.step-answer.result ∷ []) in
    record {
      ran = subst (λ (es : List Event). Ran c.args.self.now es c.add_answer.new.answers.items c.step-answer.new.self)
          (sym taken)
          (subst (λ (answers : List Answer). Ran c.args.self.now (take c.loop-event.event-index c.args.events.now
          ++ c.event-item.result ∷ []) answers c.step-answer.new.self) (sym c.add_answer.ensures.items)
          (ran_more _ _ _ _ _ _ _ c.loop-event.invariant.ran c.step-answer.ensures.stepped));
      set_up = set_up_on _ _ _ c.loop-event.invariant.set_up c.step-answer.ensures.set_up;
      many = omega (
        arith,
        one,
        more,
        c.loop-event.invariant.many,
        c.add_answer.ensures.capacity,
        c.loop-event-test.true,
      );
    }

pub returns-clause-throughout : goal.returns-clause-throughout
returns-clause-throughout g c = λ k.
    throughout c.args.self.now c.loop-event.self c.args.events.now c.loop-event.answers.items
    (subst Invariant c.self.view_is c.self.invariant.1)
    (subst (λ (es : List Event). Ran c.args.self.now es c.loop-event.answers.items c.loop-event.self)
    (take_all c.loop-event.event-index c.args.events.now c.loop-event-test.false) c.loop-event.invariant.ran) k
