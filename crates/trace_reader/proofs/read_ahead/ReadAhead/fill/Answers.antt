use Rattle.std.proofs.Common.{◌≢◌, ◌++◌, ◌∷◌, ◌∙◌, [], arith, refl, inl, inr}
use Rattle.std.specs.Prelude.{Ok, true, false}
use Rattle.std.proofs.lemmas.Bool.{cases_lt}
use Rattle.std.proofs.lemmas.List.{length-append}
use Rattle.std.proofs.lemmas.Result.{err_from_is_err_and}
use Rattle.trace_reader.proofs.QueuedSteps.{more-taken, no-more, none-taken, still-some, too-few}
use Rattle.trace_reader.proofs.StreamLines.{yields-more, yields-none}
use Rattle.trace_reader.proofs.read_ahead.ReadAhead.fill.Goals as goal

pub steps-init : goal.steps-init
steps-init g c = record {
  taken = [];
  yields = yields-none _;
  kept = none-taken true c.args.self.now c.args.self.now.stream;
  needed = inl refl;
  left = omega arith;
  some = λ core lt. c.next_empty_queue-at.ensures.some core (omega arith) lt;
  none = c.next_empty_queue-at.ensures.none;
  counted = refl;
}

pub returns-in_err-take_next_step-clause-filled : goal.returns-in_err-take_next_step-clause-filled
returns-in_err-take_next_step-clause-filled g c =
    let i = c.steps.invariant in
    let error = err_from_is_err_and c.from_residual.result c.from_residual.ensures.1 in
    let not : c.from_residual.result ≢ Ok true = λ is. let e = error.1 in absurd cc in
    no-more c.args.wanted c.from_residual.result _ _ _ _ _ _ i.taken not i.yields i.kept i.needed
    (too-few c.args.wanted c.args.self.now.queues c.steps.self.queues i.taken c.steps.left c.steps.at i.left
    i.kept.queued
    i.none (c.needs_more_steps.ensures.more c.steps-test.true)) (c.in_err-take_next_step.ensures.none (λ e. absurd cc))

pub returns-then-not-branch-clause-filled : goal.returns-then-not-branch-clause-filled
returns-then-not-branch-clause-filled g c =
    let i = c.steps.invariant in
    no-more c.args.wanted (Ok false) _ _ _ _ _ _ i.taken (λ e. absurd cc) i.yields i.kept i.needed
    (too-few c.args.wanted c.args.self.now.queues c.steps.self.queues i.taken c.steps.left c.steps.at i.left
    i.kept.queued
    i.none (c.needs_more_steps.ensures.more c.steps-test.true))
    (c.in_ok-take_next_step.ensures.none (λ e. let not = c.if-not-branch.true in absurd cc))

pub steps-preserved : goal.steps-preserved
steps-preserved g c =
    let i = c.steps.invariant in
    let few = too-few c.args.wanted c.args.self.now.queues c.steps.self.queues i.taken c.steps.left c.steps.at i.left
    i.kept.queued i.none (c.needs_more_steps.ensures.more c.steps-test.true) in
    let one = c.in_ok-take_next_step.ensures.one (let is = c.if-not-branch.false in cc) in
    let longer = length-append i.taken (one.0 ∷ []) in
    let next = c.next_empty_queue-at-in-steps.ensures in
    record {
      taken = i.taken ++ one.0 ∷ [];
      yields = yields-more _ _ _ i.taken (one.0 ∷ []) i.yields one.1;
      kept = more-taken true c.args.self.now c.steps.self c.take_next_step.new.self i.taken (one.0 ∷ []) i.kept one.2;
      needed = inr (i.taken, one.0, refl, few);
      left = let s = c.saturating_sub-left.ensures in let is = i.left in omega (arith, s, is, longer);
      some = λ core lt. elim (cases_lt core c.steps.at) [
        | inl early ↦ still-some c.steps.self.queues c.take_next_step.new.self.queues (one.0 ∷ []) core one.2.queued
            (i.some core early)
        | inr late ↦ next.some core late lt
      ];
      none = next.none;
      counted = c.in_ok-take_next_step.ensures.none_failed ∙ i.counted;
    }
