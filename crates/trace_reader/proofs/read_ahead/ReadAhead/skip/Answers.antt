use Rattle.std.proofs.Common.{◌++◌, ◌∷◌, ◌∙◌, [], false, arith, refl}
use Rattle.std.proofs.lemmas.Bool.Decides.{nat_tests}
use Rattle.std.proofs.lemmas.List.{length-append}
use Rattle.std.proofs.lemmas.Result.{err_from_is_err_and}
use Rattle.trace_reader.proofs.QueuedSteps.{more-taken, none-more, none-taken}
use Rattle.trace_reader.proofs.StreamLines.{yields-more, yields-none}
use Rattle.trace_reader.proofs.read_ahead.ReadAhead.skip.Goals as goal

pub steps-init : goal.steps-init
steps-init g c = record {
  taken = [];
  yields = yields-none _;
  kept = none-taken false c.args.self.now c.args.self.now.stream;
  some = refl;
  counted = refl;
}

pub returns-in_err-take_next_step-clause-skipped : goal.returns-in_err-take_next_step-clause-skipped
returns-in_err-take_next_step-clause-skipped g c =
    let i = c.steps.invariant in
    let error = err_from_is_err_and c.from_residual.result c.from_residual.ensures.1 in
    let none = c.in_err-take_next_step.ensures.none (λ e. absurd cc) in
    let all = none-more false _ _ _ _ _ _ i.taken i.yields i.kept none.0 none.1 in
    (i.taken, all.0, all.1, rw error.1 tt)

pub steps-preserved : goal.steps-preserved
steps-preserved g c =
    let i = c.steps.invariant in
    let one = c.in_ok-take_next_step.ensures.one (let is = c.if-branch.true in cc) in
    let longer = length-append i.taken (one.0 ∷ []) in
    record {
      taken = i.taken ++ one.0 ∷ [];
      yields = yields-more _ _ _ i.taken (one.0 ∷ []) i.yields one.1;
      kept = more-taken false c.args.self.now c.steps.self c.take_next_step.new.self i.taken (one.0 ∷ []) i.kept one.2;
      some = grind (arith, nat_tests, longer);
      counted = c.in_ok-take_next_step.ensures.none_failed ∙ i.counted;
    }

pub returns-clause-skipped : goal.returns-clause-skipped
returns-clause-skipped g c =
    let i = c.steps.invariant in
    let none = c.in_ok-take_next_step.ensures.none (λ e. let not = c.if-branch.false in absurd cc) in
    let all = none-more false _ _ _ _ _ _ i.taken i.yields i.kept none.0 none.1 in (i.taken, all.0, all.1, i.some)
