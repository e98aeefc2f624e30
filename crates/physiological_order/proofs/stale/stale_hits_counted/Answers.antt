use Rattle.std.proofs.Common.{◌≡◌, ℕ, ◌+◌, ◌*◌, ◌≤◌, length, cond, take, refl, sym, ap, ap₂, subst, ◌∙◌, arith}
use Rattle.physiological_order.proofs.WalkSteps.{take-next}
use Rattle.std.proofs.lemmas.List.{take_all}
use Rattle.physiological_order.proofs.LookCounts.{after_none, after_more, after_at_most, looks-next, looks-part}
use Rattle.physiological_order.proofs.LookCounts.{looks-one_more}
use Rattle.physiological_order.specs.Counting.{after_steps, looks, looks_of}
use Rattle.physiological_order.proofs.Latest.{Latest-none, Latest-push, stale_among-take}
use Rattle.physiological_order.proofs.stale.stale_hits_counted.Goals as goal
use Rattle.physiological_order.proofs.stale.stale_hits_counted.Goals.{then-branch, else-branch}

no_more : (n : ℕ) → n ≡ n + 0
no_more n = omega arith

pub loop-record-init : goal.loop-record-init
loop-record-init c = record {
  latest = rw c.new-latest.ensures Latest-none;
  counted = refl;
  small = omega arith;
  made = after_none c.args.steps.now;
}

pub loop-record-preserved : goal.loop-record-preserved
loop-record-preserved c =
    let i = c.loop-record.record-index in
    let r = c.record-item.result in
    let invariant = c.loop-record.invariant in
    let stale = c.in_ok-check_stale_hit.ensures.stale in
    let counted = stale_among-take c.args.records.now i r c.loop-record.latest c.loop-record-test.true
    c.record-item.is c.requires invariant.latest in
    let more = take-next c.args.records.now i r c.loop-record-test.true c.record-item.is in
    record {
      latest = rw (c.in_ok-check_stale_hit.ensures.kept, more)
          (Latest-push c.loop-record.latest (take i c.args.records.now) r invariant.latest);
      counted = elim c.if-branch.branch [
        | then-branch w ↦ w.count-is ∙ ap₂ (λ n b. n + cond b 1 0) invariant.counted (sym w.if-branch.true ∙ stale)
            ∙ sym counted
        | else-branch w ↦ w.count-is ∙ no_more c.loop-record.count ∙ ap₂ (λ n b. n + cond b 1 0) invariant.counted
            (sym w.if-branch.false ∙ stale) ∙ sym counted
      ];
      small = elim c.if-branch.branch [ then-branch w ↦ omega arith | else-branch w ↦ omega arith ];
      made = c.check_stale_hit.ensures.counted ∙ ap (λ made. after_steps made (looks_of r.op)) invariant.made
          ∙ after_more c.args.steps.now (looks (take i c.args.records.now)) (looks_of r.op)
          ∙ ap (after_steps c.args.steps.now)
          (sym (looks-next c.args.records.now i r (take-next c.args.records.now i r c.loop-record-test.true
          c.record-item.is)));
    }

pub returns-in_err-check_stale_hit-clause-bound : goal.returns-in_err-check_stale_hit-clause-bound
returns-in_err-check_stale_hit-clause-bound c =
    let i = c.loop-record.record-index in
    let r = c.record-item.result in
    let most = looks-one_more c.args.records.now i r (take-next c.args.records.now i r c.loop-record-test.true
    c.record-item.is) in
    subst (λ (made : ℕ). made ≤ c.args.steps.now + 2 * length c.args.records.now)
    (sym (c.check_stale_hit.ensures.counted ∙ ap (λ made. after_steps made (looks_of r.op)) c.loop-record.invariant.made
    ∙ after_more c.args.steps.now (looks (take i c.args.records.now)) (looks_of r.op)))
    (after_at_most c.args.steps.now (looks (take i c.args.records.now) + looks_of r.op)
    (2 * length c.args.records.now) most)

pub returns-clause-looks : goal.returns-clause-looks
returns-clause-looks c =
    c.loop-record.invariant.made ∙ ap (λ rs. after_steps c.args.steps.now (looks rs))
    (take_all c.loop-record.record-index c.args.records.now c.loop-record-test.false)

pub returns-clause-bound : goal.returns-clause-bound
returns-clause-bound c =
    subst (λ (made : ℕ). made ≤ c.args.steps.now + 2 * length c.args.records.now) (sym c.loop-record.invariant.made)
    (after_at_most c.args.steps.now (looks (take c.loop-record.record-index c.args.records.now))
    (2 * length c.args.records.now) (looks-part c.args.records.now c.loop-record.record-index))
