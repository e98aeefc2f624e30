use Rattle.std.proofs.Common.{◌+◌, ◌<◌, length, take, drop, suc, refl, sym, ap, ◌∙◌, arith, length-set}
use Rattle.physiological_order.specs.Order.{flat, flat_received, flat_after}
use mathlib.Core.Bool.{false≢true}
use Rattle.physiological_order.specs.Picking.{picked}
use Rattle.physiological_order.proofs.PickedRecords.{no_stamp, picked-one, picked-next, picked-split}
use Rattle.physiological_order.proofs.WalkSteps.{next_from, order_with, values-last, values-push, received_same}
use Rattle.physiological_order.proofs.WalkSteps.{received_other, Counted-push, left_by, left_by-push}
use Rattle.physiological_order.proofs.ReplaySteps.{flat-words_after}
use Rattle.physiological_order.proofs.walk.arranged_verdict.Goals as goal

pub returns-then-not-is_next_of_its_core : goal.returns-then-not-is_next_of_its_core
returns-then-not-is_next_of_its_core c =
    let i = c.loop-stamp.stamp-index in
    let r = c.index-records-by_number.result in
    record {
      upto = record {
        before = picked c.args.records.now c.args.by_number.now (take i c.args.stamps.now);
        faulty = r;
        behind = picked c.args.records.now c.args.by_number.now (drop (suc i) c.args.stamps.now);
        split = picked-split c.args.records.now c.args.by_number.now c.args.stamps.now i no_stamp r
            c.loop-stamp-test.true (picked-one c.args.records.now c.args.by_number.now c.args.stamps.now i no_stamp r
            c.loop-stamp-test.true c.requires c.index-records-by_number.is);
        named = refl;
        order_before = c.loop-stamp.invariant.in_order;
        values_before = c.loop-stamp.invariant.values;
      };
      fault = λ h. false≢true
          (c.if-not-is_next_of_its_core.ensures.1 (rw c.deref.ensures.value (next_from c.args.issued.now
          c.loop-stamp.places.items
          (picked c.args.records.now c.args.by_number.now (take i c.args.stamps.now)) r c.loop-stamp.invariant.long
          c.loop-stamp.invariant.counted h)));
    }

pub returns-then-ne : goal.returns-then-ne
returns-then-ne c =
    let i = c.loop-stamp.stamp-index in
    let r = c.index-records-by_number.result in
    let next = rw c.deref.ensures.value at (c.if-not-is_next_of_its_core.ensures.0 refl) in
    record {
      upto = record {
        before = picked c.args.records.now c.args.by_number.now (take i c.args.stamps.now);
        faulty = r;
        behind = picked c.args.records.now c.args.by_number.now (drop (suc i) c.args.stamps.now);
        split = picked-split c.args.records.now c.args.by_number.now c.args.stamps.now i no_stamp r
            c.loop-stamp-test.true (picked-one c.args.records.now c.args.by_number.now c.args.stamps.now i no_stamp r
            c.loop-stamp-test.true c.requires c.index-records-by_number.is);
        named = refl;
        order_before = c.loop-stamp.invariant.in_order;
        values_before = c.loop-stamp.invariant.values;
      };
      in_order = order_with c.args.issued.now c.loop-stamp.places.items
          (picked c.args.records.now c.args.by_number.now (take i c.args.stamps.now)) r c.loop-stamp.invariant.long
          c.loop-stamp.invariant.counted c.loop-stamp.invariant.in_order next;
      fault = λ h. received_other c.in_ok-perform.field-0 r.received c.if-ne.ensures
          (c.in_ok-perform.ensures.received ∙ ap (λ m. flat_received m r.op) c.loop-stamp.invariant.memory
          ∙ values-last (flat c.args.opening.now)
          (picked c.args.records.now c.args.by_number.now (take i c.args.stamps.now)) r
          c.loop-stamp.invariant.values h);
    }

pub loop-stamp-preserved : goal.loop-stamp-preserved
loop-stamp-preserved c =
    let i = c.loop-stamp.stamp-index in
    let r = c.index-records-by_number.result in
    let rs = picked c.args.records.now c.args.by_number.now (take i c.args.stamps.now) in
    let invariant = c.loop-stamp.invariant in
    let next = rw c.deref.ensures.value at (c.if-not-is_next_of_its_core.ensures.0 refl) in
    let within : r.core < length c.loop-stamp.places.items =
    (let there = next.core_there in let long = invariant.long in omega arith) in
    let more = sym (picked-next c.args.records.now c.args.by_number.now c.args.stamps.now i no_stamp r
    c.loop-stamp-test.true (picked-one c.args.records.now c.args.by_number.now c.args.stamps.now i no_stamp r
    c.loop-stamp-test.true c.requires c.index-records-by_number.is)) in
    let received = c.in_ok-perform.ensures.received ∙ ap (λ m. flat_received m r.op) invariant.memory in
    record {
      long = length-set c.loop-stamp.places.items r.core (c.from.result + 1) ∙ invariant.long;
      counted = rw (← more) (Counted-push c.loop-stamp.places.items rs r (c.from.result + 1) within
          (ap (λ n. n + 1) (c.from.ensures ∙ sym next.place)) invariant.counted);
      in_order = rw (← more) (order_with c.args.issued.now c.loop-stamp.places.items rs r invariant.long
          invariant.counted invariant.in_order next);
      values = rw (← more) (values-push (flat c.args.opening.now) rs r invariant.values (sym received
          ∙ received_same c.in_ok-perform.field-0 r.received c.if-ne.ensures));
      memory = ap flat c.in_ok-perform.ensures.performed ∙ flat-words_after c.loop-stamp.memory r.op
          ∙ ap (λ m. flat_after m r.op) invariant.memory
          ∙ sym (left_by-push (flat c.args.opening.now) rs r) ∙ ap (left_by (flat c.args.opening.now)) more;
    }
