use Rattle.std.proofs.Common.{◌≡◌, ◌≤◌, take}
use Rattle.physiological_order.specs.Counting.{after_steps, looks}
use Rattle.physiological_order.proofs.Latest.{Latest, stale_among}
use Rattle.physiological_order.proofs.stale.stale_hits_counted.Given as goal

abbrev pub invariant-loop-record : goal.invariant-loop-record
invariant-loop-record l = record {
  latest : Latest l.latest (take l.record-index l.records);
  counted : l.count ≡ stale_among l.records (take l.record-index l.records);
  small : l.count ≤ l.record-index;
  made : l.steps ≡ after_steps l.initial.steps (looks (take l.record-index l.records));
}
