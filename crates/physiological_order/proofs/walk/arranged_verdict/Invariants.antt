use Rattle.std.proofs.Common.{◌≡◌, length, take}
use Rattle.physiological_order.specs.Order.{flat, KeepsProgramOrder, ReceivesAsReplayed}
use Rattle.physiological_order.specs.Faults.{issued_by}
use Rattle.physiological_order.specs.Picking.{picked}
use Rattle.physiological_order.proofs.WalkSteps.{left_by, Counted}
use Rattle.physiological_order.proofs.walk.arranged_verdict.Given as goal

abbrev pub invariant-loop-stamp : goal.invariant-loop-stamp
invariant-loop-stamp l = record {
  long : length l.places.items ≡ length l.issued;
  counted : Counted l.places.items (picked l.records l.by_number (take l.stamp-index l.stamps));
  in_order : KeepsProgramOrder (issued_by l.issued) (picked l.records l.by_number (take l.stamp-index l.stamps));
  values : ReceivesAsReplayed (flat l.fn.opening) (picked l.records l.by_number (take l.stamp-index l.stamps));
  memory : flat l.memory ≡ left_by (flat l.fn.opening) (picked l.records l.by_number (take l.stamp-index l.stamps));
}
