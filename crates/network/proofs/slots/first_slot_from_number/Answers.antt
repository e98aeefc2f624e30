use Rattle.std.proofs.Common.{arith}
use Rattle.network.proofs.RisingLists.{passes_middle, stops_middle}
use Rattle.network.proofs.slots.first_slot_from_number.Goals as goal

pub loop-low-preserved-then-slots-middle : goal.loop-low-preserved-then-slots-middle
loop-low-preserved-then-slots-middle c = record {
  order = omega arith;
  within = c.loop-low.invariant.within;
  before = passes_middle c.args.slots.now _ _ _ c.args.number _ c.requires (omega arith)
      c.if-slots-middle.true;
  after = c.loop-low.invariant.after;
}

pub loop-low-preserved : goal.loop-low-preserved
loop-low-preserved c = record {
  order = omega arith;
  within = omega arith;
  before = c.loop-low.invariant.before;
  after = stops_middle c.args.slots.now _ _ _ c.args.number _ c.requires (omega arith)
      c.if-slots-middle.false;
}
