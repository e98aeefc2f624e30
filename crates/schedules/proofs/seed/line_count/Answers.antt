use Rattle.std.proofs.Common.{arith}
use Rattle.schedules.proofs.SeedEntries.{one_holder_more}
use Rattle.schedules.proofs.seed.line_count.Goals as goal

pub loop-holder-preserved : goal.loop-holder-preserved
loop-holder-preserved g c =
    let l = c.loop-holder in
    let more = one_holder_more g.H.Holder.eviction (g.H.Holder.lines c.args.system.now) l.holder in
    record {
      counted = omega (arith, more, l.invariant.counted, c.count.ensures);
      bounded = omega (arith, l.invariant.bounded);
    }
