use Rattle.std.proofs.Common.{◌∙◌}
use Rattle.byte_streams.proofs.Parts.{goes_on}
use Rattle.byte_streams.proofs.whole.write_all.Goals as goal

pub loop-rest-preserved : goal.loop-rest-preserved
loop-rest-preserved g c = record {
  gone = goes_on _ _ _ _ _ c.in_ok-count.count _ c.loop-rest.invariant.gone c.in_ok-count.ensures.bytes.1
      c.split_at.ensures.back;
  counted = c.in_ok-count.ensures.count ∙ c.loop-rest.invariant.counted;
}
