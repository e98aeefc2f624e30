use Rattle.std.proofs.Common.{◌==◌, arith, w8}
use Rattle.std.proofs.lemmas.Simd.{bitmask_splat, length-chunk}
use lib.Lanes.{chunk}
use Rattle.text_lines.proofs.first_lines.line_feed_mask.Goals as goal

pub returns : goal.returns
returns c =
    bitmask_splat w8 (λ a b. a == b) (chunk c.args.at 16 c.args.text.now) 16 10
    (length-chunk c.args.at 16 c.args.text.now c.requires) (omega arith)
