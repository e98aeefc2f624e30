use Rattle.std.proofs.Common.{◌+◌, ◌≤◌, length, arith}
use Rattle.std.proofs.lemmas.Bool.Decides.{nat_tests}
use Rattle.std.proofs.lemmas.List.Sums.{prefix_len-le-length}
use Rattle.text_lines.specs.Lines.{is_within_line}
use Rattle.text_lines.proofs.LineFeeds.{line-ends, line-goes-on}
use Rattle.text_lines.proofs.first_lines.line_length.Goals as goal

pub returns-then-mask-ne0-clause-count : goal.returns-then-mask-ne0-clause-count
returns-then-mask-ne0-clause-count c =
    line-ends c.args.text.now c.loop-at.at c.line_feed_mask-mask.result c.line_feed_mask-mask.ensures
    (grind (arith, nat_tests)) c.loop-at.invariant.1

pub returns-then-mask-ne0-clause-within : goal.returns-then-mask-ne0-clause-within
returns-then-mask-ne0-clause-within c =
    let count = line-ends c.args.text.now c.loop-at.at c.line_feed_mask-mask.result c.line_feed_mask-mask.ensures
    (grind (arith, nat_tests)) c.loop-at.invariant.1 in
    let within = prefix_len-le-length is_within_line c.args.text.now in
    omega (arith, count, within)

pub loop-at-preserved : goal.loop-at-preserved
loop-at-preserved c =
    let room : c.loop-at.at + 16 ≤ length c.args.text.now = grind (arith, nat_tests) in (
      room,
      line-goes-on c.args.text.now c.loop-at.at c.line_feed_mask-mask.result c.line_feed_mask-mask.ensures
          (grind (arith, nat_tests)) room c.loop-at.invariant.1,
    )
