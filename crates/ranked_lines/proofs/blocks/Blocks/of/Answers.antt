use Rattle.std.proofs.Common.{sym, ap, ◌∙◌, ◌<◌, arith, length, drop, ◌-◌}
use Rattle.std.proofs.Math.Nat.{mod-add-div, mod-lt}
use Rattle.std.proofs.lemmas.List.{length-drop, length-take-le}
use Rattle.ranked_lines.proofs.BlockedLists.{more-filled, more-joined, more-dense}
use Rattle.ranked_lines.proofs.blocks.Blocks.of.Goals as goal

pub loop-from-preserved : goal.loop-from-preserved
loop-from-preserved c =
    let more = c.block_end-to.ensures.more in let within = c.block_end-to.ensures.within in
    let less = c.loop-from-test.true in
    let rest = length-drop c.loop-from.from c.args.numbers.now in
    let long = ap length c.block_from_numbers.ensures ∙ length-take-le (c.block_end-to.result - c.loop-from.from)
    (drop c.loop-from.from c.args.numbers.now) (omega (arith, rest, within)) in
    let next = c.loop-from.invariant.ready c.block_from_numbers.result (omega (arith, long, more)) less in record {
      within = within;
      done = more-joined c.args.numbers.now c.loop-from.from c.block_end-to.result c.loop-from.blocks.items _
          c.block_from_numbers.result (omega (arith, more)) c.loop-from.invariant.done c.in_ok-push.ensures.items
          c.block_from_numbers.ensures;
      filled = more-filled c.args.numbers.now c.loop-from.from c.block_end-to.result c.loop-from.blocks.items _
          c.block_from_numbers.result more within c.loop-from.invariant.filled c.in_ok-push.ensures.items
          c.block_from_numbers.ensures;
      dense = rw (sym c.in_ok-push.ensures.items) at next;
      room = omega (arith, c.loop-from.invariant.room, c.in_ok-push.ensures.capacity);
      ready = more-dense c.block_end-to.result c.args.numbers.now c.loop-from.blocks.items _ c.block_from_numbers.result
          c.in_ok-push.ensures.items next (λ lt. (let whole = c.block_end-to.ensures.whole lt in
          omega (arith, long, whole)));
    }

pub returns-clause-room : goal.returns-clause-room
returns-clause-room c =
    let some : 0 < 32 = omega arith in let whole = mod-add-div c.args.most 32 in let less = mod-lt c.args.most some in
    omega (arith, whole, less, c.loop-from.invariant.room)
