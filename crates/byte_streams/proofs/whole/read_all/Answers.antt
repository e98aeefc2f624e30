use Rattle.std.proofs.Common.{rules}
use Rattle.byte_streams.specs.declared.whole.TheConstants.{BLOCK_BYTES}
use Rattle.byte_streams.proofs.Parts.{none_left, known_still, some_known, takes_more}
use Rattle.byte_streams.proofs.whole.read_all.Goals as goal

pub returns-then-count-eq0-clause-end : goal.returns-then-count-eq0-clause-end
returns-then-count-eq0-clause-end g c = known_still _ _ _ _ c.loop.invariant.came
    (none_left _ _ _ c.in-Ok.count (search rules) (search rules) c.in-Ok.ensures.bytes)

pub returns-then-count-most-clause-taken : goal.returns-then-count-most-clause-taken
returns-then-count-most-clause-taken g c = takes_more c.args.most BLOCK_BYTES _ _ _ c.loop.bytes.items c.in-Ok.count _
    c.loop.invariant.came c.loop.invariant.few (search rules) c.in-Ok.ensures.bytes

pub returns-then-is_err-clause-taken : goal.returns-then-is_err-clause-taken
returns-then-is_err-clause-taken g c = takes_more c.args.most BLOCK_BYTES _ _ _ c.loop.bytes.items c.in-Ok.count _
    c.loop.invariant.came c.loop.invariant.few (search rules) c.in-Ok.ensures.bytes

pub returns-clause-some : goal.returns-clause-some
returns-clause-some g c =
    λ is. some_known _ _ _ c.loop.invariant.came (let many = c.loop.invariant.many in search rules)
