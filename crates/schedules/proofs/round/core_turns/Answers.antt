use Rattle.std.proofs.Common.{◌≡◌, ◌-◌, ◌+◌, suc, None, arith}
use Rattle.schedules.specs.Parts.{for_each}
use Rattle.schedules.specs.RoundSchedule.{core_turn, core_turns, rising}
use Rattle.schedules.proofs.Parts.{none_made, left_then, left_first}
use Rattle.schedules.proofs.round.core_turns.Goals as goal

pub loop-core-init : goal.loop-core-init
loop-core-init g c =
    let none : c.args.cores - 0 ≡ c.args.cores = omega arith in rw none (λ o u did. did)

pub returns-in-Err : goal.returns-in-Err
returns-in-Err g c =
    let l = c.loop-core in
    let acts = g.P.Program.acts in
    let counts : c.args.cores - l.core ≡ suc (c.args.cores - (l.core + 1)) = omega (arith, c.loop-core-test.true) in
    left_first acts _ _ _ _ (core_turns acts c.args.cores) (core_turn acts l.core)
    (for_each acts (core_turn acts) (rising (c.args.cores - (l.core + 1)) (l.core + 1))) (rw counts at l.invariant) _
    c.in-Err.ensures

pub loop-core-preserved : goal.loop-core-preserved
loop-core-preserved g c =
    let l = c.loop-core in
    let acts = g.P.Program.acts in
    let counts : c.args.cores - l.core ≡ suc (c.args.cores - (l.core + 1)) = omega (arith, c.loop-core-test.true) in
    left_then acts _ (core_turns acts c.args.cores) (core_turn acts l.core)
    (for_each acts (core_turn acts) (rising (c.args.cores - (l.core + 1)) (l.core + 1))) (rw counts at l.invariant)
    c.in_default.ensures

pub returns : goal.returns
returns g c =
    let l = c.loop-core in
    let none : c.args.cores - l.core ≡ 0 = omega (arith, c.loop-core-test.false) in
    (rw none at l.invariant) None _ (none_made g.P.Program.acts _ _)
