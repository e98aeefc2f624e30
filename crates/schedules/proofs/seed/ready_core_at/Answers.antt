use Rattle.std.proofs.Common.{arith, refl}
use Rattle.std.specs.Int.{trailing_zeros, w64}
use Rattle.schedules.proofs.SeedEntries.{first_left, lowest, next_left, step_found}
use Rattle.schedules.proofs.seed.ready_core_at.Goals as goal

pub loop-skipped-init : goal.loop-skipped-init
loop-skipped-init g c = record {
  left = first_left g.P.Program.acts c.args._system.now c.args._programs.now c.args._system.now.config.cores
      c.args.ready;
  fits = omega arith;
  few = omega arith;
}

pub with_bit-left-requires : goal.with_bit-left-requires
with_bit-left-requires g c =
    let l = c.loop-skipped in
    let low = lowest g.P.Program.acts c.args._system.now c.args._programs.now _ c.args.ready l.left l._skipped
    l.invariant.left c.requires.each l.invariant.fits (omega (arith, c.loop-skipped-test.true, c.requires.inside)) in
    omega (arith, low.small)

pub loop-skipped-preserved : goal.loop-skipped-preserved
loop-skipped-preserved g c =
    let l = c.loop-skipped in
    let low = lowest g.P.Program.acts c.args._system.now c.args._programs.now _ c.args.ready l.left l._skipped
    l.invariant.left c.requires.each l.invariant.fits (omega (arith, c.loop-skipped-test.true, c.requires.inside)) in
    record {
      left = next_left g.P.Program.acts c.args._system.now c.args._programs.now _ c.args.ready l.left l._skipped
          l.invariant.left c.requires.each (trailing_zeros w64 l.left) c.with_bit-left.result low
          c.with_bit-left.ensures.here c.with_bit-left.ensures.elsewhere;
      fits = let less = c.with_bit-left.ensures.less refl in omega (arith, less, l.invariant.fits);
      few = omega (arith, c.loop-skipped-test.true);
    }

pub returns : goal.returns
returns g c =
    let l = c.loop-skipped in
    let low = lowest g.P.Program.acts c.args._system.now c.args._programs.now _ c.args.ready l.left l._skipped
    l.invariant.left c.requires.each l.invariant.fits
    (omega (arith, c.loop-skipped-test.false, l.invariant.few, c.requires.inside)) in
    step_found g.P.Program.acts c.args._system.now c.args._programs.now c.args._system.now.config.cores _ c.args.place
    low.below low.some (omega (arith, low.counted, c.loop-skipped-test.false, l.invariant.few)) c.requires.inside
