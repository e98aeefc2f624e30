use Rattle.std.proofs.Common.{◌+◌, ◌<◌, ◌≤◌, ◌∙◌, ℕ, length, min, ap, arith, subst, sym}
use Rattle.trace_reader.specs.Steps.{lane}
use Rattle.trace_reader.proofs.QueuedSteps.{HasSteps, least-more, one-more}
use Rattle.trace_reader.proofs.read_ahead.ReadAhead.shortest.Goals as goal

pub loop-at-preserved : goal.loop-at-preserved
loop-at-preserved c =
    let i = c.loop-at.invariant in
    let queues = c.args.self.now.queues in
    let at = c.loop-at.at in
    let least = c.loop-at.shortest in
    let test = c.loop-at-test.true in
    let cores = c.cores-cores.ensures in
    let below : at < length queues = omega (arith, test, cores) in
    subst (λ (n : ℕ). ((core : ℕ) → core < at + 1 → n ≤ length (lane queues core)) × HasSteps queues n)
    (sym (c.min-shortest.ensures ∙ ap (min least) c.steps_left.ensures))
    (least-more queues at least i.0, one-more queues at least below i.1)
