use Rattle.std.proofs.Common.{◌<◌, ◌%◌, ◌∙◌, ap, arith}
use Rattle.schedules.proofs.SeedEntries.{line_at, line_is_there, one_holder_more}
use Rattle.schedules.proofs.seed.drawn_line.Goals as goal

pub returns-in-Err-clause-found : goal.returns-in-Err-clause-found
returns-in-Err-clause-found g c =
    line_is_there g.H.Holder.eviction (g.H.Holder.lines c.args.system.now) (g.H.Holder.holders c.args.system.now)
    c.args.b (omega (arith, c.if-total-eq0.false, c.line_count-total.ensures))

pub returns-in-Ok-clause-found : goal.returns-in-Ok-clause-found
returns-in-Ok-clause-found g c =
    let a = c.args in
    let l = c.loop-holder in
    let same = ap g.H.Holder.holders c.keep_order.ensures in
    let below : l.holder < g.H.Holder.holders c.args.system.now =
    omega (arith, same, c.loop-holder-test.true, c.holders-holder-end.ensures.value) in
    let is = rw c.keep_order.ensures at c.count-count.ensures in
    line_at g.H.Holder.eviction (g.H.Holder.lines a.system.now) (g.H.Holder.holders a.system.now) a.b l.holder l.at
    c.in-Ok.line below (omega (arith, is, c.if-at-count.true)) (rw c.keep_order.ensures at c.in-Ok.ensures)
    (l.invariant ∙ ap (λ n. a.b % n) c.line_count-total.ensures)

pub returns-in-Err-line-clause-found : goal.returns-in-Err-line-clause-found
returns-in-Err-line-clause-found g c =
    line_is_there g.H.Holder.eviction (g.H.Holder.lines c.args.system.now) (g.H.Holder.holders c.args.system.now)
    c.args.b (omega (arith, c.if-total-eq0.false, c.line_count-total.ensures))

pub loop-holder-preserved : goal.loop-holder-preserved
loop-holder-preserved g c =
    let l = c.loop-holder in
    let is = rw c.keep_order.ensures at c.count-count.ensures in
    let more = one_holder_more g.H.Holder.eviction (g.H.Holder.lines c.args.system.now) l.holder in
    omega (arith, is, more, l.invariant, c.if-at-count.false)
