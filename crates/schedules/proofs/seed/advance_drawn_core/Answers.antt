use Rattle.std.proofs.Common.{◌%◌, ap, arith}
use Rattle.schedules.specs.SeedSchedule.{advances}
use Rattle.schedules.proofs.Parts.{none_made}
use Rattle.schedules.proofs.SeedEntries.{advance_count, advance_entry, no_entry}
use Rattle.schedules.proofs.seed.advance_drawn_core.Goals as goal

pub returns-then-cores-eq0 : goal.returns-then-cores-eq0
returns-then-cores-eq0 g c =
    let m = c.args.system.now in
    let count = advance_count m in
    rw (no_entry (advances m) c.args.b (omega (arith, count, c.if-cores-eq0.true, c.cores-cores.ensures.cores)))
    (none_made g.P.Program.acts _ _)

pub returns : goal.returns
returns g c =
    let m = c.args.system.now in
    rw (advance_entry m c.args.b (c.args.b % c.cores-cores.result)
    (omega (arith, c.if-cores-eq0.false, c.cores-cores.ensures.cores))
    (ap (λ n. c.args.b % n) c.cores-cores.ensures.cores)) c.make_event.ensures
