use Rattle.std.proofs.Common.{◌∙◌, max, min, ap, ap₂, arith}
use Rattle.std.specs.Prelude.{bit_and, bit_or}
use Rattle.std.specs.Int.{bit_at}
use Rattle.std.proofs.lemmas.Nat.Bits.{bit_at_and, bit_at_or}
use Rattle.machine_table.specs.Machine.{open_op}
use Rattle.programs.specs.Acts.{next_in}
use Rattle.schedules.specs.SeedSchedule.{core_step}
use Rattle.schedules.proofs.Pieces.{ones_counted}
use Rattle.schedules.proofs.ReadyCores.{none_at, ready_at}
use Rattle.schedules.proofs.seed.ready_cores.Goals as goal

pub returns-clause-each : goal.returns-clause-each
returns-clause-each g c core below =
    let few = c.cores-cores.ensures in
    let issuing = bit_and c.idle_cores.result c.unfinished_cores.result in
    bit_at_or c.trying_cores.result issuing core
    ∙ ap₂ max (c.trying_cores.ensures core) (bit_at_and c.idle_cores.result c.unfinished_cores.result core
    ∙ ap₂ min (c.idle_cores.ensures core)
    (ap (λ mask. bit_at mask core) c.unfinished_cores.ensures
    ∙ c.requires core (omega (arith, below, few.cores, few.most))))
    ∙ ready_at core c.args.system.now.cores core (next_in g.P.Program.acts c.args._programs.now core)
    (omega (arith, below, few.count, few.cores))

pub returns-clause-count : goal.returns-clause-count
returns-clause-count g c =
    let m = c.args.system.now in
    let few = c.cores-cores.ensures in
    let issuing = bit_and c.idle_cores.result c.unfinished_cores.result in
    ones_counted (λ core. core_step core (open_op m core) (next_in g.P.Program.acts c.args._programs.now core))
    m.config.cores (bit_or c.trying_cores.result issuing) (returns-clause-each g c)
    (λ core past. bit_at_or c.trying_cores.result issuing core
    ∙ ap₂ max (c.trying_cores.ensures core) (bit_at_and c.idle_cores.result c.unfinished_cores.result core
    ∙ ap (λ n. min n (bit_at c.unfinished_cores.result core)) (c.idle_cores.ensures core))
    ∙ none_at m.cores core (bit_at c.unfinished_cores.result core) (omega (arith, past, few.count, few.cores)))
