use Rattle.std.proofs.Common.{◌≡◌, rules, Some, sym, ap, ◌∙◌}
use Rattle.std.specs.List.{slice_get}
use Rattle.machine_table.specs.Machine.{open_op_of}
use Rattle.interleaving_core.specs.LookUps.{victim_for_core}
use Rattle.interleaving_core.proofs.OwnVictims.{own_victim}
use Rattle.interleaving_core.proofs.machine_state.MachineState.open_victim.Goals as goal

pub returns : goal.returns
returns g c =
    let core = c.in-Some.own.now in
    let there : slice_get c.args.self.now.cores c.args.core ≡ Some core = search rules in
    c.open_victim.ensures
    ∙ own_victim c.args.self.now c.requires c.args.core core core.open_op there
    ∙ ap (λ found. victim_for_core c.args.self.now c.args.core (open_op_of found)) (sym there)
