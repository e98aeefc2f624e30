use Rattle.std.proofs.Common.{◌≡◌, ◌<◌, ◌∙◌, ap, subst, sym}
use Rattle.machine_table.specs.declared.config.Config.{Config}
use Rattle.machine_table.specs.Machine.{Machine}
use Rattle.machine_theorem.proofs.Lemmas.{after_all_same}
use Rattle.schedules.specs.Runs.{plan_of}
use Rattle.schedules.proofs.RunLaws.{run_leaves_nothing}
use Rattle.schedules.proofs.Served.{all_served}
use Rattle.schedules.proofs.driven.run_schedule.Goals as goal

pub returns-clause-all_done : goal.returns-clause-all_done
returns-clause-all_done g c done core below =
    let a = c.args in
    let plan = plan_of g.P.Program.acts g.S.Schedule.rule a.limit in
    let k = c.run_turns-end.ensures in
    let same : c.run_turns-end.new.system.config ≡ a.system.now.config =
    ap (λ (m : Machine). m.config) k.2.leads ∙ (after_all_same a.system.now k.0).config in
    run_leaves_nothing plan a.system.now a.programs.now a.schedule.now k.1 done core
    (subst (λ (config : Config). core < config.cores) (sym same) below)

pub returns-clause-served : goal.returns-clause-served
returns-clause-served g c =
    let a = c.args in
    let n = c.run_turns-end.new in
    let plan = plan_of g.P.Program.acts g.S.Schedule.rule a.limit in
    all_served plan c.requires.gives a.system.now a.programs.now a.schedule.now
    (c.cores-cores.ensures.count ∙ c.cores-cores.ensures.cores)
    c.records_are_legal.ensures.issued c.run_turns-end.ensures.0 n.system n.programs c.run_turns-end.result
    c.records_are_legal-2.ensures.issued c.run_turns-end.ensures.1
