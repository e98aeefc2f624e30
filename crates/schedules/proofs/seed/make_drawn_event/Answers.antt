use Rattle.std.proofs.Common.{◌≡◌, ◌%◌, ap, false, rules}
use Rattle.schedules.specs.SeedSchedule.{choice_at, chosen, drawn, drawn_list, steps}
use Rattle.schedules.specs.Notes.{at, standing, end_in}
use Rattle.schedules.proofs.Parts.{did_as}
use Rattle.schedules.proofs.SeedEntries.{other_list}
use Rattle.schedules.proofs.seed.make_drawn_event.Goals as goal

pub returns-in_default : goal.returns-in_default
returns-in_default g c =
    let a = c.args in
    let acts = g.P.Program.acts in
    let s = standing (at a.system.now a.programs.now a.log.now) false in
    let same : steps acts a.system.now a.programs.now ≡ drawn_list acts a.system.now a.programs.now (a.a % 16) =
    other_list acts a.system.now a.programs.now (a.a % 16) (search rules) (search rules)
    (search rules) in
    did_as acts _ _ _ (chosen acts (choice_at (steps acts a.system.now a.programs.now) a.b)) (drawn acts a.a a.b)
    (ap (λ l. chosen acts (choice_at l a.b) s) same) (end_in c.step_core_or_deliver.result)
    c.step_core_or_deliver.ensures
