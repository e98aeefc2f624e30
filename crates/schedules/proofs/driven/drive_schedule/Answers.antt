use Rattle.std.proofs.Common.{◌≡◌, ◌<◌, ◌-◌, ◌∙◌, List, [], Vec, Global, ap, subst, sym}
use Rattle.std.specs.Prelude.{vec_capacity, vec_len}
use Rattle.machine_table.specs.declared.event.Event.{Event}
use Rattle.machine_table.specs.Runs.{after_all}
use Rattle.schedules.specs.Runs.{Ended, initial_position, plan_of}
use Rattle.schedules.proofs.Parts.{all_listed}
use Rattle.schedules.proofs.driven.drive_schedule.Given.{Over}
use Rattle.schedules.proofs.driven.drive_schedule.Goals as goal

-- the list has the events
are_listed : (g : Over) (c : goal.After-into_watcher g) → c.into_watcher.result.items ≡
    c.run_schedule-end.ensures.ended.0
are_listed g c =
    let seen = rw (c.new-log.ensures.watcher, c.new.ensures.items) at c.run_schedule-end.ensures.ended.2.seen in
    ap (λ v. v.items) c.into_watcher.ensures ∙ seen ∙ all_listed {W = Vec Event Global} (λ v. v.items)
    (λ v. 0 < vec_capacity v - vec_len v) [] c.args.system.now c.run_schedule-end.ensures.ended.0

pub returns-clause-schedule : goal.returns-clause-schedule
returns-clause-schedule g c =
    let a = c.args in
    let n = c.run_schedule-end.new in
    let plan = plan_of g.P.Program.acts g.S.Schedule.rule a.limit in
    let start = initial_position g.P.Program.acts a.system.now a.programs.now a.schedule.now in
    subst (λ (events : List Event). Ended _ plan start events n.system n.programs c.run_schedule-end.result)
    (sym (are_listed g c)) c.run_schedule-end.ensures.ended.1

pub returns-clause-machine : goal.returns-clause-machine
returns-clause-machine g c =
    c.run_schedule-end.ensures.ended.2.leads ∙ ap (after_all c.args.system.now) (sym (are_listed g c))
