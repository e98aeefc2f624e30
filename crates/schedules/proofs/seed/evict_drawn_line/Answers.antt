use Rattle.std.proofs.Common.{◌≡◌, ◌∙◌, ap, refl, subst, sym, rules}
use Rattle.schedules.specs.Parts.{Does, Lists, one, followed_by}
use Rattle.schedules.specs.SeedSchedule.{Evicts, choice_at, chosen, line_events}
use Rattle.schedules.specs.Notes.{Reaches, at, end_in}
use Rattle.schedules.proofs.Parts.{list_made, did_as, did_then}
use Rattle.schedules.proofs.SeedEntries.{not_listed}
use Rattle.schedules.proofs.seed.evict_drawn_line.Goals as goal

pub returns-in_default : goal.returns-in_default
returns-in_default g c =
    rw c.drawn_line.ensures.machine (not_listed g.P.Program.acts _ _ c.in_default.ensures.found _)

pub returns : goal.returns
returns g c =
    let a = c.args in
    let n = c.make_event.new in
    let acts = g.P.Program.acts in
    let h = g.H.Holder in
    let p = at a.system.now a.programs.now a.log.now in
    let q = at n.system n.programs n.log in
    let e = c.eviction.result in
    let is : choice_at (line_events h.eviction (h.lines a.system.now) (h.holders a.system.now)) a.b ≡ Evicts e =
    search rules ∙ ap Evicts (sym c.eviction.ensures) in
    subst (λ choice. Reaches acts g.W.Watcher.watches (chosen acts choice) p (end_in c.make_event.result) q) (sym is)
    (did_as acts _ p q (followed_by acts (one Lists) (one (Does e))) (chosen acts (Evicts e)) refl
    (end_in c.make_event.result) (did_then acts _ q (one Lists) (one (Does e)) (list_made acts _ p)
    (end_in c.make_event.result) (rw c.drawn_line.ensures.machine at c.make_event.ensures)))
