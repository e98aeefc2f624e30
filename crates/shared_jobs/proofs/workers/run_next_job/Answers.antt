use Rattle.std.proofs.Common.{◌≡◌, ℕ, ◌<◌, List, [], ◌∷◌, ◌++◌, length, sym, ap, ◌∙◌, subst, arith, length-append}
use Rattle.drawn_numbers.specs.declared.drawer.Drawer.{Drawer}
use Rattle.drawn_numbers.specs.Drawn.{RisesFrom}
use Rattle.shared_jobs.proofs.Claims.{one_done, rises_on}
use Rattle.shared_jobs.proofs.Placements.{all_kept}
use Rattle.shared_jobs.proofs.workers.run_next_job.Goals as goal

pub returns-clause-below : goal.returns-clause-below
returns-clause-below g c =
    let count : ℕ = c.args.count in
    let kept = c.in-Ok-run_claimed_job.ensures.kept in
    let p : ℕ × g.row.X.Denot = (c.in-Ok.number, kept.0) in
    let below : c.in-Ok.number < count = (let no = c.if-number-count.false in omega arith) in
    all_kept (λ (q : ℕ × g.row.X.Denot). q.0 < count) c.args.worker.now.results.items c.reserve.new.self.items
    c.run_claimed_job.new.worker.results.items p c.reserve.ensures.items kept.2 c.requires.below below

pub returns-clause-given : goal.returns-clause-given
returns-clause-given g c =
    let gives = g.J.Jobs.gives c.args.jobs.now in
    let kept = c.in-Ok-run_claimed_job.ensures.kept in
    let p : ℕ × g.row.X.Denot = (c.in-Ok.number, kept.0) in
    all_kept (λ (q : ℕ × g.row.X.Denot). gives q.0 q.1) c.args.worker.now.results.items c.reserve.new.self.items
    c.run_claimed_job.new.worker.results.items p c.reserve.ensures.items kept.2 c.requires.given kept.1

pub returns-clause-done : goal.returns-clause-done
returns-clause-done g c =
    let drawn : List ℕ = c.args.worker.now.drawer.drawn.items in
    let old : List (ℕ × g.row.X.Denot) = c.args.worker.now.results.items in
    let kept = c.in-Ok-run_claimed_job.ensures.kept in
    let new : List (ℕ × g.row.X.Denot) = c.run_claimed_job.new.worker.results.items in
    let p : ℕ × g.row.X.Denot = (c.in-Ok.number, kept.0) in
    let is : c.run_claimed_job.new.worker.drawer.drawn.items ≡ drawn ++ c.in-Ok.number ∷ [] =
    ◌∙◌ {A = List ℕ} (ap (λ (d : Drawer). d.drawn.items) c.run_claimed_job.ensures.drawer) c.in-Ok.ensures.kept in
    let more : new ≡ old ++ p ∷ [] =
    ◌∙◌ {A = List (ℕ × g.row.X.Denot)} kept.2 (ap (λ ps. ps ++ p ∷ []) c.reserve.ensures.items) in (
      one_done drawn c.run_claimed_job.new.worker.drawer.drawn.items old c.requires.done.0 new p is more,
      subst (RisesFrom 0) (sym is)
          (rises_on 0 drawn c.in-Ok.number (omega arith) c.requires.done.1 c.in-Ok.ensures.rising),
      ap length more ∙ length-append old (p ∷ []),
    )
