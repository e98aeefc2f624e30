use Rattle.std.proofs.Common.{[], ◌+◌, ◌-◌, length}
use Rattle.drawn_numbers.specs.Drawn.{RisesFrom}
use Rattle.shared_jobs.specs.Teams.{HasDone, IsAtWork}
use Rattle.shared_jobs.proofs.workers.work_on_jobs.Given as goal

abbrev pub invariant-loop-next : goal.invariant-loop-next
invariant-loop-next g l =
    IsAtWork l.numbers (g.J.Jobs.gives l.jobs) l.count l.worker × HasDone l.worker []
    × RisesFrom 0 l.worker.drawer.drawn.items × g.J.Jobs.ready l.jobs l.state

abbrev pub decreases-loop-next : goal.decreases-loop-next
decreases-loop-next g l = l.count + 1 - length l.worker.results.items
