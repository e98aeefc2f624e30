use Rattle.std.proofs.Common.{All}
use Rattle.shared_jobs.specs.Results.{AllGiven, HasOtherFront}
use Rattle.shared_jobs.proofs.Placements.{AllBefore}
use Rattle.shared_jobs.proofs.in_order.take_job_result.Given as goal

abbrev pub invariant-loop-at : goal.invariant-loop-at
invariant-loop-at g l = All (λ w. AllGiven (g.J.Jobs.gives l.jobs) w.results.items) l.team
    × AllBefore (λ w. HasOtherFront l.number w.results.items) l.at l.team
