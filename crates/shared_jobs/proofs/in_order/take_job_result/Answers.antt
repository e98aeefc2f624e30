use Rattle.std.proofs.Common.{slice_index_or, arith}
use Rattle.std.proofs.lemmas.List.Elements.{All-set}
use Rattle.shared_jobs.specs.Results.{AllGiven}
use Rattle.shared_jobs.specs.declared.workers.Worker.{Worker}
use Rattle.shared_jobs.proofs.Placements.{taken_given, left_given}
use Rattle.shared_jobs.proofs.in_order.take_job_result.Goals as goal

pub returns-in-Some-clause-given : goal.returns-in-Some-clause-given
returns-in-Some-clause-given g c =
    let w = slice_index_or c.loop-at.team c.loop-at.at c.index-team-at.result in
    taken_given (g.J.Jobs.gives c.args.jobs.now) c.args.number c.take_front_result.result c.in-Some.result
    w.results.items c.take_front_result.new.results.items c.take_front_result.ensures.taken c.in-Some.is
    (c.loop-at.invariant.0 c.loop-at.at c.index-team-at.result (omega arith))

pub returns-in-Some-clause-left : goal.returns-in-Some-clause-left
returns-in-Some-clause-left g c =
    let gives = g.J.Jobs.gives c.args.jobs.now in
    let w = slice_index_or c.loop-at.team c.loop-at.at c.index-team-at.result in
    All-set (λ (v : Worker g.row.X.Denot). AllGiven gives v.results.items) c.loop-at.team c.loop-at.at _
    (left_given gives c.args.number c.take_front_result.result w.results.items c.take_front_result.new.results.items
    c.take_front_result.ensures.taken (c.loop-at.invariant.0 c.loop-at.at c.index-team-at.result (omega arith)))
    c.loop-at.invariant.0
