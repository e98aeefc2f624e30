use Rattle.std.proofs.Common.{Some, refl, arith}
use Rattle.shared_jobs.proofs.Claims.{few_done, same_end}
use Rattle.shared_jobs.proofs.workers.work_on_jobs.Goals as goal

pub loop-next-smaller : goal.loop-next-smaller
loop-next-smaller g c =
    let i = c.loop-next.invariant in
    let w = c.loop-next.worker in
    let few = few_done c.args.count w.results.items w.drawer.drawn.items i.1 i.2 i.0.1 in
    let more = c.in-Ok-run_next_job.ensures.done.2 in
    omega arith

pub returns-in-Err-clause-stop : goal.returns-in-Err-clause-stop
returns-in-Err-clause-stop g c = record {
  stop = c.in-Err.stop;
  said = refl;
  so = same_end c.args.count c.in-Err.stop c.run_next_job.new.worker (Some c.in-Err.stop)
      (c.run_next_job.ensures.stop c.in-Err.stop c.in-Err.is);
}
