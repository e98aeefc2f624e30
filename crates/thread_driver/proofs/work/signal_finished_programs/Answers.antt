use Rattle.std.proofs.Common.{ap, ◌∙◌, arith}
use Rattle.std.specs.List.{zip}
use Rattle.stop_flags.specs.declared.words.Said.{Said}
use Rattle.thread_driver.proofs.Counted.{over_few}
use Rattle.thread_driver.proofs.Pairs.{pairs_few}
use Rattle.thread_driver.proofs.work.signal_finished_programs.Goals as goal

pub loop-preserved : goal.loop-preserved
loop-preserved g c =
    let i = c.loop.invariant in
    let over = c.count_core_seats_over-over.ensures in
    let all = over_few g.P.Program.acts (zip c.args.cores.now c.args.programs.now) in
    let short = pairs_few c.args.cores.now c.args.programs.now in
    let few = c.requires.few in
    let count = i.finished in
    let told = c.finish_program-finished.ensures.told (c.finish_program-finished.ensures.not_many (omega arith)) in
    record {
      signaler = c.finish_program-finished.ensures.signaler;
      number = c.finish_program-finished.ensures.kept.0 ∙ i.number;
      looked = c.finish_program-finished.ensures.kept.1 ∙ i.looked;
      stops = ap (λ (h : Said). h.stops) told ∙ i.stops;
      finished = let more = ap (λ (h : Said). h.finished) told in omega arith;
    }
