use Rattle.std.proofs.Common.{◌≡◌, ℕ, ◌+◌, sym, subst, arith}
use Rattle.std.specs.List.{zip}
use Rattle.thread_driver.specs.Teams.{over_in}
use Rattle.thread_driver.proofs.Counted.{all_counted, counts_one, one_counted, over_from}
use Rattle.thread_driver.proofs.Lists.{here}
use Rattle.thread_driver.proofs.Pairs.{pair_there, pairs_few}
use Rattle.thread_driver.proofs.counting.count_core_seats_over.Goals as goal

pub loop-i-preserved : goal.loop-i-preserved
loop-i-preserved g c =
    let i = c.loop-i.i in
    let v = c.index-cores-i.result in
    let y = c.index-programs-i.result in
    let at_v = here c.args.cores.now i v (omega arith) c.index-cores-i.is in
    let at_y = here c.args.programs.now i y (omega arith) c.index-programs-i.is in
    let acts = g.P.Program.acts in
    let xs = zip c.args.cores.now c.args.programs.now in (
      (let one = counts_one c.is_over.result in
          let count = c.from-count.ensures in
          let few = c.loop-i.invariant.0 in
          omega arith),
      subst (λ (k : ℕ). c.loop-i.count + k + over_from acts (i + 1) xs ≡ over_in acts xs) (sym c.from-count.ensures)
          (one_counted acts xs i (v, y) c.loop-i.count c.is_over.result
          (pair_there c.args.cores.now c.args.programs.now i v y at_v at_y) (sym c.is_over.ensures)
          c.loop-i.invariant.1),
    )

pub returns : goal.returns
returns g c =
    let short = pairs_few c.args.cores.now c.args.programs.now in
    let none = all_counted g.P.Program.acts (zip c.args.cores.now c.args.programs.now) c.loop-i.i (omega arith) in
    let so_far = c.loop-i.invariant.1 in
    omega arith
