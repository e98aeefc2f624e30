use Rattle.std.proofs.Common.{◌≡◌, ◌∷◌, ◌++◌, [], length, map, refl, sym, ap, ◌∙◌, arith, length-append}
use Rattle.thread_driver.specs.declared.worker.Hands.{Hands}
use Rattle.thread_driver.specs.declared.worker.Worker.{Worker}
use Rattle.thread_driver.proofs.Formed.{back_more, inserted, one_over}
use Rattle.thread_driver.proofs.dealing.disband_team.Goals as goal

pub loop-worker-preserved : goal.loop-worker-preserved
loop-worker-preserved g c =
    let i = c.loop-worker.invariant in
    let all = c.args.team.items in
    let old = c.loop-worker.team.items in
    let new = c.pop.new.self.items in
    let h = c.loop-worker.hands in
    let w : Worker g.row.P.Denot = c.in-Some.worker in
    let split : old ≡ new ++ w ∷ [] = c.in-Some.ensures.items in
    let shorter = ap length split ∙ length-append new (w ∷ []) in
    let h' : Hands g.row.P.Denot =
    record { cores = c.insert-first.new.self; programs = c.insert-second.new.self; banks = c.insert-third.new.self } in
    let signalers = inserted c.loop-worker.signalers.items c.insert-kept.new.self.items w.signaler c.insert-kept.result
    c.unwrap.result c.insert-kept.ensures.items c.unwrap.ensures in
    let cores = inserted h.cores.items h'.cores.items w.cores c.insert-first.result c.unwrap-in-Some.result
    c.insert-first.ensures.items c.unwrap-in-Some.ensures in
    let programs = inserted h.programs.items h'.programs.items w.programs c.insert-second.result
    c.unwrap-in-Some-2.result c.insert-second.ensures.items c.unwrap-in-Some-2.ensures in
    let banks = inserted h.banks.items h'.banks.items w.banks c.insert-third.result c.unwrap-in-Some-3.result
    c.insert-third.ensures.items c.unwrap-in-Some-3.ensures in
    let count = i.2 in
    let held = i.3 in
    let more = ap length cores in
    let more_programs = ap length programs in
    let more_banks = ap length banks in
    let more_signalers = ap length signalers in
    let kept_cores = c.insert-first.ensures.capacity in
    let kept_programs = c.insert-second.ensures.capacity in
    let kept_banks = c.insert-third.ensures.capacity in
    let kept_signalers = c.insert-kept.ensures.capacity in (
      back_more all old new w h h' i.0 split cores programs banks,
      (let below = i.1 in omega arith),
      record {
        cores = refl;
        programs = omega (arith, count.cores, count.programs);
        banks = omega (arith, count.cores, count.banks);
      },
      record {
        cores = omega (arith, held.cores);
        programs = omega (arith, held.programs);
        banks = omega (arith, held.banks);
      },
      one_over (λ (v : Worker g.row.P.Denot). v.signaler) (map (λ (v : Worker g.row.P.Denot). v.signaler) all) old new w
          c.loop-worker.signalers.items i.4 split
          ∙ ap (λ ss. map (λ (v : Worker g.row.P.Denot). v.signaler) new ++ ss) (sym signalers),
      (let as_many = i.5 in omega arith),
      (let room = i.6 in omega arith),
    )
