use Rattle.std.proofs.Common.{◌≤◌, [], ◌∷◌, ◌++◌, length, map, sym, ap, ◌∙◌, subst, append_assoc, arith, length-append}
use Rattle.std.specs.Prelude.{replicate}
use Rattle.thread_driver.specs.declared.worker.Worker.{Worker}
use Rattle.thread_driver.specs.declared.worker.Hands.{Hands}
use Rattle.thread_driver.specs.Given.{quiet}
use Rattle.thread_driver.specs.Hands.{AreSplit}
use Rattle.thread_driver.proofs.Formed.{both_shorter, inserted, popped, split_more}
use Rattle.thread_driver.proofs.dealing.form_team.Goals as goal

pub loop-signaler-preserved : goal.loop-signaler-preserved
loop-signaler-preserved g c =
    let i = c.loop-signaler.invariant in
    let ws = c.loop-signaler.team.items in
    let old = c.loop-signaler.hands in
    let new : Hands g.row.P.Denot =
    record { cores = c.pop-cores.new.self; programs = c.pop-programs.new.self; banks = c.pop-banks.new.self } in
    let w : Worker g.row.P.Denot = record {
      signaler = c.in-Some.signaler;
      cores = c.unwrap.result;
      programs = c.unwrap-in-Some.result;
      banks = c.unwrap-in-Some-2.result;
      told = quiet;
      room = replicate 16 0;
    } in
    let signalers = c.in-Some.ensures.items in
    let cores = popped old.cores.items new.cores.items c.pop-cores.result w.cores c.pop-cores.ensures.items
    c.unwrap.ensures in
    let programs = popped old.programs.items new.programs.items c.pop-programs.result w.programs
    c.pop-programs.ensures.items c.unwrap-in-Some.ensures in
    let banks = popped old.banks.items new.banks.items c.pop-banks.result w.banks c.pop-banks.ensures.items
    c.unwrap-in-Some-2.ensures in
    let more = inserted ws c.insert-stored.new.self.items w c.insert-stored.result c.unwrap-in-Some-3.result
    c.insert-stored.ensures.items c.unwrap-in-Some-3.ensures in
    let left = c.loop-signaler.signalers.items in
    let rest = c.pop.new.self.items in (
      record {
        cores = both_shorter left rest c.in-Some.signaler old.cores.items new.cores.items w.cores signalers cores
            i.0.cores;
        programs = both_shorter left rest c.in-Some.signaler old.programs.items new.programs.items w.programs signalers
            programs i.0.programs;
        banks = both_shorter left rest c.in-Some.signaler old.banks.items new.banks.items w.banks signalers banks
            i.0.banks;
      },
      subst (AreSplit c.args.hands.now new) (sym more)
          (split_more c.args.hands.now old new ws w i.1 cores programs banks),
      λ n room.
          let held = i.2 n room in
          record {
            cores = subst (λ k. n ≤ k) (sym c.pop-cores.ensures.capacity) held.cores;
            programs = subst (λ k. n ≤ k) (sym c.pop-programs.ensures.capacity) held.programs;
            banks = subst (λ k. n ≤ k) (sym c.pop-banks.ensures.capacity) held.banks;
          },
      i.3 ∙ ap (λ xs. xs ++ map (λ (v : Worker g.row.P.Denot). v.signaler) ws) signalers
          ∙ append_assoc rest (c.in-Some.signaler ∷ []) (map (λ (v : Worker g.row.P.Denot). v.signaler) ws)
          ∙ ap (λ vs. rest ++ map (λ (v : Worker g.row.P.Denot). v.signaler) vs) (sym more),
      let long = ap length more in
          let shorter = ap length signalers ∙ length-append rest (c.in-Some.signaler ∷ []) in
          let room = i.4 in
          let kept = c.insert-stored.ensures.capacity in
          omega arith,
      c.pop.ensures.capacity ∙ i.5,
    )
