use Rattle.std.proofs.Common.{◌≤◌, ⊎_elim, refl, sym, subst, ◌∙◌, ap, arith, true≢false}
use Rattle.stop_flags.specs.declared.words.Said.{Said}
use Rattle.thread_driver.specs.declared.worker.Worker.{Worker}
use Rattle.thread_driver.specs.Given.{told_by_both}
use Rattle.thread_driver.specs.Teams.{Works}
use Rattle.thread_driver.proofs.Working.{after_telling, at_first, ends_after, ends_before, goes_on_after}
use Rattle.thread_driver.proofs.Working.{all_used, idle_passes}
use Rattle.thread_driver.proofs.work.run_worker.Goals as goal

pub loop-init : goal.loop-init
loop-init g c = (
  at_first g.P.Program.acts c.args.machine.now c.args.signals.now c.args.rota c.args.worker.now c.requires,
  λ none. (λ low. refl, λ high. absurd (omega arith)),
)

pub returns-in_default-clause-works : goal.returns-in_default-clause-works
unfolding Works
returns-in_default-clause-works g c =
    let a = g.P.Program.acts in
    let m = c.args.machine.now in
    let signals = c.args.signals.now in
    let w : Worker g.row.P.Denot = c.args.worker.now in
    let l : Worker g.row.P.Denot = c.loop.worker in
    let s = c.worker_pass-passed.new.worker.signaler in
    let pass = c.worker_pass-passed.ensures in
    let ended = pass.ended c.in_default.is in
    let told = after_telling a m signals w l s c.loop.invariant.0 pass.signaler pass.kept.0 pass.kept.1 pass.told in
    let t : Worker g.row.P.Denot = record l { signaler = s } in
    subst (λ v. Works a m c.args.rota w v) (sym ended.1)
    (⊎_elim
    (λ found.
    ends_before a m signals w t told pass.told
    (λ on left.
    ⊎_elim (λ e. absurd (true≢false (sym e ∙ on)))
    (λ e. let all : c.args.rota.programs ≤ _ = e in absurd (omega (arith, left)))
    found))
    (λ used.
    ends_before a m signals w t (all_used a m signals w t told used) pass.told
    (λ on left. refl))
    ended.0)

pub returns-then-ends_all_turns-clause-works : goal.returns-then-ends_all_turns-clause-works
unfolding Works
returns-then-ends_all_turns-clause-works g c =
    let a = g.P.Program.acts in
    let m = c.args.machine.now in
    let signals = c.args.signals.now in
    let w : Worker g.row.P.Denot = c.args.worker.now in
    let l : Worker g.row.P.Denot = c.loop.worker in
    let v : Worker g.row.P.Denot = c.worker_pass-passed.new.worker in
    let u = record l { signaler = v.signaler } in
    let pass = c.worker_pass-passed.ensures in
    let stop = c.signal_stop.ensures in
    let told = after_telling a m signals w l v.signaler c.loop.invariant.0 pass.signaler pass.kept.0 pass.kept.1
    pass.told in
    ends_after a m signals w u v c.in-Some.told c.after_pass-passes.result.0 told c.in-Some.ensures.passed.0
    c.in-Some.ensures.passed.1
    (c.after_pass-passes.ensures.told ∙ ap (λ z. told_by_both z c.in-Some.told) pass.kept.2) c.signal_stop.new.self
    (sym c.if-ends_all_turns.ensures) stop.kept.0
    (ap (λ (h : Said). h.stops) stop.told)
    (ap (λ (h : Said). h.finished) stop.told)

pub loop-preserved : goal.loop-preserved
loop-preserved g c =
    let a = g.P.Program.acts in
    let m = c.args.machine.now in
    let signals = c.args.signals.now in
    let w : Worker g.row.P.Denot = c.args.worker.now in
    let l : Worker g.row.P.Denot = c.loop.worker in
    let v : Worker g.row.P.Denot = c.worker_pass-passed.new.worker in
    let u = record l { signaler = v.signaler } in
    let pass = c.worker_pass-passed.ensures in
    let told = after_telling a m signals w l v.signaler c.loop.invariant.0 pass.signaler pass.kept.0 pass.kept.1
    pass.told in
    let both = c.after_pass-passes.ensures.told ∙ ap (λ z. told_by_both z c.in-Some.told) pass.kept.2 in (
      goes_on_after a m signals w u v c.in-Some.told c.after_pass-passes.result.0 told c.in-Some.ensures.passed.0
          c.in-Some.ensures.passed.1 both (omega arith) pass.cores pass.banks pass.ahead refl
          (sym c.if-ends_all_turns.ensures),
      idle_passes l.told c.in-Some.told c.after_pass-passes.result.0 c.loop.idle c.after_pass-passes.result.1
          c.loop.counter c.after_pass-passes.result.2 both c.after_pass-passes.ensures.idle c.loop.invariant.1,
    )

pub returns-clause-works : goal.returns-clause-works
unfolding Works
returns-clause-works g c =
    let a = g.P.Program.acts in
    let m = c.args.machine.now in
    let signals = c.args.signals.now in
    let w : Worker g.row.P.Denot = c.args.worker.now in
    let l : Worker g.row.P.Denot = c.loop.worker in
    let s = c.signal_finished_programs.new.signaler in
    let tell = c.signal_finished_programs.ensures in
    let said = rw (c.deref.ensures.value, c.deref-2.ensures.value) at tell.told in
    let told = after_telling a m signals w l s c.loop.invariant.0 tell.signaler tell.kept.0 tell.kept.2 said in
    ends_before a m signals w (record l { signaler = s }) told said (λ on left. omega arith)
