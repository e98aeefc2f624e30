use Rattle.std.proofs.Common.{◌≡◌, ◌<◌, ◌^◌, ◌∙◌, sym, ap, rules, arith, length, take, ◌+◌, ◌++◌, ◌∷◌, []}
use Rattle.report_text.specs.States.{one_more}
use Rattle.report_text.proofs.OneMore.{few_counted, with_state, with_none}
use Rattle.report_text.proofs.FirstItems.{take_next}
use Rattle.report_text.proofs.states.count_end_states.Goals as goal
use Rattle.report_text.proofs.states.count_end_states.Goals.{in-Some+in_ok-count_end_state, in_default}

pub count_end_state-requires : goal.count_end_state-requires
count_end_state-requires c =
    let few = few_counted c.args.runs.now c.loop-run.run-index c.in-Some.values.now _ c.loop-run.invariant
    c.loop-run-test.true in
    let fits : length c.args.runs.now < 2 ^ 64 = search rules in
    omega (arith, few, fits)

pub loop-run-preserved : goal.loop-run-preserved
loop-run-preserved c =
    let before = take c.loop-run.run-index c.args.runs.now in
    let there : take (c.loop-run.run-index + 1) c.args.runs.now ≡ before ++ c.run-item.result ∷ [] =
    take_next c.args.runs.now c.loop-run.run-index c.run-item.result c.loop-run-test.true c.run-item.is in
    elim c.match-end_state_values.branch [
      | in-Some+in_ok-count_end_state w ↦ rw (w.states-is, there)
          (w.in_ok-count_end_state.ensures ∙ ap (one_more w.in-Some.values.now) c.loop-run.invariant
          ∙ sym (with_state before c.run-item.result w.in-Some.values.now (sym w.in-Some.ensures)))
      | in_default w ↦ rw (w.states-is, there) (c.loop-run.invariant
          ∙ sym (with_none before c.run-item.result (sym w.in_default.ensures)))
    ]
