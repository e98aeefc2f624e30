use Rattle.std.proofs.Common.{◌++◌, List, ℕ, ap, ap₂, length, codes, ◌∙◌}
use Rattle.litmus_reader.specs.TestViews.{test_of}
use Rattle.report_lines.specs.Layouts.{closing, opening}
use Rattle.report_text.specs.Text.{ends_text, states_text, condition_text, sums_text, litmus_text}
use Rattle.report_text.proofs.text.litmus_text.Goals as goal

-- part after part
pub returns : goal.returns
unfolding litmus_text
returns c =
    let layout = c.args.layout in
    let test = test_of c.args.test.now in
    let runs = length c.args.runs.now in
    let opened = c.in_ok-put_report_opening.ensures
    ∙ ap (λ (t : List ℕ). t ++ opening layout (codes "litmus")) c.new-out.ensures.items in
    c.in_ok-put_report_closing.ensures ∙ ap (λ (t : List ℕ). t ++ closing layout)
    (c.in_ok-put_sums_over_runs.ensures ∙ ap₂ (λ t sums. t ++ sums_text layout sums)
    (c.in_ok-put_condition_verdict.ensures ∙ ap₂ (λ t endings. t ++ condition_text layout test endings)
    (c.in_ok-put_end_states.ensures ∙ ap₂ (λ t states. t ++ states_text layout test states)
    (c.in_ok-put_run_endings.ensures ∙ ap₂ (λ t endings. t ++ ends_text layout test runs endings) opened
    c.count_run_endings-endings.ensures)
    c.in_ok-states.ensures)
    c.count_run_endings-endings.ensures)
    c.sum_over_runs.ensures)
