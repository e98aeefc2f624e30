use Rattle.std.proofs.Common.{◌++◌, List, ℕ, ap, ap₂, codes, ◌∙◌}
use Rattle.litmus_reader.specs.TestViews.{test_of}
use Rattle.report_lines.specs.Layouts.{closing, list_closing, opening}
use Rattle.report.specs.EveryText.{condition_text, ends_text, every_text, head_text, observation_text}
use Rattle.report.proofs.every_text.ends_list_text.Goals as goal

-- part after part
pub returns : goal.returns
unfolding every_text
returns c =
    let layout = c.args.layout in
    let test = test_of c.args.test.now in
    let every = c.args.every.now in
    let held = c.in_ok-held.ensures.held in
    let opened = c.in_ok-put_report_opening.ensures
    ∙ ap (λ (t : List ℕ). t ++ opening layout (codes "ends")) c.new-out.ensures.items in
    let head = c.in_ok-put_ends_heading.ensures ∙ ap (λ (t : List ℕ). t ++ head_text layout test every) opened in
    let ends = c.in_ok-held.ensures.ends
    ∙ ap (λ (t : List ℕ). t ++ ends_text layout c.args.orders test every.ends) head in
    let listed = c.in_ok-put_list_closing.ensures ∙ ap (λ (t : List ℕ). t ++ list_closing layout) ends in
    let condition = c.in_ok-put_condition_and_held.ensures
    ∙ ap₂ (λ (t : List ℕ) (n : ℕ). t ++ condition_text layout test n) listed held in
    let observation = c.in_ok-put_observation.ensures
    ∙ ap₂ (λ (t said : List ℕ). t ++ said) condition (ap₂ (observation_text layout test) held c.len-ends.ensures) in
    c.in_ok-put_report_closing.ensures ∙ ap (λ (t : List ℕ). t ++ closing layout) observation
