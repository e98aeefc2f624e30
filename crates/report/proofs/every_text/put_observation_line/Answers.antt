use Rattle.std.proofs.Common.{◌++◌, ◌∷◌, ◌∙◌, codes, decimal}
use Rattle.litmus_reader.specs.TestViews.{test_of}
use Rattle.report.specs.EveryText.{often}
use Rattle.report.proofs.EveryLine.{behind, word_behind}
use Rattle.report.proofs.every_text.put_observation_line.Goals as goal

pub returns : goal.returns
returns c =
    let front = c.args.out.now.items in
    let test = test_of c.args.test.now in
    let named = codes "observation" ++ (32 ∷ test.name) in
    let told = named ++ (32 ∷ often c.args.held c.args.ends) in
    let name = word_behind front (codes "observation") test.name c.in_ok-extend_from_slice.ensures.items
    c.in_ok-put_spaced_word.ensures c.name.ensures in
    let times = word_behind front named (often c.args.held c.args.ends) name
    c.in_ok-put_spaced_word-2.ensures c.observation_word.ensures in
    let held = word_behind front told (decimal c.args.held) times c.in_ok-put_spaced_word-3.ensures
    (c.as_bytes.ensures.value ∙ c.format.ensures.text) in
    behind front (told ++ (32 ∷ decimal c.args.held)) _ held c.in_ok-put_labelled_number.ensures
