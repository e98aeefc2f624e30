use Rattle.std.proofs.Common.{ℕ, List, [], ◌∷◌, ap, ◌∙◌, arith, length, length-append}
use Rattle.sequential_machine.specs.Turns.{with_word_in}
use Rattle.sequential_ends.proofs.WordLists.{zero_behind}
use Rattle.sequential_ends.proofs.words.extend_words.Goals as goal

pub loop-words-preserved : goal.loop-words-preserved
loop-words-preserved c =
    let items = c.in_ok-push.ensures.items in
    let old = c.loop-words.words.items in
    let long = ap length items ∙ length-append old (0 ∷ []) in
    let lt = c.loop-words-test.true in
    let is = c.len.ensures in (
      omega (arith, long, lt, is),
      λ value. ap (λ (ws : List ℕ). with_word_in ws c.args.count value) items
          ∙ zero_behind old c.args.count value (omega (arith, lt, is)) ∙ c.loop-words.invariant.1 value,
    )
