use Rattle.std.proofs.Common.{ℕ, ap, ◌∙◌, arith}
use Rattle.sequential_machine.specs.Turns.{with_word_in}
use Rattle.sequential_ends.proofs.WordLists.{set_within, set_behind}
use Rattle.sequential_ends.proofs.words.set_word.Goals as goal

pub returns-then-at-len : goal.returns-then-at-len
returns-then-at-len c =
    let lt = c.if-at-len.true in
    let is = c.len.ensures in
    set_within c.args.words.now.items c.word-at.result c.args.value (omega (arith, lt, is))
    ∙ ap (λ (a : ℕ). with_word_in c.args.words.now.items a c.args.value) c.word-at.ensures.number

pub returns : goal.returns
returns c =
    c.in_ok-push.ensures.items
    ∙ set_behind c.extend_words.new.words.items c.word-at.result c.args.value c.in_ok-extend_words.ensures.count
    ∙ c.in_ok-extend_words.ensures.same c.args.value
    ∙ ap (λ (a : ℕ). with_word_in c.args.words.now.items a c.args.value) c.word-at.ensures.number
