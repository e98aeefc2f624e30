use Rattle.std.proofs.Common.{◌≡◌, ◌+◌, ◌<◌, ℕ, List, [], ◌∷◌, ◌++◌, map, take, get_or, length, refl, ap, ap₂, sym, ◌∙◌}
use Rattle.std.proofs.lemmas.List.{map_more}
use Rattle.std.specs.Ordering.{nat_cmp}
use Rattle.std.specs.FinMap.{FinMap, empty}
use Rattle.physiological_order.specs.declared.operation.Op.{Op}
use Rattle.physiological_order.specs.Words.{words_after, words_end}
use Rattle.tardis_c.specs.Plain.{store_of, words_of}
use Rattle.tardis_c.specs.declared.plain.PlainWord.{PlainWord}
use Rattle.tardis_c.proofs.histories.memory_of_opening_words.Goals as goal

words_end-push : (words : FinMap nat_cmp ℕ) (ops : List Op) (op : Op) →
    words_end words (ops ++ op ∷ []) ≡ words_after (words_end words ops) op
words_end-push words [] op = refl
words_end-push words (o ∷ ops) op = words_end-push (words_after words o) ops op

next_word : (words : List PlainWord) (i : ℕ) (d : PlainWord) → i < length words →
    words_of (take (i + 1) words) ≡ words_after (words_of (take i words)) (store_of (get_or words i d))
next_word words i d lt = ap (words_end empty) (map_more store_of words i d lt) ∙
    words_end-push empty (map store_of (take i words)) (store_of (get_or words i d))

pub loop-word-preserved : goal.loop-word-preserved
loop-word-preserved c =
    c.in_ok-perform.ensures.performed ∙ ap₂ words_after c.loop-word.invariant c.store_of.ensures ∙
    sym (next_word c.args.opening.now c.loop-word.word-index _ c.loop-word-test.true)
