use Rattle.std.proofs.Common.{◌++◌, [], ◌∷◌, map, ap, ap₂, ◌∙◌}
use Rattle.std.proofs.lemmas.List.{map-append}
use Rattle.machine_theorem.specs.Coherence.{coherent}
use Rattle.worker_driver.proofs.Rows.{next_value}
use Rattle.worker_driver.proofs.run_end.first_word_addresses.Goals as goal

pub loop-word-preserved : goal.loop-word-preserved
loop-word-preserved c = λ m.
    ap (map (coherent m)) c.in_ok-push.ensures.items ∙ map-append (coherent m) c.loop-word.words.items _
    ∙ ap₂ (λ xs x. xs ++ x ∷ []) (c.loop-word.invariant m) (ap (coherent m) c.at.ensures)
    ∙ next_value m c.loop-word.word
