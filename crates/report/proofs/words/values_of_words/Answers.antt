use Rattle.std.proofs.Common.{◌≡◌, rules, inl, inr, map, ap, ap₂, ◌∙◌}
use Rattle.std.specs.FinMap.{entries}
use Rattle.std.specs.List.{zip}
use Rattle.machine_theorem.specs.Coherence.{coherent}
use Rattle.report.proofs.Pairs.{all_paired, of_entries}
use Rattle.report.proofs.words.values_of_words.Goals as goal

pub returns : goal.returns
returns g c = λ m shown.
    let words : c.into_iter-word-iterator.result.a.rest.now ≡ map (λ entry. entry.0) (entries c.args.words.now) =
    search rules in
    let values : c.into_iter-word-iterator.result.b.rest.now ≡ map (coherent m) c.in_ok-named.named.items = search rules
    in
    all_paired c.loop-word.word-iterator.a.rest.now c.loop-word.word-iterator.b.rest.now c.loop-word.pairs.items
    (elim c.in-None.ensures.steps [ inl a ↦ inl a.1.0 | inr b ↦ inr b.1.0 ]) c.loop-word.invariant
    ∙ ap₂ (λ xs ys. zip xs ys) words (values ∙ ap (map (coherent m)) c.in_ok-named.ensures)
    ∙ of_entries (coherent m) (entries c.args.words.now)
