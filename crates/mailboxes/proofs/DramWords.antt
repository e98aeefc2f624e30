-- One more word of the opening memory in a bank's DRAM.
use Rattle.std.proofs.Common.{◌≡◌, ℕ, ◌+◌, ◌-◌, ◌/◌, ◌%◌, ◌<◌, List, ◌∷◌, length, drop, get_or}
use Rattle.std.proofs.Common.{sym, ap, ap₂, ◌∙◌, arith}
use Rattle.std.specs.Prelude.{◌==◌, if◌then◌else◌}
use Rattle.std.specs.Ordering.{nat_cmp}
use Rattle.std.specs.FinMap.{FinMap}
use Rattle.std.proofs.lemmas.List.{drop_more}
use Rattle.machine_table.specs.declared.config.Config.{Config}
use Rattle.machine_table.specs.Opening.{dram_of, with_word}

-- the words are set from the last one to the first
pub one_more_word : (g : Config) (number : ℕ) (ws : List (ℕ × ℕ)) (at : ℕ) (w : ℕ × ℕ)
    (old new : FinMap nat_cmp (List ℕ)) → at < length ws → w ≡ get_or ws (length ws - 1 - at) w →
    old ≡ dram_of g number (drop (length ws - at) ws) →
    new ≡ (if (w.0 / g.line_words) % g.banks == number then
    with_word old (w.0 / g.line_words) (w.0 % g.line_words) w.1 else old) →
    new ≡ dram_of g number (drop (length ws - (at + 1)) ws)
one_more_word g number ws at w old new below here held sets =
    let k : ℕ = length ws - (at + 1) in
    let first : get_or ws k w ≡ w = ap (λ i. get_or ws i w) (omega arith) ∙ sym here in
    let others : drop (k + 1) ws ≡ drop (length ws - at) ws = ap (λ i. drop i ws) (omega arith) in
    let is : drop k ws ≡ w ∷ drop (length ws - at) ws =
    drop_more ws k w (omega arith) ∙ ap₂ (λ (y : ℕ × ℕ) (ys : List (ℕ × ℕ)). y ∷ ys) first others in
    sets
    ∙ ap
    (λ (d : FinMap nat_cmp (List ℕ)).
    if (w.0 / g.line_words) % g.banks == number then with_word d (w.0 / g.line_words) (w.0 % g.line_words) w.1
    else d)
    held
    ∙ sym (ap (dram_of g number) is)
