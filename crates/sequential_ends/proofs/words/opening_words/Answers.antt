use Rattle.std.proofs.Common.{ℕ, List, sym, ap, ◌∙◌}
use Rattle.sequential_ends.proofs.WordLists.{set_from_none, set_last, set_over}
use Rattle.sequential_ends.proofs.words.opening_words.Goals as goal

pub loop-entry-init : goal.loop-entry-init
loop-entry-init c =
    ap (set_over c.in_ok-entries.entries.items) c.new-words.ensures.items ∙ set_from_none c.in_ok-entries.entries.items

pub loop-entry-preserved : goal.loop-entry-preserved
loop-entry-preserved c =
    let left = c.pop.new.self.items in
    let words = c.loop-entry.words.items in
    ap (set_over left) c.in_ok-set_word.ensures ∙ sym (set_last left c.in-Some.entry words)
    ∙ ap (λ (es : List (ℕ × ℕ)). set_over es words) (sym c.in-Some.ensures.items) ∙ c.loop-entry.invariant
