use Rattle.std.proofs.Common.{◌∙◌, ◌<◌, ◌^◌, ℕ, List, length, get_or, sym, subst, arith}
use Rattle.physiological_order.proofs.WordBound.{bounded_at}
use Rattle.physiological_order.proofs.memory.Memory.words.Goals as goal

pub at-requires : goal.at-requires
at-requires c =
    let same = c.deref-entry-items.ensures.value ∙ c.in_ok-entries.ensures in
    let within : c.loop-entry.entry-index < length c.deref-entry-items.result.now = omega arith in
    subst (λ (es : List (ℕ × ℕ)). (get_or es c.loop-entry.entry-index (0, 0)).0 < 2 ^ 61) (sym same)
    (bounded_at c.self.inside.words c.self.invariant c.loop-entry.entry-index (0, 0)
    (subst (λ (es : List (ℕ × ℕ)). c.loop-entry.entry-index < length es) same within))
