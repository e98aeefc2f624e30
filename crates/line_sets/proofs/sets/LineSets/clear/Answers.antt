use Rattle.std.proofs.Common.{[], ℕ, length, not, replicate, sym, ap, ◌∙◌}
use Rattle.std.proofs.lemmas.List.{length-map}
use Rattle.line_sets.specs.Order.{lines_passing}
use Rattle.line_sets.specs.SetTable.{all_listed}
use Rattle.line_sets.specs.Stored.{counts_without, sets_of}
use Rattle.line_sets.proofs.ListedChanges.{none-anywhere, none-listed}
use Rattle.line_sets.proofs.StoredSets.{table_of, length-sets, sets-empty, stored-cleared}
use Rattle.line_sets.proofs.sets.LineSets.clear.Goals as goal

pub invariant_of-self : goal.invariant_of-self
invariant_of-self g c =
    let a = c.self.inside.arena in let n = length a.lists in (
      stored-cleared c.self.inside.ways a c.clear.new.self c.self.inside.rows c.clear-2.new.self c.self.invariant.0
          c.clear.ensures c.clear-2.ensures,
      sym (ap (λ sets. length (all_listed g.V.Listed.is_listed sets))
          (ap (λ b. sets_of b.lists) c.clear.ensures ∙ sets-empty n)
          ∙ ap length (none-listed g.V.Listed.is_listed n)),
      rw c.pause.ensures tt,
      rw c.pause.ensures tt,
      c.fill.ensures.items (λ y e. e) ∙ ap (λ (k : ℕ). replicate {A = ℕ} k 0) (c.self.inside.unlisted.ok.0
          ∙ ap length c.self.invariant.4
          ∙ length-map (sets_of a.lists) (λ ps. length (lines_passing (λ x. not (g.V.Listed.is_listed x)) ps))
          ∙ length-sets a.lists)
          ∙ sym (ap (counts_without g.V.Listed.is_listed) (ap (λ b. sets_of b.lists) c.clear.ensures ∙ sets-empty n)
          ∙ none-anywhere g.V.Listed.is_listed n),
    )

pub returns : goal.returns
returns g c =
    let a = c.self.inside.arena in let w = c.self.inside.ways in let n = length a.lists in
    let long = sym (length-sets a.lists) ∙ ap (λ t. length t.sets) c.self.view_is in
    ap (table_of w) (ap (λ b. sets_of b.lists) c.clear.ensures ∙ sets-empty n)
    ∙ (λ i. table_of (ap (λ t. t.ways) c.self.view_is i) (replicate (long i) []))
