use Rattle.std.proofs.Common.{sym, ap, ◌∙◌, length}
use Rattle.line_sets.specs.SetTable.{all_listed}
use Rattle.line_sets.specs.Stored.{counts_without, sets_of}
use Rattle.line_sets.proofs.ListedChanges.{none-anywhere, none-listed}
use Rattle.line_sets.proofs.StoredSets.{table_of, sets-empty, stored-empty}
use Rattle.line_sets.proofs.sets.LineSets.new.Goals as goal

pub returns-in-Ok : goal.returns-in-Ok
returns-in-Ok g c =
    ap (table_of c.args.ways) (ap (λ a. sets_of a.lists) c.in-Ok.ensures.made ∙ sets-empty c.args.sets)

pub invariant_of-result : goal.invariant_of-result
invariant_of-result g c = (
  stored-empty c.args.ways c.args.sets c.in-Ok.arena c.in_ok-rows.rows c.requires.most_ways
      c.requires.most_sets c.in-Ok.ensures.made
      c.in_ok-rows.ensures,
  sym (ap (λ sets. length (all_listed g.V.Listed.is_listed sets))
      (ap (λ a. sets_of a.lists) c.in-Ok.ensures.made ∙ sets-empty c.args.sets)
      ∙ ap length (none-listed g.V.Listed.is_listed c.args.sets)),
  rw c.none.ensures tt,
  rw c.none.ensures tt,
  c.in_ok-unlisted.ensures.items_if_clones_equal (λ y e. e) ∙ sym
      (ap (λ a. counts_without g.V.Listed.is_listed (sets_of a.lists)) c.in-Ok.ensures.made
      ∙ ap (counts_without g.V.Listed.is_listed) (sets-empty c.args.sets)
      ∙ none-anywhere g.V.Listed.is_listed c.args.sets),
)
