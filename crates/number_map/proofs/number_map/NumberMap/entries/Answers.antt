use Rattle.std.proofs.Common.{◌∙◌, ap, subst}
use Rattle.std.specs.List.Sorted.{IsPermutation}
use Rattle.std.proofs.lemmas.List.{map-id}
use Rattle.std.specs.FinMap as finite
use Rattle.number_map.proofs.SortedEntries.{rising_entries}
use Rattle.number_map.proofs.number_map.NumberMap.entries.Goals as goal

pub returns : goal.returns
returns g c =
    rising_entries c.self.inside.hash.entries c.sort_entries_by_key.new.pairs.items
    c.collect_hash_entries.ensures.distinct
    (subst (λ (pairs : _). IsPermutation pairs c.sort_entries_by_key.new.pairs.items) (c.in_ok-entries.ensures.pairs
    ∙ map-id c.self.inside.hash.entries) c.sort_entries_by_key.ensures.permuted)
    c.in_ok-sort_entries_by_key.ensures.sorted
    ∙ ap finite.entries c.self.view_is
