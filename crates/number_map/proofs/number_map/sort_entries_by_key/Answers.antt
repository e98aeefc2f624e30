use Rattle.std.proofs.Common.{rules}
use Rattle.std.proofs.lemmas.Result.{on_ok_weaker}
use Rattle.std.proofs.lemmas.List.Sorted.{IsNonDecreasingBy-from_sort_by_key}
use Rattle.number_map.proofs.number_map.sort_entries_by_key.Goals as goal

pub returns-clause-sorted : goal.returns-clause-sorted
returns-clause-sorted g c =
    on_ok_weaker c.sort_by_key.result (λ (sorted : _). IsNonDecreasingBy-from_sort_by_key (λ pair. pair.0) _ sorted
    (λ a r q k. search rules)) c.sort_by_key.ensures.sorted
