use Rattle.std.proofs.Common.{◌≡◌, nat_lt, rules}
use Rattle.std.proofs.lemmas.Fn.{always_returns_same}
use Rattle.physiological_order.proofs.RisingRecords.{rises_exactly}
use Rattle.physiological_order.proofs.stale.rises_by_number.Goals as goal

pub returns : goal.returns
returns c =
    rises_exactly c.args.records.now c.is_sorted_by.result
    (c.is_sorted_by.ensures.cases (λ r s. nat_lt r.number s.number)
    (always_returns_same _ (λ a r. r ≡ nat_lt a.0.now.number a.1.0.now.number) _ (λ a r q k. search rules)))
