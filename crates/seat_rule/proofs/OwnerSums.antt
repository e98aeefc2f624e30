-- The owners of a line in the state that seats and slots make, place by place.
use Rattle.std.proofs.Common.{◌≡◌, ℕ, zero, suc, List, refl, arith}
use Rattle.std.proofs.lemmas.Bool.Decides.{nat_tests}
use Rattle.std.proofs.lemmas.Grind.{common_steps}
use Rattle.physiological_order.specs.declared.operation.Record.{Record}
use Rattle.private_cache.specs.CopyTable.{copy_of}
use Rattle.machine_theorem.specs.Coherence.{owner_in}
use Rattle.machine_theorem.specs.Ownership.{owners, ownership_in}
use Rattle.machine_theorem.specs.View.{copy_in}
use Rattle.machine_theorem.proofs.Lemmas.{owners_weigh, owns_is}
use Rattle.protocol.specs.Machine.{owned_below}
use Rattle.core_pts.specs.CoreTable.{CoreState}
use Rattle.seat_views.specs.Seated.{over}
use Rattle.seat_rule.specs.declared.views.SetUp.{SetUp}
use Rattle.seat_rule.specs.declared.views.Hold.{Hold}
use Rattle.seat_rule.specs.Rule.{Phase, bag_of_hold, content, in_flight, seat_count, slot_count, state_of}
use Rattle.seat_rule.specs.Ended.{owners_by_place}
use Rattle.seat_rule.proofs.Weights.{weigh_together}

-- owners among cores
owned_over : (cores : ℕ → CoreState) (n line : ℕ) →
    owned_below (λ c. copy_in (cores c) line) n ≡ over n (λ c. owner_in (copy_of (cores c).cache line))
owned_over cores zero line = refl
owned_over cores (suc n) line = let q0 = owned_over cores n line in grind (arith, nat_tests, common_steps, q0, owns_is)

pub owners_added : (z : SetUp) (seats : ℕ → Hold) (phases : ℕ → Phase) (log : List Record) (line : ℕ) →
    owners z.config
    (state_of z (seat_count z) seats (in_flight (seat_count z) (slot_count z) seats phases) log) line ≡
    owners_by_place z seats phases line
owners_added z seats phases log line =
    let copies = owned_over (λ c. (seats c).core) z.config.cores line in
    let carried = owners_weigh (in_flight (seat_count z) (slot_count z) seats phases) line in
    let messages = weigh_together (ownership_in line) (seat_count z) (slot_count z) (λ j. bag_of_hold (seats j))
    (λ k. content (phases k)) in
    omega arith
