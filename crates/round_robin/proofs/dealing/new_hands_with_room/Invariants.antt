use Rattle.std.proofs.Common.{◌≡◌, ◌≤◌, [], length, All, vec_capacity}
use Rattle.round_robin.proofs.dealing.new_hands_with_room.Given as goal

abbrev pub invariant-loop : goal.invariant-loop
invariant-loop g l =
    (length l.dealt.items ≡ l.counter) × (l.hands ≤ vec_capacity l.dealt)
    × All (λ v. (v.items ≡ []) × (l.room ≤ vec_capacity v)) l.dealt.items
    × All (λ v. vec_capacity v ≡ l.room) l.dealt.items
