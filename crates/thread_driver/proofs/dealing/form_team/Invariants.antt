use Rattle.std.proofs.Common.{◌≡◌, ◌≤◌, ◌+◌, ◌++◌, ℕ, length, map, vec_capacity}
use Rattle.thread_driver.specs.Hands.{AreHands, AreSplit, HaveHandRoom}
use Rattle.thread_driver.proofs.dealing.form_team.Given as goal

abbrev pub invariant-loop-signaler : goal.invariant-loop-signaler
invariant-loop-signaler g l =
    AreHands (length l.signalers.items) l.hands × AreSplit l.fn.hands l.hands l.team.items
    × ((n : ℕ) → HaveHandRoom n l.fn.hands → HaveHandRoom n l.hands)
    × (l.fn.signalers.items ≡ l.signalers.items ++ map (λ w. w.signaler) l.team.items)
    × (length l.team.items + length l.signalers.items ≤ vec_capacity l.team)
    × (vec_capacity l.signalers ≡ vec_capacity l.fn.signalers)

abbrev pub decreases-loop-signaler : goal.decreases-loop-signaler
decreases-loop-signaler g l = length l.signalers.items
