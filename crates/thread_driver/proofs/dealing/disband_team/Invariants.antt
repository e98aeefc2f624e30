use Rattle.std.proofs.Common.{◌≡◌, ◌≤◌, ◌+◌, ◌++◌, length, map, vec_capacity}
use Rattle.thread_driver.specs.Hands.{AreBack, AreHands, HaveHandRoom}
use Rattle.thread_driver.proofs.dealing.disband_team.Given as goal

abbrev pub invariant-loop-worker : goal.invariant-loop-worker
invariant-loop-worker g l =
    AreBack l.fn.team.items l.team.items l.hands
    × (length l.team.items + length l.hands.cores.items ≤ length l.fn.team.items)
    × AreHands (length l.hands.cores.items) l.hands
    × HaveHandRoom (length l.fn.team.items) l.hands
    × (map (λ w. w.signaler) l.fn.team.items ≡ map (λ w. w.signaler) l.team.items ++ l.signalers.items)
    × (length l.signalers.items ≡ length l.hands.cores.items) × (length l.fn.team.items ≤ vec_capacity l.signalers)

abbrev pub decreases-loop-worker : goal.decreases-loop-worker
decreases-loop-worker g l = goal.left-loop-worker g l
