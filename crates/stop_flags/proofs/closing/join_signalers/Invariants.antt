use Rattle.std.proofs.Common.{◌≡◌, ◌++◌, List}
use Rattle.stop_flags.specs.declared.signaler.Signaler.{Signaler}
use Rattle.stop_flags.specs.Heard.{knows_all}
use Rattle.stop_flags.proofs.closing.join_signalers.Given as goal

-- the signalers that are no longer in the list are known
abbrev pub invariant-loop-signaler : goal.invariant-loop-signaler
invariant-loop-signaler l =
    (l.seat.table_id ≡ l.initial.seat.table_id) × (l.seat.id ≡ l.initial.seat.id)
    × ((done : List Signaler) × (l.initial.signalers.items ≡ l.signalers.items ++ done)
    × (l.seat.me ≡ (knows_all l.initial.seat.me.0 done, l.initial.seat.me.1)))

abbrev pub decreases-loop-signaler : goal.decreases-loop-signaler
decreases-loop-signaler l = goal.left-loop-signaler l
