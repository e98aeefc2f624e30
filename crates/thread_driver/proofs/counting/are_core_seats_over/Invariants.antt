use Rattle.std.proofs.Common.{◌≡◌, ◌<◌, ℕ, Some, None}
use Rattle.std.specs.Prelude.{slice_get}
use Rattle.mailboxes.specs.declared.core_seat.CoreSeat.{CoreSeat}
use Rattle.thread_driver.proofs.counting.are_core_seats_over.Given as goal

abbrev pub invariant-loop-i : goal.invariant-loop-i
invariant-loop-i g l =
    (k : ℕ) (p : CoreSeat) (a : g.row.P.Denot) → k < l.i → slice_get l.cores k ≡ Some p →
    slice_get l.programs k ≡ Some a → (p.part.core.open_op ≡ None) × (g.P.Program.acts.next a ≡ None)
