use Rattle.std.proofs.Common.{refl, sym}
use Rattle.std.proofs.lemmas.Bool.{true≢false}
use Rattle.thread_driver.proofs.drive.end_of_shift.Goals as goal

pub returns-then-are_core_seats_over-clause-done : goal.returns-then-are_core_seats_over-clause-done
returns-then-are_core_seats_over-clause-done g c = λ yet.
    rw (c.deref.ensures.value, c.deref-2.ensures.value) at (c.if-are_core_seats_over.ensures.done refl)

pub returns-then-told-clause-all_done : goal.returns-then-told-clause-all_done
returns-then-told-clause-all_done g c = λ over. absurd (true≢false (sym
    (c.if-are_core_seats_over.ensures.all_done (rw (c.deref.ensures.value, c.deref-2.ensures.value) over))))

pub returns-then-told-2-clause-all_done : goal.returns-then-told-2-clause-all_done
returns-then-told-2-clause-all_done g c = λ over. absurd (true≢false (sym
    (c.if-are_core_seats_over.ensures.all_done (rw (c.deref.ensures.value, c.deref-2.ensures.value) over))))

pub returns-else-told-2-clause-all_done : goal.returns-else-told-2-clause-all_done
returns-else-told-2-clause-all_done g c = λ over. absurd (true≢false (sym
    (c.if-are_core_seats_over.ensures.all_done (rw (c.deref.ensures.value, c.deref-2.ensures.value) over))))
