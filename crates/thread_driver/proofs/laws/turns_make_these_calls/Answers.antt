use Rattle.std.proofs.Common.{◌≡◌, ◌≢◌, Bool, Result, Err, refl}
use Rattle.machine_table.specs.declared.event.Refusal.{Refusal}
use Rattle.machine_table.specs.declared.event.Refusal.TheVariants as refusal
use Rattle.mailboxes.specs.declared.core_seat.CoreSeat.{CoreSeat}
use Rattle.thread_driver.specs.Turns.{AfterRefusal}
use Rattle.thread_driver.proofs.Reports.{fair_calls}
use Rattle.thread_driver.proofs.laws.turns_make_these_calls.Goals as goal

refused : (r : Refusal) (p q : CoreSeat) (done : Result Bool Refusal) → r ≢ refusal.NoRoom → AfterRefusal r p done q →
    (done ≡ Err r) × (q ≡ p)
refused refusal.NoRoom p q done other c = absurd (other refl)
refused r p q done other c = c

pub returns-clause-refused : goal.returns-clause-refused
returns-clause-refused g c = refused

pub returns-clause-no_room : goal.returns-clause-no_room
returns-clause-no_room g c = λ p q done after. after

pub returns-clause-fair : goal.returns-clause-fair
returns-clause-fair g c = fair_calls
