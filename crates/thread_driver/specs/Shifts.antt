-- The result of driving seats by threads: the seats in order, what each core's program received, and the end.
use Rattle.std.specs.Prelude.{◌≡◌, ◌≢◌, ℕ, ◌+◌, Bool, false, ◌||◌, List, [], ◌∷◌, ◌++◌, length, if◌then◌else◌}
use Rattle.std.specs.Prelude.{Some, None, slice_get}
use Rattle.physiological_order.specs.declared.operation.Record.{Record}
use Rattle.programs.specs.declared.ends.End.{End}
use Rattle.programs.specs.declared.ends.End.TheVariants as end
use Rattle.mailboxes.specs.declared.machine.Machine.{Machine}
use Rattle.mailboxes.specs.declared.core_seat.CoreSeat.{CoreSeat}
use Rattle.mailboxes.specs.declared.bank_seat.BankSeat.{BankSeat}
use Rattle.mailboxes.specs.Seats.{IsCoreSeat, IsBankSeat}
use Rattle.programs.specs.Acts.{Acts}
use Rattle.machine_theorem.specs.Service.{IsServed}
use Rattle.thread_driver.specs.declared.told.Told.{Told}
use Rattle.thread_driver.specs.Given.{AtMost, Exactly, SeatsGiven}
use Rattle.thread_driver.specs.Turns.{has_stopped}

-- the seats of all cores of the machine, in order
pub record AreCoresInOrder (m : Machine) (cores : List CoreSeat) : Type 0 where
  pub long : length cores ≡ m.set_up.config.cores
  pub each : (i : ℕ) (p : CoreSeat) → slice_get cores i ≡ Some p → IsCoreSeat m p × (p.mail.number ≡ i)

-- the seats of all banks of the machine, in order: they are numbered after those of the cores
pub record AreBanksInOrder (m : Machine) (banks : List BankSeat) : Type 0 where
  pub long : length banks ≡ m.set_up.config.banks
  pub each : (i : ℕ) (p : BankSeat) → slice_get banks i ≡ Some p →
      IsBankSeat m p × (p.mail.number ≡ m.set_up.config.cores + i)

-- no core has an open operation
abbrev pub NoneOpen : List CoreSeat → Type 0
NoneOpen cores = (i : ℕ) (p : CoreSeat) → slice_get cores i ≡ Some p → p.part.core.open_op ≡ None

-- whether one of these seats has stopped, by index
abbrev pub one_stopped : {S : Type 0} → (S → Bool) → List S → List S → Bool
one_stopped is_stopped [] after = false
one_stopped is_stopped (p ∷ before) [] = false
one_stopped is_stopped (p ∷ before) (q ∷ after) =
    has_stopped (is_stopped p) (is_stopped q) || one_stopped is_stopped before after

-- How it ends if something is left to do, by what the turns reported: memory if a turn reported a failed allocation,
-- else exhausted if a turn reported that, else limit.
abbrev pub end_told : Told → End
end_told told =
    if told.no_memory then end.NoMemory else (if told.is_exhausted then end.Exhausted else end.TurnsUsed)

-- how many turns each seat had at an end, if it may have `limit`: all of them where the turns were used
abbrev pub TurnsBy : End → ℕ → ℕ → Type 0
TurnsBy end.TurnsUsed limit = Exactly limit
TurnsBy _ limit = AtMost limit

module _ {P : Type 0} (acts : Acts P) where
  -- A core's seat and its program, before and after: the core was served, with the records that were added. The seat
  -- had no open operation before.
  pub record IsSeatServed (p : CoreSeat) (before : P) (q : CoreSeat) (after : P) : Type 0 where
    pub added : List Record
    pub records : q.records.items ≡ p.records.items ++ added
    pub served : IsServed acts p.issued.items q.issued.items added q.part.core.open_op (Some before) (Some after)

  -- that is so of each core's seat and its program, by index
  pub record AreServed (cores : List CoreSeat) (programs : List P) (cores' : List CoreSeat) (programs' : List P) :
      Type 0 where
    pub long : length programs' ≡ length programs
    pub each : (i : ℕ) (p : CoreSeat) (a : P) (q : CoreSeat) (b : P) →
        slice_get cores i ≡ Some p → slice_get programs i ≡ Some a →
        slice_get cores' i ≡ Some q → slice_get programs' i ≡ Some b → IsSeatServed p a q b

  -- no core has an open operation, and no program a next step
  abbrev pub AreOver : List CoreSeat → List P → Type 0
  AreOver cores programs =
      (i : ℕ) (p : CoreSeat) (a : P) → slice_get cores i ≡ Some p → slice_get programs i ≡ Some a →
      (p.part.core.open_op ≡ None) × (acts.next a ≡ None)

  -- Seats of the machine were given at most `limit` turns each, and where the turns are used, exactly so many. All is
  -- done exactly if nothing is left to do. Otherwise what the turns reported decides how it ends. They reported a stop
  -- exactly if a seat is stopped now that wasn't before. The banks' turns are fair, or not.
  pub record Ran (m : Machine) (fair : Bool) (limit : ℕ) (cores : List CoreSeat) (banks : List BankSeat)
      (programs : List P) (cores' : List CoreSeat) (banks' : List BankSeat) (programs' : List P) (e : End) : Type 0
    where
      pub told : Told
      pub given : SeatsGiven acts m fair (TurnsBy e limit) cores banks programs told cores' banks' programs'
      pub done : e ≡ end.AllDone → AreOver cores' programs'
      pub all_done : AreOver cores' programs' → e ≡ end.AllDone
      pub otherwise : e ≢ end.AllDone → e ≡ end_told told
      pub stopped : told.is_exhausted ≡ (one_stopped (λ p. p.is_stopped) cores cores'
          || one_stopped (λ p. p.is_stopped) banks banks')

-- Memory was refused before a turn was made: all are as they were given.
pub record RefusedAtOnce {P : Type 0} (cores : List CoreSeat) (banks : List BankSeat) (programs : List P)
    (cores' : List CoreSeat) (banks' : List BankSeat) (programs' : List P) (e : End) : Type 0 where
  pub end_is : e ≡ end.NoMemory
  pub same_cores : cores' ≡ cores
  pub same_banks : banks' ≡ banks
  pub same_programs : programs' ≡ programs
