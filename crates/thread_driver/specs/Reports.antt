-- What turns report, and how they decide an end, in the words of their calls. The definitions by which code computes
-- both (`told_of`, `told_by_both`, `end_told`) aren't cited here.
use Rattle.std.specs.Prelude.{◌≡◌, ◌≢◌, ◌⊎◌, ◌↔◌, ℕ, ◌<◌, Bool, true, false, List, Option, Result, Ok, Err}
use Rattle.machine_table.specs.declared.event.Refusal.{Refusal}
use Rattle.machine_table.specs.declared.event.Refusal.TheVariants.{NoMemory}
use Rattle.inbox.specs.declared.answer.Served.TheVariants as served
use Rattle.mailboxes.specs.declared.machine.Machine.{Machine}
use Rattle.mailboxes.specs.declared.core_seat.CoreSeat.{CoreSeat}
use Rattle.mailboxes.specs.declared.bank_seat.BankSeat.{BankSeat}
use Rattle.mailboxes.specs.declared.turning.Turn.{Turn}
use Rattle.programs.specs.declared.ends.End.{End}
use Rattle.programs.specs.declared.ends.End.TheVariants as end
use Rattle.programs.specs.Acts.{Acts}
use Rattle.thread_driver.specs.declared.told.Told.{Told}
use Rattle.thread_driver.specs.Given.{AllGiven, none, one_more, IsBankTurn, IsCoreTurn, SeatsGiven}
use Rattle.thread_driver.specs.Given.{TurnsGiven, rests, more}
use Rattle.thread_driver.specs.Turns.{BankHad}

-- A turn reports that memory was refused, that its seat stopped, and progress, each exactly if this is so.
pub record IsReport (told : Told) (Lacked Stopped Progressed : Type 0) : Type 0 where
  pub no_memory : (told.no_memory ≡ true) ↔ Lacked
  pub is_exhausted : (told.is_exhausted ≡ true) ↔ Stopped
  pub has_progressed : (told.has_progressed ≡ true) ↔ Progressed

-- messages were put, or one was served
abbrev pub Moved : Result Turn Refusal → Type 0
Moved (Ok turn) = (0 < turn.put) ⊎ ((turn.served ≢ served.Held) × (turn.served ≢ served.Nothing))
Moved (Err r) = ⊥

-- a seat stopped: it wasn't stopped before, and is after
abbrev pub Stopped : Bool → Bool → Type 0
Stopped before after = (before ≡ false) × (after ≡ true)

-- A program goes on exactly if its step was done.
abbrev pub Went : {P : Type 0} → Acts P → Result Bool Refusal → P → P → Type 0
Went acts (Ok true) before after = (received : Option ℕ) × (after ≡ acts.done before received)
Went acts (Ok false) before after = after ≡ before
Went acts (Err r) before after = after ≡ before

-- one of these turns is so
module _ {X : Type 0} {Turn : X → Told → X → Type 0} (Is : (x : X) (told : Told) (y : X) → Turn x told y → Type 0) where
  abbrev pub OneOf : {x y : X} {n : ℕ} {told : Told} → TurnsGiven Turn x n told y → Type 0
  OneOf rests = ⊥
  OneOf (more {told = told} {y = y} {z = z} given last) = OneOf given ⊎ Is y told z last

  abbrev pub OneOfAll : {Many : ℕ → Type 0} {xs ys : List X} {told : Told} → AllGiven Turn Many xs told ys → Type 0
  OneOfAll none = ⊥
  OneOfAll (one_more many given rest) = OneOf given ⊎ OneOfAll rest

-- what the seat's own turn answered in a bank's turn, fair or not
abbrev pub moved_in : (fair : Bool) (m : Machine) (p : BankSeat) (told : Told) (q : BankSeat) →
    BankHad fair m p told q →
    Result Turn Refusal
moved_in false m p told q turn = turn.moved
moved_in true m p told q turn = turn.moved

module _ (fair : Bool) (m : Machine) where
  -- a call of a bank's turn was refused memory; and its seat stopped
  abbrev pub BankLacked : (p : BankSeat) (told : Told) (q : BankSeat) → IsBankTurn fair m p told q → Type 0
  BankLacked p told q is = moved_in fair m p told q is.turn ≡ Err NoMemory

  abbrev pub BankStopped : (p : BankSeat) (told : Told) (q : BankSeat) → IsBankTurn fair m p told q → Type 0
  BankStopped p told q is = Stopped p.is_stopped q.is_stopped

module _ {P : Type 0} (acts : Acts P) (m : Machine) where
  -- the same of a core's turn
  abbrev pub CoreLacked : (x : CoreSeat × P) (told : Told) (y : CoreSeat × P) → IsCoreTurn acts m x told y → Type 0
  CoreLacked x told y is = (is.turn.moved ≡ Err NoMemory) ⊎ (is.turn.done ≡ Err NoMemory)

  abbrev pub CoreStopped : (x : CoreSeat × P) (told : Told) (y : CoreSeat × P) → IsCoreTurn acts m x told y → Type 0
  CoreStopped x told y is = Stopped x.0.is_stopped y.0.is_stopped

  module _ {fair : Bool} {Many : ℕ → Type 0} {cores cores' : List CoreSeat} {banks banks' : List BankSeat}
      {programs programs' : List P} {told : Told}
      (given : SeatsGiven acts m fair Many cores banks programs told cores' banks' programs') where
    -- a call of some seat's turn was refused memory; and some seat stopped in a turn
    abbrev pub SomeLacked : Type 0
    SomeLacked = OneOfAll CoreLacked given.of_cores ⊎ OneOfAll (BankLacked fair m) given.of_banks

    abbrev pub SomeStopped : Type 0
    SomeStopped = OneOfAll CoreStopped given.of_cores ⊎ OneOfAll (BankStopped fair m) given.of_banks

-- How it ends if something is left to do: NoMemory exactly if memory was refused, else Exhausted exactly if a seat
-- stopped, else TurnsUsed.
pub record IsDecided (Lacked Stopped : Type 0) (e : End) : Type 0 where
  pub no_memory : (e ≡ end.NoMemory) ↔ Lacked
  pub exhausted : (e ≡ end.Exhausted) ↔ ((Lacked → ⊥) × Stopped)
  pub turns_used : (e ≡ end.TurnsUsed) ↔ ((Lacked → ⊥) × (Stopped → ⊥))
