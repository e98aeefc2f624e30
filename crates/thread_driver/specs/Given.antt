-- Turns that seats were given, one after the other, and what they reported together.
use Rattle.std.specs.Prelude.{◌≡◌, ◌||◌, ℕ, zero, suc, ◌≤◌, Bool, false, List, [], ◌∷◌, length}
use Rattle.std.specs.List.{zip}
use Rattle.mailboxes.specs.declared.machine.Machine.{Machine}
use Rattle.mailboxes.specs.declared.core_seat.CoreSeat.{CoreSeat}
use Rattle.mailboxes.specs.declared.bank_seat.BankSeat.{BankSeat}
use Rattle.mailboxes.specs.Seats.{IsCoreSeat, IsBankSeat}
use Rattle.programs.specs.Acts.{Acts}
use Rattle.thread_driver.specs.declared.told.Told.{Told}
use Rattle.thread_driver.specs.Playing.{Plays}
use Rattle.thread_driver.specs.Turns.{BankHad, CoreHadTurn}

-- nothing to report
abbrev pub quiet : Told
quiet = record { no_memory = false; is_exhausted = false; has_progressed = false }

-- what two turns reported together: all that either of them reported
abbrev pub told_by_both : Told → Told → Told
told_by_both a b =
    record {
      no_memory = a.no_memory || b.no_memory;
      is_exhausted = a.is_exhausted || b.is_exhausted;
      has_progressed = a.has_progressed || b.has_progressed;
    }

-- n turns, one after the other, which each do what `Turn` says, and what they reported together.
pub data TurnsGiven {X : Type 0} (Turn : X → Told → X → Type 0) (x : X) : ℕ → Told → X → Type 0 where
  rests : TurnsGiven Turn x zero quiet x
  more : {n : ℕ} {all told : Told} {y z : X} → TurnsGiven Turn x n all y → Turn y told z →
      TurnsGiven Turn x (suc n) (told_by_both all told) z

-- numbers of turns: at most so many, or all of them
abbrev pub AtMost : ℕ → ℕ → Type 0
AtMost limit n = n ≤ limit

abbrev pub Exactly : ℕ → ℕ → Type 0
Exactly limit n = n ≡ limit

-- Each of a list was given a number of turns, of which `Many` holds, and is at the same place in the other list; and
-- what all of these turns reported together.
pub data AllGiven {X : Type 0} (Turn : X → Told → X → Type 0) (Many : ℕ → Type 0) : List X → Told → List X → Type 0
  where
    none : AllGiven Turn Many [] quiet []
    one_more : {n : ℕ} {told all : Told} {x y : X} {xs ys : List X} → Many n → TurnsGiven Turn x n told y →
        AllGiven Turn Many xs all ys → AllGiven Turn Many (x ∷ xs) (told_by_both told all) (y ∷ ys)

-- what `bank_turn` promises of a bank's seat, before and after; and `fair_bank_turn`, if turns are fair
pub record IsBankTurn (fair : Bool) (m : Machine) (before : BankSeat) (told : Told) (after : BankSeat) : Type 0 where
  pub seat : IsBankSeat m after
  pub number : after.mail.number ≡ before.mail.number
  pub turn : BankHad fair m before told after

module _ {P : Type 0} (acts : Acts P) (m : Machine) where
  -- what `core_turn` promises of a core's seat with its program, before and after
  pub record IsCoreTurn (before : CoreSeat × P) (told : Told) (after : CoreSeat × P) : Type 0 where
    pub seat : IsCoreSeat m after.0
    pub plays : Plays acts before.0 before.1 after.0 after.1
    pub turn : CoreHadTurn acts m before.0 before.1 told after.0 after.1

  -- Seats of cores with their programs, by index, and seats of banks were given turns, so many each, and what all of
  -- these reported together. The banks' turns are fair, or not.
  pub record SeatsGiven (fair : Bool) (Many : ℕ → Type 0) (cores : List CoreSeat) (banks : List BankSeat)
      (programs : List P) (told : Told) (cores' : List CoreSeat) (banks' : List BankSeat) (programs' : List P) : Type 0
    where
      pub cores_long : length cores' ≡ length cores
      pub programs_long : length programs' ≡ length programs
      pub core_told : Told
      pub bank_told : Told
      pub of_cores : AllGiven IsCoreTurn Many (zip cores programs) core_told (zip cores' programs')
      pub of_banks : AllGiven (IsBankTurn fair m) Many banks bank_told banks'
      pub told_is : told ≡ told_by_both core_told bank_told
