-- What is in hands, and what workers have of it.
use Rattle.std.specs.Prelude.{◌≡◌, ℕ, ◌≤◌, List, ◌++◌, length, map, vec_capacity}
use Rattle.mailboxes.specs.declared.core_seat.CoreSeat.{CoreSeat}
use Rattle.mailboxes.specs.declared.bank_seat.BankSeat.{BankSeat}
use Rattle.round_robin.specs.Dealing.{HasLengths, HaveRoom, IsDealtInTurn}
use Rattle.thread_driver.specs.declared.shift.Shift.{Shift}
use Rattle.thread_driver.specs.declared.worker.Worker.{Worker}
use Rattle.thread_driver.specs.declared.worker.Hands.{Hands}

module _ {P : Type 0} where
  -- what each worker has
  abbrev pub core_hands : List (Worker P) → List (List CoreSeat)
  core_hands ws = map (λ w. w.cores.items) ws

  abbrev pub program_hands : List (Worker P) → List (List P)
  program_hands ws = map (λ w. w.programs.items) ws

  abbrev pub bank_hands : List (Worker P) → List (List BankSeat)
  bank_hands ws = map (λ w. w.banks.items) ws

  -- what is in each hand
  abbrev pub cores_in : Hands P → List (List CoreSeat)
  cores_in h = map (λ v. v.items) h.cores.items

  abbrev pub programs_in : Hands P → List (List P)
  programs_in h = map (λ v. v.items) h.programs.items

  abbrev pub banks_in : Hands P → List (List BankSeat)
  banks_in h = map (λ v. v.items) h.banks.items

  -- there are n hands
  pub record AreHands (n : ℕ) (h : Hands P) : Type 0 where
    pub cores : length h.cores.items ≡ n
    pub programs : length h.programs.items ≡ n
    pub banks : length h.banks.items ≡ n

  -- there is room for n hands
  pub record HaveHandRoom (n : ℕ) (h : Hands P) : Type 0 where
    pub cores : n ≤ vec_capacity h.cores
    pub programs : n ≤ vec_capacity h.programs
    pub banks : n ≤ vec_capacity h.banks

  -- and each hand is empty, with room for its share of the seats and programs
  pub record AreRoomy (s : Shift P) (h : Hands P) : Type 0 where
    pub cores : HaveRoom (length s.cores.items) h.cores.items
    pub programs : HaveRoom (length s.programs.items) h.programs.items
    pub banks : HaveRoom (length s.banks.items) h.banks.items

  -- what was in all hands is in those that are left, and then with the workers, in this order
  pub record AreSplit (all left : Hands P) (ws : List (Worker P)) : Type 0 where
    pub cores : cores_in all ≡ cores_in left ++ core_hands ws
    pub programs : programs_in all ≡ programs_in left ++ program_hands ws
    pub banks : banks_in all ≡ banks_in left ++ bank_hands ws

  -- what all workers had is with those that are left, and then in the hands, in this order
  pub record AreBack (all left : List (Worker P)) (h : Hands P) : Type 0 where
    pub cores : core_hands all ≡ core_hands left ++ cores_in h
    pub programs : program_hands all ≡ program_hands left ++ programs_in h
    pub banks : bank_hands all ≡ bank_hands left ++ banks_in h

  -- Seats and programs are dealt to n hands: core i and its program to hand i modulo n, and the banks after the cores,
  -- from the hand after that of the last core on.
  pub record AreDealt (n : ℕ) (cores : List CoreSeat) (programs : List P) (banks : List BankSeat)
      (core_lists : List (List CoreSeat)) (program_lists : List (List P)) (bank_lists : List (List BankSeat)) :
      Type 0 where
    pub cores_dealt : IsDealtInTurn cores 0 n core_lists
    pub programs_dealt : IsDealtInTurn programs 0 n program_lists
    pub banks_dealt : IsDealtInTurn banks (length cores) n bank_lists

  -- the hands have the lengths of this many seats and programs that were dealt
  pub record HaveLengths (n cores programs banks : ℕ) (core_lists : List (List CoreSeat))
      (program_lists : List (List P)) (bank_lists : List (List BankSeat)) : Type 0 where
    pub core_lengths : HasLengths cores 0 n core_lists
    pub program_lengths : HasLengths programs 0 n program_lists
    pub bank_lengths : HasLengths banks cores n bank_lists
