-- What a run by threads is: of which machine and programs, to which machine, programs and end.
use Rattle.std.specs.Prelude.{◌≡◌, ◌⊎◌, ℕ, ◌<◌, Bool, true, false, ◌||◌, List, length, map, None}
use Rattle.std.specs.List.{list_any}
use Rattle.machine_table.specs.Machine.{Machine, open_op}
use Rattle.machine_table.specs.Opening.{at_start}
use Rattle.machine_theorem.specs.Moves.{Reached}
use Rattle.machine_theorem.specs.States.{numbered}
use Rattle.programs.specs.declared.ends.End.{End}
use Rattle.programs.specs.declared.ends.End.TheVariants as end
use Rattle.programs.specs.Acts.{Acts, next_in}
use Rattle.machine_theorem.specs.Service.{AreServed}
use Rattle.mailboxes.specs.declared.machine.Machine as shared
use Rattle.mailboxes.specs.declared.core_seat.CoreSeat.{CoreSeat}
use Rattle.mailboxes.specs.declared.bank_seat.BankSeat.{BankSeat}
use Rattle.closed_machine.specs.declared.run.Run.{Run}
use Rattle.mailboxes.specs.Remains.{core_part, bank_part}
use Rattle.closed_machine.specs.RunParts.{Parts, state_of_run}
use Rattle.mailboxes.specs.Seats.{AllNewBanks, AllNewCores}
use Rattle.thread_driver.specs.Shifts.{AreBanksInOrder, AreCoresInOrder, Ran, RefusedAtOnce}

-- the machine that a closed one shows: its parts by number, and the messages in flight with numbers
abbrev pub machine_of : (run : Run) → Parts run → Machine
machine_of run parts = numbered run.set_up.config run.set_up.memory (state_of_run run parts)

-- whether a seat is stopped of those that the closed machine had
abbrev pub is_one_stopped : Run → Bool
is_one_stopped run = list_any (λ p. p.is_stopped) run.cores.items || list_any (λ p. p.is_stopped) run.banks.items

-- The seats that a machine opened with: those of all its cores and banks, in order.
pub record AreOpened (m : shared.Machine) (cores : List CoreSeat) (banks : List BankSeat) : Type 0 where
  pub all_cores : length cores ≡ m.set_up.config.cores
  pub all_banks : length banks ≡ m.set_up.config.banks
  pub new_cores : AllNewCores m 0 cores
  pub new_banks : AllNewBanks m m.set_up.config.cores banks

module _ {P : Type 0} (acts : Acts P) where
  -- no core has an open operation, and no program a next step
  abbrev pub IsOver : Machine → List P → Type 0
  IsOver m programs =
      (core : ℕ) → core < m.config.cores → (open_op m core ≡ None) × (next_in acts programs core ≡ None)

  -- A machine opened. Its seats, with these programs, were given at most `limit` turns each (exactly, if these were
  -- used), or memory for the workers was refused; that decides how it ended. What the seats stored then is what the
  -- run has: the parts of one reached state. The cores were issued what the programs gave. If all is done, nothing is
  -- left to do. If nothing is left to do, all is done, or else memory was refused and all is as it opened. It ends
  -- exhausted only if a seat is stopped, and with its turns used only if none is. The banks' turns are fair, or not.
  pub record IsRunFrom (fair : Bool) (limit : ℕ) (before : List P) (run : Run) (after : List P) (e : End) : Type 0 where
    pub parts : Parts run
    pub reached : Reached run.set_up.config run.set_up.memory (state_of_run run parts)
    pub served : AreServed acts (at_start run.set_up.config run.set_up.memory) (machine_of run parts) before after
    pub machine : shared.Machine
    pub set_up : run.set_up ≡ machine.set_up
    pub opened_cores : List CoreSeat
    pub opened_banks : List BankSeat
    pub opened : AreOpened machine opened_cores opened_banks
    pub cores : List CoreSeat
    pub banks : List BankSeat
    pub in_order : AreCoresInOrder machine cores
    pub behind : AreBanksInOrder machine banks
    pub of_cores : run.cores.items ≡ map core_part cores
    pub of_banks : run.banks.items ≡ map bank_part banks
    pub ended : RefusedAtOnce opened_cores opened_banks before cores banks after e
        ⊎ Ran acts machine fair limit opened_cores opened_banks before cores banks after e
    pub done : e ≡ end.AllDone → IsOver (machine_of run parts) after
    pub over : IsOver (machine_of run parts) after →
        (e ≡ end.AllDone) ⊎ RefusedAtOnce opened_cores opened_banks before cores banks after e
    pub exhausted : e ≡ end.Exhausted → is_one_stopped run ≡ true
    pub turns_used : e ≡ end.TurnsUsed → is_one_stopped run ≡ false

  -- the same of the machine that the closed one shows
  pub record IsThreadRun (fair : Bool) (limit : ℕ) (before : List P) (m : Machine) (after : List P)
      (e : End) : Type 0 where
    pub run : Run
    pub is_run : IsRunFrom fair limit before run after e
    pub shows : machine_of run is_run.parts ≡ m
