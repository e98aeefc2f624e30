-- Workers, and what they do with what they were dealt.
use Rattle.std.specs.Prelude.{◌≡◌, ◌⊎◌, ◌||◌, ◌&&◌, not, is_none, Bool, true, false, ℕ, zero, suc, ◌+◌, ◌<◌, ◌≤◌}
use Rattle.std.specs.Prelude.{List, [], ◌∷◌, length, min, Some, nat_lt, slice_get, if◌then◌else◌}
use Rattle.std.specs.Int.{from_bool}
use Rattle.std.specs.List.{zip}
use Rattle.mailboxes.specs.declared.machine.Machine.{Machine}
use Rattle.mailboxes.specs.declared.core_seat.CoreSeat.{CoreSeat}
use Rattle.mailboxes.specs.declared.bank_seat.BankSeat.{BankSeat}
use Rattle.mailboxes.specs.Seats.{AllCoreSeats, AllBankSeats}
use Rattle.stop_flags.specs.declared.signals.Signals.{Signals}
use Rattle.stop_flags.specs.declared.words.Look.{Look}
use Rattle.stop_flags.specs.Signalers.{IsSignalerOf, last_look, number_of}
use Rattle.stop_flags.specs.Told.{nothing}
use Rattle.programs.specs.Acts.{Acts}
use Rattle.thread_driver.specs.declared.told.Told.{Told}
use Rattle.thread_driver.specs.declared.worker.Rota.{Rota}
use Rattle.thread_driver.specs.declared.worker.Worker.{Worker}
use Rattle.thread_driver.specs.Given.{AtMost, Exactly, IsBankTurn, IsCoreTurn, SeatsGiven, quiet, told_by_both}
use Rattle.thread_driver.specs.Playing.{AreAhead}

-- whether no worker goes on after a turn that reported this
abbrev pub ends_all : Told → Bool
ends_all told = told.no_memory || told.is_exhausted

-- a look found a stop, or that all programs are finished; or neither
abbrev pub FoundEnd : Rota → Look → Type 0
FoundEnd rota look = (look.is_stopped ≡ true) ⊎ (rota.programs ≤ look.finished)

abbrev pub FoundNoEnd : Rota → Look → Type 0
FoundNoEnd rota look = (look.is_stopped ≡ false) × (look.finished < rota.programs)

-- whether a seat has another turn at once after one that reported this: it made progress, and didn't end all
abbrev pub is_followed : Told → Bool
is_followed told = told.has_progressed && not (ends_all told)

-- how many turns a seat has had at most that had n, before the next seat has its own: 16 more, and no more than `limit`
abbrev pub row_end : ℕ → ℕ → ℕ
row_end limit n = min (n + 16) limit

-- Turns of a seat in a row: it had n before, and has had m. It has none if it had as many as there may be, and else
-- one; after each that is followed it has another, until it has had as many as there may be.
pub data InARow {X : Type 0} (Turn : X → Told → X → Type 0) (most : ℕ) : ℕ → X → ℕ → Told → X → Type 0 where
  is_used : {n : ℕ} {x : X} → most ≤ n → InARow Turn most n x n quiet x
  stops : {n : ℕ} {told : Told} {x y : X} → n < most → Turn x told y → is_followed told ≡ false →
      InARow Turn most n x (n + 1) told y
  follows : {n m : ℕ} {told all : Told} {x y z : X} → n < most → Turn x told y → is_followed told ≡ true →
      InARow Turn most (n + 1) y m all z → InARow Turn most n x m (told_by_both told all) z

-- A pass: the first k of a list had turns in a row, and the others none. After a turn that ends all there is no other.
-- The lists of numbers say how many turns each had before, and has had.
pub data PassGiven {X : Type 0} (Turn : X → Told → X → Type 0) (limit : ℕ) : ℕ → List ℕ → List X → Told → List ℕ →
    List X → Type 0 where
  ends : {ns : List ℕ} {xs : List X} → PassGiven Turn limit zero ns xs quiet ns xs
  goes_on : {k n m : ℕ} {ns ms : List ℕ} {told all : Told} {x y : X} {xs ys : List X} →
      InARow Turn (row_end limit n) n x m told y → (ends_all told ≡ true → k ≡ zero) →
      PassGiven Turn limit k ns xs all ms ys →
      PassGiven Turn limit (suc k) (n ∷ ns) (x ∷ xs) (told_by_both told all) (m ∷ ms) (y ∷ ys)

-- the first k of these numbers, by index, are no less than `limit`
abbrev pub AreUsed : ℕ → ℕ → List ℕ → Type 0
AreUsed limit k ns = (i n : ℕ) → i < k → slice_get ns i ≡ Some n → limit ≤ n

-- A pass is whole: all of the list had their turns, unless one ended all.
abbrev pub IsWhole : {X : Type 0} → ℕ → List X → Told → Type 0
IsWhole n xs told = ends_all told ≡ false → n ≡ length xs

-- How many passes in a row came to nothing, after one more; and whether the worker sleeps. It does after the 128th, and
-- then four are taken off: so it does after each fourth that follows, too.
abbrev pub rested : ℕ → Bool → ℕ × Bool
rested idle true = (0, false)
rested idle false = if nat_lt idle 127 then (idle + 1, false) else (124, true)

module _ {P : Type 0} (acts : Acts P) where
  -- whether a core has no open operation, and its program no next step
  abbrev pub is_over : CoreSeat × P → Bool
  is_over x = is_none x.0.part.core.open_op && is_none (acts.next x.1)

  -- of how many cores with their programs that is so
  abbrev pub over_in : List (CoreSeat × P) → ℕ
  over_in [] = 0
  over_in (x ∷ xs) = from_bool (is_over x) + over_in xs

  -- A pass of seats of cores with their programs, by index, and of seats of banks, and what its turns reported
  -- together. Each seat had its turns, unless one ended all; there was none after that. The lists of numbers say how
  -- many turns each seat had before, and has had, of at most `limit`. The banks' turns are fair, or not.
  pub record SeatsPassed (m : Machine) (fair : Bool) (cores : List CoreSeat) (banks : List BankSeat)
      (programs : List P) (told : Told) (cores' : List CoreSeat) (banks' : List BankSeat) (programs' : List P) : Type 0
    where
      pub cores_long : length cores' ≡ length cores
      pub programs_long : length programs' ≡ length programs
      pub limit : ℕ
      pub cores_had : List ℕ
      pub banks_had : List ℕ
      pub cores_have : List ℕ
      pub banks_have : List ℕ
      pub core_turns : ℕ
      pub bank_turns : ℕ
      pub core_told : Told
      pub bank_told : Told
      pub of_cores : PassGiven (IsCoreTurn acts m) limit core_turns cores_had (zip cores programs) core_told cores_have
          (zip cores' programs')
      pub of_banks : PassGiven (IsBankTurn fair m) limit bank_turns banks_had banks bank_told banks_have banks'
      pub all_cores : IsWhole core_turns cores core_told
      pub no_banks : ends_all core_told ≡ true → bank_turns ≡ 0
      pub all_banks : ends_all core_told ≡ false → IsWhole bank_turns banks bank_told
      pub told_is : told ≡ told_by_both core_told bank_told

  -- how many turns each seat had, and has had, of how many
  pub record HasCounts {m : Machine} {fair : Bool} {cores cores' : List CoreSeat} {banks banks' : List BankSeat}
      {told : Told} {programs programs' : List P} (limit : ℕ) (cores_had banks_had cores_have banks_have : List ℕ)
      (pass : SeatsPassed m fair cores banks programs told cores' banks' programs') : Type 0 where
    pub limit_is : pass.limit ≡ limit
    pub cores_had_is : pass.cores_had ≡ cores_had
    pub banks_had_is : pass.banks_had ≡ banks_had
    pub cores_have_is : pass.cores_have ≡ cores_have
    pub banks_have_is : pass.banks_have ≡ banks_have

module _ {P : Type 0} where
  -- the worker has one of these signalers, and seats of the machine
  pub record IsAtWork (m : Machine) (signals : Signals) (w : Worker P) : Type 0 where
    pub signaler : IsSignalerOf signals w.signaler
    pub cores : AllCoreSeats m w.cores.items
    pub banks : AllBankSeats m w.banks.items

  -- each of its seats has had all turns, by these numbers
  abbrev pub HasUsedAll : Rota → Worker P → List ℕ → List ℕ → Type 0
  HasUsedAll rota w cores_had banks_had =
      AreUsed rota.turns (length w.cores.items) cores_had × AreUsed rota.turns (length w.banks.items) banks_had

  -- its programs are ahead of its cores, of which there are few, as there are of its banks, and it has signaled nothing
  abbrev pub IsReady : Acts P → Machine → Signals → Worker P → Type 0
  IsReady acts m signals w =
      IsAtWork m signals w × AreAhead acts w.cores.items w.programs.items × (w.signaler.said ≡ nothing)
      × (length w.cores.items ≤ 72) × (length w.banks.items ≤ 72)

  -- The worker gave its seats turns, and keeps what these reported: at most `rota.turns` each, and exactly so many
  -- unless one of its turns ended all, or its last look found a stop or that all programs are finished. It has signaled
  -- a stop exactly if one of its turns ended all. Otherwise it has signaled each of its programs that is finished; it
  -- never signals more.
  pub record HasWorked (acts : Acts P) (m : Machine) (rota : Rota) (w v : Worker P) : Type 0 where
    pub number : number_of v.signaler ≡ number_of w.signaler
    pub given : SeatsGiven acts m rota.fair (AtMost rota.turns) w.cores.items w.banks.items w.programs.items v.told
        v.cores.items v.banks.items v.programs.items
    pub all_given : ends_all v.told ≡ false → (last_look v.signaler).is_stopped ≡ false →
        (last_look v.signaler).finished < rota.programs →
        SeatsGiven acts m rota.fair (Exactly rota.turns) w.cores.items w.banks.items w.programs.items v.told
        v.cores.items v.banks.items v.programs.items
    pub stops : v.signaler.said.stops ≡ ends_all v.told
    pub finished : v.signaler.said.finished ≤ over_in acts (zip v.cores.items v.programs.items)
    pub all_finished : ends_all v.told ≡ false →
        v.signaler.said.finished ≡ over_in acts (zip v.cores.items v.programs.items)

  unfoldable pub Works : Acts P → Machine → Rota → Worker P → Worker P → Type 0
  Works acts m rota w v = HasWorked acts m rota w v

  -- each of a team is ready; each worked, and still has one of these signalers
  abbrev pub AreReady : Acts P → Machine → Signals → List (Worker P) → Type 0
  AreReady acts m signals ws = (i : ℕ) (w : Worker P) → slice_get ws i ≡ Some w → IsReady acts m signals w

  pub record AllWork (acts : Acts P) (m : Machine) (signals : Signals) (rota : Rota) (ws vs : List (Worker P)) :
      Type 0 where
    pub long : length vs ≡ length ws
    pub each : (i : ℕ) (w v : Worker P) → slice_get ws i ≡ Some w → slice_get vs i ≡ Some v →
        IsSignalerOf signals v.signaler × Works acts m rota w v
