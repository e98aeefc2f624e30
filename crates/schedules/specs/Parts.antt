-- The parts of a turn: each makes its actions by where it begins, and leads on from there.
use Rattle.std.specs.Prelude.{ℕ, Bool, true, false, ◌&&◌, ◌||◌, List, [], ◌∷◌, ◌++◌, Option, Some, None}
use Rattle.std.specs.Prelude.{if◌then◌else◌}
use Rattle.machine_table.specs.declared.event.Event.{Event}
use Rattle.machine_table.specs.declared.event.Event.TheVariants as event
use Rattle.machine_table.specs.declared.event.Answer.{Answer}
use Rattle.machine_table.specs.declared.event.Answer.TheVariants.{Completed, Waiting, Held, Evicted, Advanced, Refused}
use Rattle.machine_table.specs.declared.event.Refusal.TheVariants.{NoRoom, Exhausted as TimesEnd}
use Rattle.machine_table.specs.Machine.{Machine, open_op}
use Rattle.machine_table.specs.Transition.{transition}
use Rattle.interleaving_core.specs.LookUps.{victim_for_core, make_room}
use Rattle.programs.specs.Acts.{Acts, done_in}

-- an answer is progress exactly if it is not Waiting, Held or a refusal
abbrev pub is_progress : Answer → Bool
is_progress Waiting = false
is_progress Held = false
is_progress (Refused why) = false
is_progress _ = true

abbrev pub is_held : Answer → Bool
is_held Held = true
is_held _ = false

abbrev pub is_evicted : Answer → Bool
is_evicted Evicted = true
is_evicted _ = false

abbrev pub is_advanced : Answer → Bool
is_advanced Advanced = true
is_advanced _ = false

abbrev pub is_times_end : Answer → Bool
is_times_end (Refused TimesEnd) = true
is_times_end _ = false

abbrev pub is_no_room : Answer → Bool
is_no_room (Refused NoRoom) = true
is_no_room _ = false

-- a core's program receives what a completed operation did
abbrev pub programs_told : {P : Type 0} → Acts P → List P → Answer → List P
programs_told acts programs (Completed done) = done_in acts programs done.core done.received
programs_told acts programs _ = programs

-- a core's program goes on after its advance
abbrev pub told_advance : {P : Type 0} → Acts P → List P → ℕ → Answer → List P
told_advance acts programs core answer = if is_advanced answer then done_in acts programs core None else programs

-- what a schedule makes
pub data Action : Type 0 where
  -- an event; the programs receive what it completes
  Does : Event → Action
  -- a core advances, as the next step of its program says
  Advances : ℕ → Action
  -- messages or lines are listed: this is no event, and asks for memory
  Lists : Action

-- a machine, the programs of its cores, whether an answer of the turn was progress, and whether times are exhausted
pub record Standing (P : Type 0) : Type 0 where
  pub machine : Machine
  pub programs : List P
  pub has_progressed : Bool
  pub is_out : Bool

-- the actions of a part of a turn, by where it begins
abbrev pub Part : Type 0 → Type 0
Part P = Standing P → List Action

-- after an answer, of which the programs are told
abbrev pub after_answer : {P : Type 0} → Standing P → (Answer → List P) → Answer × Machine → Standing P
after_answer s told x = record {
  machine = x.1;
  programs = told x.0;
  has_progressed = s.has_progressed || is_progress x.0;
  is_out = is_times_end x.0;
}

module _ {P : Type 0} (acts : Acts P) where
  -- nothing is made once times are exhausted
  abbrev pub after_action : Standing P → Action → Standing P
  after_action s (Does e) =
      if s.is_out then s else after_answer s (programs_told acts s.programs) (transition s.machine e)
  after_action s (Advances core) =
      if s.is_out then s
      else after_answer s (told_advance acts s.programs core) (transition s.machine (event.Advance core))
  after_action s Lists = s

  abbrev pub after_actions : Standing P → List Action → Standing P
  after_actions s [] = s
  after_actions s (action ∷ actions) = after_actions (after_action s action) actions

  abbrev pub events_of_one : Standing P → Action → List Event
  events_of_one s (Does e) = if s.is_out then [] else e ∷ []
  events_of_one s (Advances core) = if s.is_out then [] else event.Advance core ∷ []
  events_of_one s Lists = []

  -- the events that actions make
  abbrev pub events_of : Standing P → List Action → List Event
  events_of s [] = []
  events_of s (action ∷ actions) = events_of_one s action ++ events_of (after_action s action) actions

  -- one part, and the other where it leads
  abbrev pub followed_by : Part P → Part P → Part P
  followed_by first second s = first s ++ second (after_actions s (first s))

  -- a part for each number, in their order
  abbrev pub for_each : (ℕ → Part P) → List ℕ → Part P
  for_each part [] s = []
  for_each part (n ∷ numbers) s = followed_by (part n) (for_each part numbers) s

-- one action
abbrev pub one : {P : Type 0} → Action → Part P
one action s = action ∷ []

-- a part, or nothing
abbrev pub only_if : {P : Type 0} → Bool → Part P → Part P
only_if b part s = if b then part s else []

-- at most one: the copy is evicted
abbrev pub copy_leaves : {P : Type 0} → ℕ → Option ℕ → Part P
copy_leaves core None s = []
copy_leaves core (Some line) s = one (Does (event.EvictCache core line)) s

-- a copy goes so that there is a place for the line of a core's open operation, if one makes a place
abbrev pub makes_place : {P : Type 0} → ℕ → Part P
makes_place core s = copy_leaves core (victim_for_core s.machine core (open_op s.machine core)) s

-- whether an attempt finds no place for the line
abbrev pub finds_no_place : Machine → ℕ → Bool
finds_no_place m core = is_no_room (transition m (event.Attempt core)).0

module _ {P : Type 0} (acts : Acts P) where
  -- an attempt; exactly if there was no place, a copy goes
  abbrev pub tries : ℕ → Part P
  tries core s =
      followed_by acts (one (Does (event.Attempt core))) (only_if (finds_no_place s.machine core) (makes_place core)) s

  -- at most two: the line leaves its bank; and exactly if that is answered Evicted and rounds are fair, the message
  -- that was held is delivered once more, and no line leaves for it again
  abbrev pub line_leaves : Bool → ℕ → Option (ℕ × ℕ) → Part P
  line_leaves fair number None s = []
  line_leaves fair number (Some x) s =
      followed_by acts (one (Does (event.EvictBank x.0 x.1)))
      (only_if (fair && is_evicted (transition s.machine (event.EvictBank x.0 x.1)).0)
      (one (Does (event.Deliver number)))) s

  -- a line leaves the bank of a held message, if that makes room for it
  abbrev pub makes_room : Bool → ℕ → Part P
  makes_room fair number s = line_leaves fair number (make_room s.machine number) s

  -- a delivery; exactly if the message was held, a line leaves its bank
  abbrev pub delivery : Bool → ℕ → Part P
  delivery fair number s =
      followed_by acts (one (Does (event.Deliver number)))
      (only_if (is_held (transition s.machine (event.Deliver number)).0) (makes_room fair number)) s
