-- A run by a schedule: turn after turn, until one is the last; and how it ends.
use Rattle.std.specs.Prelude.{◌≡◌, ◌⊎◌, ℕ, zero, suc, ◌<◌, ◌≤◌, Bool, true, false, ◌&&◌, ◌||◌, not, is_none, IsTrue}
use Rattle.std.specs.Prelude.{List, [], ◌∷◌, ◌++◌, if◌then◌else◌}
use Rattle.machine_table.specs.declared.event.Event.{Event}
use Rattle.machine_table.specs.declared.event.Event.TheVariants as event
use Rattle.machine_table.specs.Machine.{Machine, open_op}
use Rattle.interleaving_core.specs.StepAnswers.{asks_memory}
use Rattle.programs.specs.declared.ends.End.{End}
use Rattle.programs.specs.declared.ends.End.TheVariants.{AllDone, Stalled, TurnsUsed, Exhausted, NoMemory}
use Rattle.programs.specs.Acts.{Acts, next_in}
use Rattle.schedules.specs.Parts.{Action, Does, Advances, Lists, Standing, after_actions, events_of}
use Rattle.schedules.specs.Schedules.{Schedule}

-- what a run follows: what its programs do, its schedule, and the most turns
pub record Plan (P S : Type 0) : Type 0 where
  pub acts : Acts P
  pub schedule : Schedule P S
  pub limit : ℕ

-- where a run is before or after a turn: its machine and programs, its schedule, its events so far, and how it ends if
-- no turn follows
pub record Position (P S : Type 0) : Type 0 where
  pub standing : Standing P
  pub own : S
  pub events : List Event
  pub end : End

-- whether a core has no open operation and its program no next step
abbrev pub is_over : {P : Type 0} → Acts P → Machine → List P → ℕ → Bool
is_over acts m programs core = is_none (open_op m core) && is_none (next_in acts programs core)

-- whether that is so of all cores below a number
abbrev pub are_over : {P : Type 0} → Acts P → Machine → List P → ℕ → Bool
are_over acts m programs zero = true
are_over acts m programs (suc core) = are_over acts m programs core && is_over acts m programs core

-- all is done, or no more is known than that the turns are used
abbrev pub end_here : {P : Type 0} → Acts P → Machine → List P → End
end_here acts m programs = if are_over acts m programs m.config.cores then AllDone else TurnsUsed

abbrev pub plan_of : {P S : Type 0} → Acts P → Schedule P S → ℕ → Plan P S
plan_of acts schedule limit = record { acts = acts; schedule = schedule; limit = limit }

-- a machine and programs, before the first answer
abbrev pub opened : {P : Type 0} → Machine → List P → Standing P
opened m programs = record { machine = m; programs = programs; has_progressed = false; is_out = false }

-- before the first turn
abbrev pub initial_position : {P S : Type 0} → Acts P → Machine → List P → S → Position P S
initial_position acts m programs own = record {
  standing = opened m programs;
  own = own;
  events = [];
  end = end_here acts m programs;
}

-- a turn begins
abbrev pub begin : {P : Type 0} → Standing P → Standing P
begin s = record s { has_progressed = false }

module _ {P S : Type 0} (plan : Plan P S) where
  abbrev pub turn_at : Position P S → List Action
  turn_at p = plan.schedule.turn p.own (begin p.standing)

  -- exhausted times end a run, and so does a turn without progress if the schedule stalls then
  abbrev pub end_of_turn : Standing P → End
  end_of_turn s =
      if s.is_out then Exhausted
      else if plan.schedule.stalls && not s.has_progressed then Stalled
      else end_here plan.acts s.machine s.programs

  abbrev pub after_turn : Position P S → Position P S
  after_turn p = record {
    standing = after_actions plan.acts (begin p.standing) (turn_at p);
    own = plan.schedule.next p.own;
    events = p.events ++ events_of plan.acts (begin p.standing) (turn_at p);
    end = end_of_turn (after_actions plan.acts (begin p.standing) (turn_at p));
  }

  -- a turn follows only where nothing else ended the run
  abbrev pub one_more : End → Position P S → Position P S
  one_more TurnsUsed p = after_turn p
  one_more _ p = p

  -- after at most so many turns
  unfoldable pub run : ℕ → Position P S → Position P S
  run zero p = p
  run (suc turns) p = one_more (run turns p).end (run turns p)

-- a run asks for memory if the next action does: a list, or an event that is kept, is an issue or first stores a line
abbrev pub AsksMemory : Bool → Machine → List Action → Type 0
AsksMemory keeps m [] = ⊥
AsksMemory keeps m (Does e ∷ actions) = IsTrue (keeps || asks_memory m e)
AsksMemory keeps m (Advances core ∷ actions) = IsTrue (keeps || asks_memory m (event.Advance core))
AsksMemory keeps m (Lists ∷ actions) = Unit {0}

-- memory was refused after fewer turns than the limit, in one of which some actions were made and the next one asks for
-- memory
pub record IsCut {P S : Type 0} (keeps : Bool) (plan : Plan P S) (start : Position P S) (events : List Event)
    (s : Standing P) (end : End) : Type 0 where
  pub end_is : end ≡ NoMemory
  pub turns : ℕ
  pub within : turns < plan.limit
  pub goes_on : (run plan turns start).end ≡ TurnsUsed
  pub made : List Action
  pub left : List Action
  pub turn_is : turn_at plan (run plan turns start) ≡ made ++ left
  pub leads : after_actions plan.acts (begin (run plan turns start).standing) made ≡ s
  pub events_are : events ≡ (run plan turns start).events
      ++ events_of plan.acts (begin (run plan turns start).standing) made
  pub in_time : s.is_out ≡ false
  pub asks : AsksMemory keeps s.machine left

-- the run after its last turn
pub record HasRun {P S : Type 0} (p : Position P S) (events : List Event) (s : Standing P) (end : End) : Type 0 where
  pub standing_is : p.standing ≡ s
  pub events_are : p.events ≡ events
  pub end_is : p.end ≡ end

-- the events, which are kept in a list or not, lead to this machine, these programs and this end; or memory was
-- refused
pub record Ended {P S : Type 0} (keeps : Bool) (plan : Plan P S) (start : Position P S) (events : List Event)
    (m : Machine) (programs : List P) (end : End) : Type 0 where
  pub last : Standing P
  pub machine_is : last.machine ≡ m
  pub programs_are : last.programs ≡ programs
  pub ends : HasRun (run plan plan.limit start) events last end ⊎ IsCut keeps plan start events last end

-- as Ended, of a run that began so many turns: it used each but the last one, and the limit if that is its end
pub record EndedIn {P S : Type 0} (turns : ℕ) (keeps : Bool) (plan : Plan P S) (start : Position P S)
    (events : List Event) (m : Machine) (programs : List P) (end : End) : Type 0 where
  pub within : turns ≤ plan.limit
  pub used : end ≡ TurnsUsed → turns ≡ plan.limit
  pub begun : (fewer : ℕ) → fewer < turns → (run plan fewer start).end ≡ TurnsUsed
  pub ended : Ended keeps (plan_of plan.acts plan.schedule turns) start events m programs end
