-- How a run notes the events that it makes.
use Rattle.std.specs.Prelude.{◌≡◌, ℕ, ◌<◌, Bool, true, false, ◌||◌, List, ◌++◌, Option, is_some}
use Rattle.std.specs.Prelude.{Some, None, Result, Ok, Err, IsTrue, if◌then◌else◌}
use Rattle.std.specs.Fn.{iterate}
use Rattle.std.specs.Int.{bit_at}
use Rattle.physiological_order.specs.declared.operation.Record.{Record}
use Rattle.machine_table.specs.declared.event.Event.{Event}
use Rattle.machine_table.specs.declared.event.Answer.{Answer}
use Rattle.machine_table.specs.declared.event.Answer.TheVariants.{Refused}
use Rattle.machine_table.specs.declared.event.Refusal.TheVariants.{Exhausted as TimesEnd, NoMemory as NoMemoryAnswer}
use Rattle.machine_table.specs.Machine.{Machine}
use Rattle.machine_table.specs.Transition.{transition}
use Rattle.interleaving_core.specs.declared.plain_answer.PlainAnswer.{PlainAnswer}
use Rattle.interleaving_core.specs.PartChanges.{answer_in}
use Rattle.interleaving_core.specs.StepAnswers.{asks_memory}
use Rattle.programs.specs.declared.ends.End.{End}
use Rattle.programs.specs.declared.ends.End.TheVariants.{AllDone, Stalled, TurnsUsed, Exhausted, NoMemory}
use Rattle.programs.specs.Acts.{Acts, next_in}
use Rattle.schedules.specs.Parts.{Action, Standing, Part, after_actions, events_of, is_progress, is_times_end}
use Rattle.schedules.specs.Runs.{Plan, Position, AsksMemory, Ended, EndedIn}
use Rattle.schedules.specs.Watches.{Watches, AreSeen}
use Rattle.schedules.specs.declared.log.Log.{Log}

-- an answered event of a machine is noted, and the watcher was shown it with the machine after it
pub record IsNoted {W : Type 0} (watches : Watches W) (m : Machine) (log : Log W) (event : Event) (answer : Answer)
    (after : Machine) (after_log : Log W) : Type 0 where
  pub seen : watches.seen after_log.watcher ≡ watches.sees (watches.seen log.watcher) m event answer after
  pub has_progressed : after_log.has_progressed ≡ (log.has_progressed || is_progress answer)
  pub unfinished : after_log.unfinished ≡ log.unfinished

-- nothing is noted
pub record IsSame {W : Type 0} (watches : Watches W) (log after : Log W) : Type 0 where
  pub seen : watches.seen after.watcher ≡ watches.seen log.watcher
  pub has_progressed : after.has_progressed ≡ log.has_progressed
  pub unfinished : after.unfinished ≡ log.unfinished

-- the bits are those of the first 64 cores whose programs have a next step
abbrev pub IsAsked : {P : Type 0} → Acts P → List P → ℕ → Type 0
IsAsked acts programs mask =
    (core : ℕ) → core < 64 → bit_at mask core ≡ (if is_some (next_in acts programs core) then 1 else 0)

-- programs are told something, and only whether they have a next step is noted
pub record IsTold {P W : Type 0} (acts : Acts P) (programs : List P) (log : Log W) (told : List P) (after : Log W) :
    Type 0 where
  pub watcher : after.watcher ≡ log.watcher
  pub has_progressed : after.has_progressed ≡ log.has_progressed
  pub asked : IsAsked acts programs log.unfinished → IsAsked acts told after.unfinished

abbrev pub is_refused : Answer → Bool
is_refused (Refused why) = true
is_refused _ = false

abbrev pub is_no_memory : Answer → Bool
is_no_memory (Refused NoMemoryAnswer) = true
is_no_memory _ = false

-- the answer to an event, by the records afterwards
abbrev pub answered : List Record → Result (Option PlainAnswer) End → Result Answer End
answered records (Ok plain) = Ok (answer_in records plain)
answered records (Err end) = Err end

-- an event is answered by the table and noted; if the answer is that times are exhausted, the run is to end; and if an
-- allocation failed, nothing changed, and the event asks for memory or its watcher does
abbrev pub Noted : {W : Type 0} → Watches W → Machine → Log W → Event → Result Answer End → Machine → Log W → Type 0
Noted watches m log event (Ok answer) after after_log =
    ((answer, after) ≡ transition m event) × (is_times_end answer ≡ false)
    × IsNoted watches m log event answer after after_log
Noted watches m log event (Err Exhausted) after after_log =
    ((Refused TimesEnd, after) ≡ transition m event) × IsNoted watches m log event (Refused TimesEnd) after after_log
Noted watches m log event (Err NoMemory) after after_log =
    (after ≡ m) × IsSame watches log after_log × IsTrue (watches.asks || asks_memory m event)
Noted watches m log event (Err AllDone) after after_log = ⊥
Noted watches m log event (Err Stalled) after after_log = ⊥
Noted watches m log event (Err TurnsUsed) after after_log = ⊥

-- where a run is in a turn, with what it has noted
pub record Point (P W : Type 0) : Type 0 where
  pub machine : Machine
  pub programs : List P
  pub log : Log W

abbrev pub at : {P W : Type 0} → Machine → List P → Log W → Point P W
at m programs log = record { machine = m; programs = programs; log = log }

abbrev pub standing : {P W : Type 0} → Point P W → Bool → Standing P
standing p out = record {
  machine = p.machine;
  programs = p.programs;
  has_progressed = p.log.has_progressed;
  is_out = out;
}

-- actions lead from the one point to the other, where times may be exhausted; their events are seen, and which programs
-- have a next step is noted
pub record IsMade {P W : Type 0} (acts : Acts P) (watches : Watches W) (actions : List Action) (p q : Point P W)
    (out : Bool) : Type 0 where
  pub leads : after_actions acts (standing p false) actions ≡ standing q out
  pub seen : AreSeen watches (watches.seen p.log.watcher) p.machine (events_of acts (standing p false) actions)
      q.machine q.log.watcher
  pub asked : IsAsked acts p.programs p.log.unfinished → IsAsked acts q.programs q.log.unfinished

-- memory was refused behind some of the actions, where the next one asks for some
pub record IsRefused {P W : Type 0} (acts : Acts P) (watches : Watches W) (actions : List Action) (p q : Point P W) :
    Type 0 where
  pub made : List Action
  pub left : List Action
  pub actions_are : actions ≡ made ++ left
  pub is_made : IsMade acts watches made p q false
  pub asks : AsksMemory watches.asks q.machine left

-- a part of a turn leads from the one point to the other: all that it makes by where it begins was made; or that up to
-- the end of times; or some of it, where memory was refused
abbrev pub Reaches : {P W : Type 0} → Acts P → Watches W → Part P → Point P W → Option End → Point P W → Type 0
Reaches acts watches part p None q = IsMade acts watches (part (standing p false)) p q false
Reaches acts watches part p (Some Exhausted) q = IsMade acts watches (part (standing p false)) p q true
Reaches acts watches part p (Some NoMemory) q = IsRefused acts watches (part (standing p false)) p q
Reaches acts watches part p _ q = ⊥

-- the end that an error is
abbrev pub end_in : {X : Type 0} → Result X End → Option End
end_in (Ok x) = None
end_in (Err e) = Some e

abbrev pub Did : {X P W : Type 0} → Acts P → Watches W → Part P → Point P W → Result X End → Point P W → Type 0
Did acts watches part p r q = Reaches acts watches part p (end_in r) q

-- a run ends so, by its plan from a start: its events were shown to the watcher, and lead to the machine; and by each
-- turn that it began its schedule went on
abbrev pub Finishes : {P S W : Type 0} → Watches W → Plan P S → Position P S → W → W → Machine → List P → S → End →
    Type 0
Finishes watches plan start watcher after m programs own end =
    (events : List Event) × Ended watches.asks plan start events m programs end
    × AreSeen watches (watches.seen watcher) start.standing.machine events m after
    × (turns : ℕ) × EndedIn turns watches.asks plan start events m programs end
    × (own ≡ iterate plan.schedule.next turns start.own)
