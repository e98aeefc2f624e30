-- A run of a trace that is read as the run goes.
use Rattle.std.specs.Prelude.{◌≡◌, ◌⊎◌, ℕ, zero, suc, ◌+◌, ◌-◌, ◌≤◌, Bool, true, false, List, [], ◌∷◌, ◌++◌, length}
use Rattle.std.specs.Prelude.{map}
use Rattle.std.specs.Prelude.{Option, None, IfSome, is_some, slice_index_or, if◌then◌else◌}
use Rattle.std.specs.Ordering.{nat_cmp}
use Rattle.std.specs.FinMap.{FinMap, empty, entries}
use Rattle.physiological_order.specs.declared.operation.Record.{Record}
use Rattle.physiological_order.specs.StaleHits.{RisesByNumber, stale_count}
use Rattle.machine_table.specs.declared.event.Event.{Event}
use Rattle.machine_table.specs.Machine.{Machine, open_op}
use Rattle.machine_table.specs.Opening.{at_start}
use Rattle.machine_table.specs.Runs.{after_all}
use Rattle.machine_table.specs.SetUp.{is_good}
use Rattle.machine_theorem.specs.Coherence.{coherent}
use Rattle.programs.specs.declared.ends.End.{End}
use Rattle.programs.specs.declared.ends.End.TheVariants.{AllDone, TurnsUsed}
use Rattle.programs.specs.declared.steps.Step.{Step}
use Rattle.schedules.specs.LongerLists.{end_before, joined, step_acts}
use Rattle.schedules.specs.Paces.{Paced, paced}
use Rattle.schedules.specs.Policies.{EndsBy}
use Rattle.byte_streams.specs.Device.{AtEnd}
use Rattle.trace_reader.specs.declared.step_streams.StepStream.{StepStream}
use Rattle.trace_reader.specs.Streams.{coming, where_known, OnlyFault}
use Rattle.trace_reader.specs.Filling.{AheadState, unnumbered}
use Rattle.trace_reader.specs.Steps.{cores_of, lane, named, steps_of}
use Rattle.trace_texts.specs.declared.reports.Kinds.{Kinds}
use Rattle.trace_texts.specs.Reports.{kinds_of}
use Rattle.streamed_runs.specs.Summaries.{latest_behind}

pub record StreamState : Type 0 where
  pub machine : Machine
  pub ahead : AheadState
  pub pace : Paced
  pub limit : ℕ
  -- how many more turns may be made, and how the run ends if none is made
  pub left : ℕ
  pub end : End
  -- whether the text was read to its end
  pub at_end : Bool
  -- the records of the last piece
  pub done : List Record
  -- of all records: how many there are of each kind, how many are stale loads, and the greatest time of a write to each
  -- word
  pub kinds : Kinds
  pub stale : ℕ
  pub latest : FinMap nat_cmp ℕ

-- the steps of each core below a number
abbrev pub lanes_for : ℕ → List (ℕ × Step) → List (List Step)
lanes_for zero steps = []
lanes_for (suc n) steps = lanes_for n steps ++ steps_of n steps ∷ []

-- nothing more is to come where the text is at its end
abbrev pub MayFollow : (at_end : Bool) → List (List Step) → Type 0
MayFollow true more = (core : ℕ) → lane more core ≡ []
MayFollow false more = Unit {0}

-- The run so far, once these steps were read: it is the beginning of the run of any text that begins with them. Its
-- events lead from a machine that has just opened over zeros to this one. `more` is what follows in the text, by core:
-- it stands behind the steps that were read ahead, and all isn't done before it is.
pub record IsGoing (taken : List (ℕ × (ℕ × Step))) (s : StreamState) : Type 0 where
  pub events : List Event
  pub leads : s.machine ≡ after_all (at_start s.machine.config empty) events
  pub ended : (more : List (List Step)) → length more ≡ s.machine.config.cores → MayFollow s.at_end more →
      EndsBy true step_acts s.pace.policy (s.limit - s.left) (at_start s.machine.config empty)
      (joined (lanes_for s.machine.config.cores (unnumbered taken)) more) events s.machine
      (joined s.ahead.queues more) (end_before more s.end)
  pub within : s.left ≤ s.limit
  -- the run is over; or there is more to read or to do, and it goes on behind the turns that it used so far
  pub goes : (s.left ≡ 0) ⊎ ((((s.at_end ≡ false) × (s.end ≡ AllDone)) ⊎ (s.end ≡ TurnsUsed))
      × (s.pace ≡ paced s.pace.policy (s.limit - s.left)))
  pub idle : s.end ≡ AllDone → (core : ℕ) → lane s.ahead.queues core ≡ []
  pub few : cores_of (unnumbered taken) ≤ s.machine.config.cores
  pub met : s.ahead.met ≡ cores_of (unnumbered taken)
  pub words : s.ahead.words ≡ named s.ahead.names empty (unnumbered taken)
  pub rising : RisesByNumber s.machine.records
  pub kinds : s.kinds ≡ kinds_of s.machine.records
  pub stale : s.stale ≡ stale_count s.machine.records
  pub latest : s.latest ≡ latest_behind empty s.machine.records
  pub good : is_good s.machine.config ≡ true

-- no turn is left, or none of those that are left would change anything
abbrev pub IsOver : StreamState → Type 0
IsOver s = s.left ≡ 0

-- how many turns are left after a piece of so many that ends like this: none, if the run is over
abbrev pub turns_left : ℕ → ℕ → End → ℕ
turns_left left turns TurnsUsed = left - turns
turns_left left turns _ = 0

-- how such a run ends, once it is known whether the text has more steps
abbrev pub end_with : End → (has_more : Bool) → End
end_with AllDone has_more = if has_more then TurnsUsed else AllDone
end_with end has_more = end

-- the run of a text with these steps, and no more
pub record HasEnded (taken : List (ℕ × (ℕ × Step))) (s : StreamState) : Type 0 where
  pub events : List Event
  pub programs : List (List Step)
  pub leads : s.machine ≡ after_all (at_start s.machine.config empty) events
  pub ended : EndsBy true step_acts s.pace.policy s.limit (at_start s.machine.config empty)
      (lanes_for s.machine.config.cores (unnumbered taken)) events s.machine programs s.end
  pub few : cores_of (unnumbered taken) ≤ s.machine.config.cores
  pub met : s.ahead.met ≡ cores_of (unnumbered taken)
  pub words : s.ahead.words ≡ named s.ahead.names empty (unnumbered taken)
  pub rising : RisesByNumber s.machine.records
  pub kinds : s.kinds ≡ kinds_of s.machine.records
  pub stale : s.stale ≡ stale_count s.machine.records
  pub good : is_good s.machine.config ≡ true

-- what stays of a run, whatever it does: how the machine was set up, what the run was asked for
pub record IsSameRun (old new : StreamState) : Type 0 where
  pub config : new.machine.config ≡ old.machine.config
  pub policy : new.pace.policy ≡ old.pace.policy
  pub limit : new.limit ≡ old.limit
  pub names : new.ahead.names ≡ old.ahead.names

-- where the bytes of a text were known before: its source is at its end now, and its reader tells nothing more
abbrev pub IsAllRead : Option (List ℕ) → Option (List ℕ) → StepStream → Type 0
IsAllRead before now stream = IfSome before (λ known. AtEnd now)
    × OnlyFault None (where_known before (coming stream now))

-- how many operations the cores below a number were issued
abbrev pub issued_below : Machine → ℕ → ℕ
issued_below m zero = 0
issued_below m (suc core) = issued_below m core + length (slice_index_or m.issued core [])

-- how many of them have an open operation
abbrev pub opens_below : Machine → ℕ → ℕ
opens_below m zero = 0
opens_below m (suc core) = opens_below m core + (if is_some (open_op m core) then 1 else 0)

-- the values of words, where they are
abbrev pub values_in : Machine → FinMap nat_cmp ℕ → List (ℕ × ℕ)
values_in m words = map (λ entry. (entry.0, coherent m entry.0)) (entries words)
