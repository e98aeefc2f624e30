-- What a run of a trace is, and the texts that report it.
use Rattle.std.specs.Prelude.{◌≡◌, ℕ, zero, suc, Bool, true, false, List, [], ◌∷◌, ◌++◌, map}
use Rattle.std.specs.Prelude.{Option, Some, None, option_map, slice_index_or}
use Rattle.std.specs.Borrow.{Bor}
use Rattle.std.specs.Ordering.{nat_cmp}
use Rattle.std.specs.FinMap.{FinMap, empty}
use Rattle.machine_table.specs.declared.config.Config.{Config}
use Rattle.machine_table.specs.declared.event.Event.{Event}
use Rattle.machine_table.specs.Machine.{Machine}
use Rattle.machine_table.specs.Opening.{at_start}
use Rattle.machine_theorem.specs.Coherence.{coherent}
use Rattle.physiological_order.specs.declared.operation.Record.{Record}
use Rattle.physiological_order.specs.declared.verdict.Verdict.TheVariants.{Legal as LegalVerdict}
use Rattle.physiological_order.specs.Order.{flat, Legal, Arrangement, replay_end}
use Rattle.physiological_order.specs.StaleHits.{RisesByNumber, stale_count}
use Rattle.trace_texts.specs.Records.{AreComplete, records_text}
use Rattle.schedules.specs.declared.policy.Policy.{Policy}
pub use Rattle.schedules.specs.LongerLists.{step_acts}
use Rattle.schedules.specs.Policies.{EndsBy}
use Rattle.schedules.specs.Watches.{Watches, watched}
use Rattle.worker_driver.specs.Orders.{LeadsTo}
use Rattle.programs.specs.declared.ends.End.{End}
use Rattle.programs.specs.declared.ends.End.TheVariants.{AllDone, Stalled, TurnsUsed, Exhausted, NoMemory}
use Rattle.programs.specs.declared.steps.Step.{Step}
use Rattle.streamed_runs.specs.StreamStates.{issued_below, values_in}
use Rattle.trace_reader.specs.Steps.{lane, ops_of, trace_cores, trace_ops, with_words}
use Rattle.trace_texts.specs.declared.reports.TraceEnd.{TraceEnd}
use Rattle.event_counts.specs.Counting.{Counter, CounterState}
use Rattle.report_lines.specs.declared.layout.Layout.{Layout}
use Rattle.report_lines.specs.Layouts.{closing}
use Rattle.trace_texts.specs.CountLines.{event_counts_text}
use Rattle.trace_texts.specs.Reports.{trace_text}
use Rattle.worker_driver.specs.declared.set_up.Driver.{Driver}
use Rattle.worker_driver.specs.declared.set_up.Driver.TheVariants.{ByPolicy, ByThreads}

-- the programs of the cores below a number
abbrev pub programs_below : List (List Step) → ℕ → List (List Step)
programs_below lanes zero = []
programs_below lanes (suc core) = programs_below lanes core ++ lane lanes core ∷ []

-- A run leads from a machine with this set-up over zeros, and these programs, to a machine, other programs and an end.
-- If it is by a policy and is watched so that this asks for memory, memory may be refused before any of its events.
abbrev pub LeadsFromZeros : (asks : Bool) → Driver → ℕ → Config → List (List Step) → Machine → List (List Step) → End →
    Type 0
LeadsFromZeros asks (ByPolicy policy) limit config before m after end =
    (events : List Event) × EndsBy asks step_acts policy limit (at_start config empty) before events m after end
LeadsFromZeros asks (ByThreads fair) limit config before m after end =
    LeadsTo step_acts (ByThreads fair) limit config empty before m after end

-- A run of a trace over a memory of zeros, by a policy or by threads. A core that the trace hasn't has no steps. The
-- records are a legal history of what the cores were issued, and so of the operations of the trace. They are in rising
-- order of number, and a text of records can write them. The words have the values that the records leave, one after
-- the other in the order of their times.
pub record IsTraceRun (asks : Bool) (driver : Driver) (limit : ℕ) (config : Config) (lanes : List (List Step))
    (end : End) (machine : Machine) : Type 0 where
  pub programs : List (List Step)
  pub led : LeadsFromZeros asks driver limit config (programs_below lanes config.cores) machine programs end
  pub legal : Legal (flat empty) (λ core. slice_index_or machine.issued core []) machine.records
  pub legal_in_trace : Legal (flat empty) (trace_ops lanes) machine.records
  pub rising : RisesByNumber machine.records
  pub complete : AreComplete machine.records
  pub left : (arranged : List Record) → Arrangement machine.records arranged → (word : ℕ) →
      coherent machine word ≡ replay_end (flat empty) (map (λ r. r.op) arranged) word

-- By the policy the events of such a run lead from the machine, as it opens, to this one, and they are what a watcher
-- has seen after it.
pub record IsWatched {W : Type 0} (watches : Watches W) (before : watches.Seen) (policy : Policy) (limit : ℕ)
    (config : Config) (lanes : List (List Step)) (end : End) (machine : Machine) (after : watches.Seen) : Type 0 where
  pub events : List Event
  pub programs : List (List Step)
  pub ended : EndsBy watches.asks step_acts policy limit (at_start config empty) (programs_below lanes config.cores)
      events machine programs end
  pub seen : after ≡ watched watches before (at_start config empty) events

-- the words that the operations of the cores below a number name, done or not
abbrev pub words_below : List (List Step) → ℕ → FinMap nat_cmp ℕ
words_below lanes zero = empty
words_below lanes (suc core) = with_words (words_below lanes core) (ops_of (lane lanes core))

-- what the report says of a run, apart from its records and its words
abbrev pub trace_end_of : List (List Step) → End → Machine → TraceEnd
trace_end_of lanes end m = record {
  issued = issued_below m (trace_cores lanes);
  end = end;
  counts = m.mail.counts;
  stale = stale_count m.records;
}

-- what a counter in memory has seen
abbrev pub seen_by : Option (Bor CounterState) → Option Counter
seen_by counter = option_map (λ k. k.now.seen) counter

-- what a counter has, if there is one: a row for each so many operations, and the counts at the end
abbrev pub counter_text : Layout → Option Counter → List ℕ
counter_text layout None = []
counter_text layout (Some counter) = event_counts_text layout counter.every counter.rows counter.counts

-- the report without that, and without what closes it; the records are a legal history of the trace's operations
-- (`legal_in_trace`), and so a check's verdict on them is Legal
abbrev pub bare_report : Layout → List (List Step) → End → Machine → List ℕ
bare_report layout lanes end m =
    trace_text layout (trace_cores lanes) (trace_end_of lanes end m) LegalVerdict m.records
    (values_in m (words_below lanes (trace_cores lanes)))

-- the report, with what a counter has behind it
abbrev pub whole_report : Layout → List (List Step) → End → Machine → Option Counter → List ℕ
whole_report layout lanes end m counter =
    bare_report layout lanes end m ++ counter_text layout counter ++ closing layout

-- the text of the records alone, in lines, or the report
abbrev pub run_text : (records : Bool) → Layout → List (List Step) → End → Machine → Option Counter → List ℕ
run_text true layout lanes end m counter = records_text m.records
run_text false layout lanes end m counter = whole_report layout lanes end m counter

abbrev pub is_all_done : End → Bool
is_all_done AllDone = true
is_all_done Stalled = false
is_all_done TurnsUsed = false
is_all_done Exhausted = false
is_all_done NoMemory = false
