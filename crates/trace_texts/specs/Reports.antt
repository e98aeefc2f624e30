-- The text that reports on the run of a trace.
use Rattle.std.specs.Prelude.{ℕ, Bool, true, false, List, [], ◌++◌, length, codes, count_by}
use Rattle.physiological_order.specs.declared.operation.Op.{Op}
use Rattle.physiological_order.specs.declared.operation.Op.TheVariants.{Load, Store, Swap}
use Rattle.physiological_order.specs.declared.operation.Record.{Record}
use Rattle.physiological_order.specs.declared.verdict.Verdict.{Verdict}
use Rattle.report_lines.specs.declared.layout.Layout.{Layout}
use Rattle.report_lines.specs.Layouts.{either, opening, parted}
use Rattle.report_lines.specs.Lines.{counts_text, field, value_text, word_field}
use Rattle.programs.specs.declared.ends.End.{End}
use Rattle.programs.specs.declared.ends.End.TheVariants.{AllDone, Stalled, TurnsUsed, Exhausted, NoMemory}
use Rattle.trace_texts.specs.Verdicts.{order_text}
use Rattle.trace_texts.specs.declared.reports.Kinds.{Kinds}
use Rattle.trace_texts.specs.declared.reports.TraceEnd.{TraceEnd}

abbrev pub end_name : End → List ℕ
end_name AllDone = codes "all-done"
end_name Stalled = codes "stalled"
end_name TurnsUsed = codes "limit"
end_name Exhausted = codes "exhausted"
end_name NoMemory = codes "memory"

abbrev pub is_load_op : Op → Bool
is_load_op (Load word) = true
is_load_op (Store word value) = false
is_load_op (Swap word value) = false

abbrev pub is_store : Op → Bool
is_store (Load word) = false
is_store (Store word value) = true
is_store (Swap word value) = false

abbrev pub is_swap : Op → Bool
is_swap (Load word) = false
is_swap (Store word value) = false
is_swap (Swap word value) = true

-- the cores, how many operations were issued and how many completed, and how the run ended
abbrev pub trace_end_text : Layout → (cores : ℕ) → TraceEnd → (completed : ℕ) → List ℕ
trace_end_text layout cores run completed = field layout (codes "cores") cores
    ++ field layout (codes "issued") run.issued
    ++ field layout (codes "completed") completed
    ++ word_field layout (codes "end") (end_name run.end)

abbrev pub loads_among : List Record → ℕ
loads_among records = count_by (λ r. is_load_op r.op) records

abbrev pub stores_among : List Record → ℕ
stores_among records = count_by (λ r. is_store r.op) records

abbrev pub swaps_among : List Record → ℕ
swaps_among records = count_by (λ r. is_swap r.op) records

-- how many operations completed, and how many of them are of each kind
abbrev pub kinds_of : List Record → Kinds
kinds_of records = record {
  completed = length records;
  loads = loads_among records;
  stores = stores_among records;
  swaps = swaps_among records;
}

abbrev pub kinds_text : Layout → Kinds → List ℕ
kinds_text layout done = field layout (codes "loads") done.loads ++ field layout (codes "stores") done.stores
    ++ field layout (codes "swaps") done.swaps

-- each word with its value, in order
abbrev pub words_text : Layout → List (ℕ × ℕ) → List ℕ
words_text layout values = either layout [] (codes ",\"words\":{")
    ++ parted layout (λ at v. value_text layout v.0 v.1) 0 values ++ either layout [] (codes "}")

-- the report on a run of a trace in which these operations completed, on whose records a check has this verdict, and
-- these values of the words that the trace names; what the run did, in numbers, and what closes an object may stand
-- behind it
unfoldable pub told_text : Layout → (cores : ℕ) → TraceEnd → Verdict → Kinds → List (ℕ × ℕ) → List ℕ
told_text layout cores run verdict done values = opening layout (codes "trace")
    ++ trace_end_text layout cores run done.completed ++ kinds_text layout done
    ++ counts_text layout run.counts ++ field layout (codes "stale-hits") run.stale ++ order_text layout verdict
    ++ words_text layout values

-- the same of a run that left these records
abbrev pub trace_text : Layout → (cores : ℕ) → TraceEnd → Verdict → List Record → List (ℕ × ℕ) → List ℕ
trace_text layout cores run verdict records values = told_text layout cores run verdict (kinds_of records) values
