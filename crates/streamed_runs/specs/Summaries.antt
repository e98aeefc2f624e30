-- What is kept of records that are gone: numbers, and the greatest time of a write to each word.
use Rattle.std.specs.Prelude.{ℕ, ◌+◌, ◌-◌, ◌^◌, min, Bool, true, List, [], ◌∷◌, if◌then◌else◌}
use Rattle.std.specs.Ordering.{nat_cmp}
use Rattle.std.specs.FinMap.{FinMap, empty}
use Rattle.physiological_order.specs.declared.operation.Op.{Op}
use Rattle.physiological_order.specs.declared.operation.Record.{Record}
use Rattle.physiological_order.specs.LatestWrites.{latest_after, stale_by}
use Rattle.physiological_order.specs.StaleHits.{stale_count}
use Rattle.trace_texts.specs.declared.reports.Kinds.{Kinds}
use Rattle.trace_texts.specs.Reports.{is_load_op, is_store, is_swap, kinds_of}
use Rattle.streamed_runs.specs.declared.summary.Summary.{Summary}

-- the latest times after records, one after the other
abbrev pub latest_behind : FinMap nat_cmp ℕ → List Record → FinMap nat_cmp ℕ
latest_behind latest [] = latest
latest_behind latest (r ∷ rs) = latest_behind (latest_after latest r.op r.ts) rs

-- all of it, of the records of a run
abbrev pub summary_of : List Record → Summary
summary_of records = record {
  kinds = kinds_of records;
  stale = stale_count records;
  latest = latest_behind empty records;
}

-- one more, if this is so: a number stays at 2^64 - 1 once it is there
abbrev pub more_if : Bool → ℕ → ℕ
more_if is n = if is then min (n + 1) (2 ^ 64 - 1) else n

abbrev pub with_kind : Kinds → Op → Kinds
with_kind kinds op = record {
  completed = more_if true kinds.completed;
  loads = more_if (is_load_op op) kinds.loads;
  stores = more_if (is_store op) kinds.stores;
  swaps = more_if (is_swap op) kinds.swaps;
}

-- with one record more, and with more of them
abbrev pub counted : Summary → Record → Summary
counted s r = record {
  kinds = with_kind s.kinds r.op;
  stale = more_if (stale_by s.latest r.op r.ts) s.stale;
  latest = latest_after s.latest r.op r.ts;
}

abbrev pub all_counted : Summary → List Record → Summary
all_counted s [] = s
all_counted s (r ∷ rs) = all_counted (counted s r) rs
