-- Sums over all runs.
use Rattle.std.specs.Prelude.{ℕ, ◌+◌, ◌-◌, ◌^◌, min, List, [], ◌∷◌}
use Rattle.report_text.specs.declared.run_end.RunEnd.{RunEnd}
use Rattle.report_text.specs.declared.sums.Sums.{Sums}

abbrev pub summed : (RunEnd → ℕ) → List RunEnd → ℕ
summed amount [] = 0
summed amount (run ∷ runs) = amount run + summed amount runs

-- a sum that would pass 2^128 - 1 is 2^128 - 1
abbrev pub capped : ℕ → ℕ
capped sum = min sum (2 ^ 128 - 1)

abbrev pub sums_of : List RunEnd → Sums
sums_of runs = record {
  completed = capped (summed (λ run. run.completed) runs);
  counts = record {
    renewals = capped (summed (λ run. run.counts.renewals) runs);
    upgrades = capped (summed (λ run. run.counts.upgrades) runs);
    flushes = capped (summed (λ run. run.counts.flushes) runs);
    write_backs = capped (summed (λ run. run.counts.write_backs) runs);
  };
  stale = capped (summed (λ run. run.stale) runs);
}

-- the sums after one more run
abbrev pub sums_after : Sums → RunEnd → Sums
sums_after sums run = record {
  completed = capped (sums.completed + run.completed);
  counts = record {
    renewals = capped (sums.counts.renewals + run.counts.renewals);
    upgrades = capped (sums.counts.upgrades + run.counts.upgrades);
    flushes = capped (sums.counts.flushes + run.counts.flushes);
    write_backs = capped (sums.counts.write_backs + run.counts.write_backs);
  };
  stale = capped (sums.stale + run.stale);
}
