-- Sums over one more run.
use Rattle.std.proofs.Common.{◌≡◌, ℕ, ◌+◌, List, [], ◌∷◌, ◌++◌, sym, ap, ◌∙◌, arith}
use Rattle.report_text.specs.declared.run_end.RunEnd.{RunEnd}
use Rattle.report_text.specs.Sums.{capped, sums_after, summed, sums_of}

summed-next : (amount : RunEnd → ℕ) (runs : List RunEnd) (run : RunEnd) → summed amount (runs ++ run ∷ []) ≡ summed
    amount runs + amount run
summed-next amount [] run = omega arith
summed-next amount (r ∷ runs) run = let next =
    summed-next amount runs run in ap (λ (n : ℕ). amount r + n) next ∙ omega arith

capped-next : (a b : ℕ) → capped (capped a + b) ≡ capped (a + b)
capped-next a b = omega arith

one : (amount : RunEnd → ℕ) (runs : List RunEnd) (run : RunEnd) → capped (capped (summed amount runs) + amount run) ≡
    capped (summed amount (runs ++ run ∷ []))
one amount runs run = capped-next (summed amount runs) (amount run) ∙ ap capped (sym (summed-next amount runs run))

pub sums_next : (runs : List RunEnd) (run : RunEnd) → sums_after (sums_of runs) run ≡ sums_of (runs ++ run ∷ [])
sums_next runs run = λ j. record {
  completed = one (λ r. r.completed) runs run j;
  counts = record {
    renewals = one (λ r. r.counts.renewals) runs run j;
    upgrades = one (λ r. r.counts.upgrades) runs run j;
    flushes = one (λ r. r.counts.flushes) runs run j;
    write_backs = one (λ r. r.counts.write_backs) runs run j;
  };
  stale = one (λ r. r.stale) runs run j;
}
