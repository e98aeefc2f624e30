-- How runs ended, and one more of them.
use Rattle.std.proofs.Common.{◌≡◌, ℕ, ◌+◌, ◌-◌, ◌^◌, ◌<◌, Bool, List, [], ◌∷◌, ◌++◌, length, take}
use Rattle.std.proofs.Common.{sym, subst, ◌∙◌, arith, cond, count_by, length-take-le}
use Rattle.std.proofs.lemmas.List.Sums.{count_by-le-length, sum_by-append}
use Rattle.litmus_reader.specs.Litmus.{Litmus}
use Rattle.programs.specs.declared.ends.End.TheVariants.{AllDone, Stalled, TurnsUsed, Exhausted, NoMemory}
use Rattle.report_text.specs.declared.run_end.RunEnd.{RunEnd}
use Rattle.report_text.specs.declared.ends.Endings.{Endings}
use Rattle.report_text.specs.Ends.{AreFew, endings_of, ends_as, condition_holds, with_run}

one : (test : RunEnd → Bool) (runs : List RunEnd) (run : RunEnd) →
    count_by test runs + cond (test run) 1 0 ≡ count_by test (runs ++ run ∷ [])
one test runs run = sym (sum_by-append (λ r. cond (test r) 1 0) runs (run ∷ []) ∙ omega arith)

pub endings_next : (test : Litmus) (runs : List RunEnd) (run : RunEnd) →
    with_run test (endings_of test runs) run ≡ endings_of test (runs ++ run ∷ [])
endings_next test runs run = λ j. record {
  all_done = one (ends_as AllDone) runs run j;
  stalled = one (ends_as Stalled) runs run j;
  turns_used = one (ends_as TurnsUsed) runs run j;
  exhausted = one (ends_as Exhausted) runs run j;
  no_memory = one (ends_as NoMemory) runs run j;
  held = one (condition_holds test) runs run j;
}

-- fewer runs are counted than there are
few : (test : RunEnd → Bool) (runs : List RunEnd) (k : ℕ) → k < length runs → length runs < 2 ^ 64 →
    count_by test (take k runs) < 2 ^ 64 - 1
few test runs k within fits =
    let counted = count_by-le-length test (take k runs) in
    let long = length-take-le k runs (omega (arith, within)) in
    omega (arith, counted, long, within, fits)

pub are_few : (test : Litmus) (runs : List RunEnd) (k : ℕ) (endings : Endings) →
    endings ≡ endings_of test (take k runs) → k < length runs → length runs < 2 ^ 64 → AreFew endings
are_few test runs k endings e within fits = subst AreFew (sym e) (
  few (ends_as AllDone) runs k within fits,
  few (ends_as Stalled) runs k within fits,
  few (ends_as TurnsUsed) runs k within fits,
  few (ends_as Exhausted) runs k within fits,
  few (ends_as NoMemory) runs k within fits,
  few (condition_holds test) runs k within fits,
)
