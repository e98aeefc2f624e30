use Rattle.std.proofs.Common.{◌≡◌, ℕ, ◌<◌, Bool, true, false, cond, List, [], ◌∷◌, length, Option, Some, None, IfSome}
use Rattle.std.proofs.Common.{refl, sym, subst, ◌∙◌, arith}
use Rattle.std.specs.List.{AllByRecursion, filter}
use Rattle.std.proofs.lemmas.Bool.{ltb-true}
use Rattle.std.proofs.lemmas.List.Sums.{length-filter}
use Rattle.litmus_reader.specs.Litmus.{Litmus}
use Rattle.litmus_reader.specs.Seen.{seen_in}
use Rattle.litmus_reader.specs.Truth.{holds}
use Rattle.report_text.specs.Ends.{done_state, runs_held, holds_in, condition_holds}
use Rattle.programs.specs.declared.ends.End.{End}
use Rattle.programs.specs.declared.ends.End.TheVariants.{AllDone, Stalled, TurnsUsed, Exhausted, NoMemory}
use Rattle.report_text.specs.declared.run_end.RunEnd.{RunEnd}
use Rattle.sequential_machine.specs.SequentialMachine.{SequentialState, Steps, IsOutcome, sequential_opening, value_at}
use Rattle.worker_driver.specs.Outcomes.{HasOutcome}
use Rattle.report.proofs.LastStates.{truth_at_last}
use Rattle.report.proofs.laws.a_yes_shows_an_outcome.Goals as goal

module _ (test : Litmus) (seen : test.seen ≡ seen_in test.tree []) where
  abbrev Shows : Type 0
  Shows = (last : SequentialState) × Steps (sequential_opening test) last ×
      ((t : ℕ) → t < test.threads → last.left t ≡ []) ×
      (holds (value_at last) test.tree ≡ true)

  of_values : (state : Option (List ℕ)) (end : End) → IfSome state (IsOutcome test) →
      holds_in test (done_state end state) ≡ true → Shows
  of_values (Some values) AllDone is h = (is.last, is.steps, is.finished, truth_at_last test seen values is ∙ h)
  of_values None AllDone is h = absurd cc
  of_values state Stalled is h = absurd cc
  of_values state TurnsUsed is h = absurd cc
  of_values state Exhausted is h = absurd cc
  of_values state NoMemory is h = absurd cc

  first_held : (runs : List RunEnd) → AllByRecursion (HasOutcome test) runs →
      0 < length (filter (condition_holds test) runs) → Shows
  first_held [] each some = absurd (omega (arith, some))
  first_held (run ∷ runs) each some = by_test (condition_holds test run) refl (λ more. first_held runs each.1 more)
    where
      by_test : (b : Bool) → condition_holds test run ≡ b → (0 < length (filter (condition_holds test) runs) → Shows) →
          Shows
      by_test true h later = of_values run.state run.end each.0 h
      by_test false h later =
          later (subst (λ b. 0 < length (cond b (run ∷ filter (condition_holds test) runs)
          (filter (condition_holds test) runs))) h
          some)

pub returns : goal.returns
returns c = λ test runs is each yes_. first_held test is.all_seen runs each
    (subst (λ n. 0 < n) (sym (length-filter (condition_holds test) runs)) (ltb-true 0 (runs_held test runs) yes_))
