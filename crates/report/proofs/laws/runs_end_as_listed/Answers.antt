use Rattle.std.proofs.Common.{ℕ, List, [], ◌∷◌, Option, Some, None, IfSome, subst}
use Rattle.std.specs.List.{AllByRecursion, Contains}
use Rattle.litmus_reader.specs.Litmus.{Litmus}
use Rattle.report_text.specs.declared.run_end.RunEnd.{RunEnd}
use Rattle.sequential_machine.specs.SequentialMachine.{IsOutcome}
use Rattle.worker_driver.specs.Outcomes.{HasOutcome}
use Rattle.sequential_ends.specs.Every.{values_in}
use Rattle.report.proofs.laws.runs_end_as_listed.Goals as goal

module _ (test : Litmus) (ends : List (List ℕ)) (all : (values : List ℕ) → IsOutcome test values → Contains ends values)
  where
    is_listed : (state : Option (List ℕ)) → IfSome state (IsOutcome test) → IfSome state (Contains ends)
    is_listed None has = tt
    is_listed (Some values) is = all values is

    are_listed : (runs : List RunEnd) → AllByRecursion (HasOutcome test) runs →
        AllByRecursion (λ (run : RunEnd). IfSome run.state (Contains ends)) runs
    are_listed [] have = tt
    are_listed (run ∷ runs) have = (is_listed run.state have.0, are_listed runs have.1)

pub returns : goal.returns
returns c = λ options bounds bytes text list all_done done told listed.
    let same = c.one_text_is_one_test.ensures bytes told.test listed.test told.are_runs.is_test listed.is_test in
    are_listed listed.test (values_in listed.every) listed.lists.all told.runs
    (subst (λ (test : Litmus). AllByRecursion (HasOutcome test) told.runs) same told.are_runs.asked.outcomes)
