-- Runs have no end that isn't listed.
use Rattle.std.proofs.Common.{ℕ, List, [], ◌∷◌, Option, Some, None, IfSome}
use Rattle.std.specs.List.{AllByRecursion, Contains}
use Rattle.worker_driver.specs.declared.RunEnd.{RunEnd}

-- P values: they are an outcome
module _ (P : List ℕ → Type 0) (ends : List (List ℕ)) (all : (values : List ℕ) → P values → Contains ends values) where
  is_listed : (state : Option (List ℕ)) → IfSome state P → IfSome state (Contains ends)
  is_listed None has = tt
  is_listed (Some values) is = all values is

  pub are_listed : (runs : List RunEnd) → AllByRecursion (λ (run : RunEnd). IfSome run.state P) runs →
      AllByRecursion (λ (run : RunEnd). IfSome run.state (Contains ends)) runs
  are_listed [] have = tt
  are_listed (run ∷ runs) have = (is_listed run.state have.0, are_listed runs have.1)
