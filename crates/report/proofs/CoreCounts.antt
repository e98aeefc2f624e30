-- There is a program for each core.
use Rattle.std.proofs.Common.{◌≡◌, ℕ, zero, suc, ◌+◌, List, [], ◌∷◌, length, length-append, refl, ap, ◌∙◌, arith}
use Rattle.programs.specs.declared.steps.Step.{Step}
use Rattle.trace_reader.specs.Steps.{lane}
use Rattle.report.specs.Runs.{programs_below}

pub programs_count : (lanes : List (List Step)) (n : ℕ) → length (programs_below lanes n) ≡ n
programs_count lanes zero = refl
programs_count lanes (suc n) =
    let more : n + 1 ≡ suc n = omega arith in
    length-append (programs_below lanes n) (lane lanes n ∷ []) ∙ ap (λ k. k + 1) (programs_count lanes n) ∙ more
