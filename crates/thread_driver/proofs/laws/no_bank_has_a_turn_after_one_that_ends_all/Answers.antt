use Rattle.std.proofs.Common.{ap, ⊎_elim}
use Rattle.std.proofs.lemmas.Bool.{or_right}
use Rattle.std.specs.Prelude.{◌||◌}
use Rattle.thread_driver.proofs.Passes.{none_given}
use Rattle.thread_driver.proofs.laws.no_bank_has_a_turn_after_one_that_ends_all.Goals as goal

pub returns : goal.returns
returns g c m fair cores cores' banks banks' programs programs' told pass ended =
    none_given pass.of_banks (pass.no_banks (⊎_elim (λ lacks. ap (λ b. b || pass.core_told.is_exhausted) lacks)
    (λ stopped. or_right pass.core_told.no_memory pass.core_told.is_exhausted stopped) ended))
