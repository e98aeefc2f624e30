use Rattle.std.proofs.Common.{ℕ, List, get_or, ap, ◌∙◌}
use Rattle.tardis_c.proofs.CoreCounts.{told}
use Rattle.tardis_c.proofs.lacks.find_first_lack.Goals as goal

pub returns : goal.returns
returns c =
    told c.args.operations.now c.args.records.now c.deref.result.now c.deref-2.result.now c.first_differing_core.result
    (λ core. ap (λ (counts : List ℕ). get_or counts core 0) c.deref.ensures.value ∙ c.in_ok-issued.ensures core)
    (λ core. ap (λ (counts : List ℕ). get_or counts core 0) c.deref-2.ensures.value ∙ c.in_ok-done.ensures core)
    c.first_differing_core.ensures
