use Rattle.std.proofs.Common.{ℕ, List, IfOk, ap, subst, ◌∙◌}
use Rattle.physiological_order.specs.declared.operation.Op.{Op}
use Rattle.physiological_order.specs.Faults.{IsVerdict, IssuedLists, issued_by}
use Rattle.physiological_order.specs.Order.{flat}
use Rattle.tardis_c.proofs.arrays.verdict_over_opening.Goals as goal

pub returns : goal.returns
returns c =
    subst (λ (issued : ℕ → List Op). IfOk c.check.result
    (IsVerdict (flat c.args.opening.now) issued c.args.records.now))
    (λ i core. (ap (λ (ls : IssuedLists). issued_by ls core) c.deref.ensures.value ∙ c.in_ok-issued.ensures core) i)
    c.check.ensures.verdict
