-- A machine that opened on zeros has a legal history of zeros.
use Rattle.std.proofs.Common.{◌≡◌, ℕ, List, subst}
use Rattle.std.specs.FinMap.{FinMap, empty}
use Rattle.std.specs.Ordering.{nat_cmp}
use Rattle.physiological_order.specs.declared.operation.Op.{Op}
use Rattle.physiological_order.specs.declared.operation.Record.{Record}
use Rattle.physiological_order.specs.Order.{flat, Legal}

pub opened_on_zeros : (opening : FinMap nat_cmp ℕ) (issued : ℕ → List Op) (told records : List Record) →
    opening ≡ empty → told ≡ records → Legal (flat opening) issued told → Legal (flat empty) issued records
opened_on_zeros opening issued told records zeros same legal =
    subst (λ (rs : List Record). Legal (flat empty) issued rs) same
    (subst (λ (o : FinMap nat_cmp ℕ). Legal (flat o) issued told) zeros legal)
