use Rattle.std.proofs.Common.{sym, subst, ◌∙◌}
use Rattle.physiological_order.specs.Order.{flat}
use Rattle.closed_machine.specs.LastWrites.{IsLast}
use Rattle.closed_machine.proofs.LeftValues.{nothing_left, value_is_left}
use Rattle.closed_machine.proofs.values.value_after_records.Goals as goal

pub returns-in-None : goal.returns-in-None
returns-in-None c =
    λ arranged is.
    c.get.ensures
    ∙ sym (nothing_left (flat c.args.opening.now) c.args.addr c.args.records.now arranged
    (subst (IsLast c.args.addr c.args.records.now) c.in-None.is c.last_write.ensures) is)

pub returns-in-Some : goal.returns-in-Some
returns-in-Some c =
    λ arranged is.
    sym (value_is_left (flat c.args.opening.now) c.args.addr c.in-Some.write c.args.records.now arranged
    (subst (IsLast c.args.addr c.args.records.now) c.in-Some.is c.last_write.ensures) is)
