use Rattle.std.proofs.Common.{◌^◌, ◌∙◌, sym, arith}
use Rattle.network.proofs.RisingLists.{at_number-above, slice_get-at_number, number_at-get_or}
use Rattle.network.proofs.slots.slot_with_number.Goals as goal

pub returns-then-number-last-clause-absent : goal.returns-then-number-last-clause-absent
returns-then-number-last-clause-absent c =
    at_number-above c.args.number (2 ^ 64) _ c.args.slots.now c.requires (omega arith) c.if-number-last.true

pub returns-then-slots-at-clause-found : goal.returns-then-slots-at-clause-found
returns-then-slots-at-clause-found c = slice_get-at_number c.args.number 0 (2 ^ 64) _ c.args.slots.now c.requires
    (omega arith) (sym (number_at-get_or c.args.slots.now _ _ (omega arith)) ∙ c.if-slots-at.true)
