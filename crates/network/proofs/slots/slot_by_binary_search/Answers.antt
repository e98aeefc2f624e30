use Rattle.std.proofs.Common.{◌^◌, ◌∙◌, sym, arith}
use Rattle.network.proofs.RisingLists.{at_number-absent, slice_get-at_number, number_at-get_or}
use Rattle.network.proofs.slots.slot_by_binary_search.Goals as goal

pub returns-clause-found : goal.returns-clause-found
returns-clause-found c = slice_get-at_number c.args.number 0 (2 ^ 64) c.first_slot_from_number-at.result
    c.args.slots.now
    c.requires (omega arith) (sym (number_at-get_or c.args.slots.now c.first_slot_from_number-at.result _
    (omega arith)) ∙ c.if-slots-at.false)

pub returns-then-at-slots-clause-absent : goal.returns-then-at-slots-clause-absent
returns-then-at-slots-clause-absent c = at_number-absent c.args.number (2 ^ 64) c.first_slot_from_number-at.result
    c.args.slots.now c.requires c.first_slot_from_number-at.ensures.before c.first_slot_from_number-at.ensures.after
    (λ h. absurd (omega arith))

pub returns-then-slots-at-clause-absent : goal.returns-then-slots-at-clause-absent
returns-then-slots-at-clause-absent c = at_number-absent c.args.number (2 ^ 64) c.first_slot_from_number-at.result
    c.args.slots.now c.requires c.first_slot_from_number-at.ensures.before c.first_slot_from_number-at.ensures.after
    (λ within same. c.if-slots-at.true (number_at-get_or c.args.slots.now c.first_slot_from_number-at.result
    _ within ∙ same))
