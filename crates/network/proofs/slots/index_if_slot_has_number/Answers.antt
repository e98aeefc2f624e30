use Rattle.std.proofs.Common.{◌^◌, ◌∙◌, sym, arith}
use Rattle.network.proofs.RisingLists.{slice_get-at_number, number_at-get_or}
use Rattle.network.proofs.slots.index_if_slot_has_number.Goals as goal

pub returns : goal.returns
returns c = slice_get-at_number c.args.number 0 (2 ^ 64) c.args.at c.args.slots.now c.requires (omega arith)
    (sym (number_at-get_or c.args.slots.now c.args.at _ (omega arith)) ∙ c.if-slots-at.false)
