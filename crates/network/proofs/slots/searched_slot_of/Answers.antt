use Rattle.std.proofs.Common.{◌^◌, ◌∙◌, sym, arith}
use Rattle.network.proofs.RisingLists.{slice_get-at_number, number_at-get_or}
use Rattle.network.proofs.slots.searched_slot_of.Goals as goal

pub returns-then-slots-near-clause-found : goal.returns-then-slots-near-clause-found
returns-then-slots-near-clause-found c = slice_get-at_number c.args.number 0 (2 ^ 64) _ c.args.slots.now c.requires
    (omega arith) (sym (number_at-get_or c.args.slots.now _ _ (omega arith)) ∙ c.if-slots-near.true)
