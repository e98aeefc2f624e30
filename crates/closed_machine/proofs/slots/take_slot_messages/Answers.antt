use Rattle.std.proofs.Common.{ℕ, ◌<◌, List, Option, sym}
use Rattle.std.proofs.Common.{ap, ◌∙◌, arith}
use Rattle.network.specs.declared.message.Message.{Message}
use Rattle.std.specs.Mem.Slots.{slots_counts, slots_items, slots_len}
use lib.ListN.{get_elem?}
use Rattle.closed_machine.proofs.EmptiedSlots.{still_filled, emptied, one_more_taken}
use Rattle.closed_machine.proofs.slots.take_slot_messages.Goals as goal

pub loop-i-preserved : goal.loop-i-preserved
loop-i-preserved c =
    let i = c.loop-i.invariant in
    let t = c.take.ensures in
    let p = c.push_reserved.ensures in
    let n : ℕ = c.loop-i.i in
    let counts = slots_counts c.loop-i.closed.slots in
    let below : n < slots_len c.loop-i.closed.slots = omega arith in
    let xs : List (Option Message) = slots_items c.args.closed.slots in (
      still_filled _ _ n (slots_len c.loop-i.closed.slots) _ t.others.1 t.others.2 i.0,
      emptied _ _ n (omega arith) t.others.1 i.1,
      t.others.0 ∙ i.2,
      t.others.2 ∙ i.3,
      omega arith,
      one_more_taken xs n c.take.result c.loop-i.slots.items c.push_reserved.new.self.items
          (sym (ap (λ ys. get_elem? ys n) i.2) ∙ t.value) i.5 p.items,
    )
