use Rattle.std.proofs.Common.{◌+◌, ◌%◌, ◌<◌, sym, ap, refl, ◌∙◌, subst, arith}
use Rattle.std.proofs.Math.Nat.{mod-add-mod}
use Rattle.seat_rule.specs.declared.views.SetUp.{SetUp}
use Rattle.seat_rule.specs.Plays.{SeatState}
use Rattle.mailboxes.specs.Places.{EndsAt, incoming_count}
use Rattle.mailboxes.proofs.EmptySlots.{first_full, link_slot, one_more_empty, place_ends}
use Rattle.mailboxes.proofs.taking.find_full_in_link.Goals as goal

pub look_at_incoming_slot-requires-clause-slot : goal.look_at_incoming_slot-requires-clause-slot
look_at_incoming_slot-requires-clause-slot c =
    let m = c.args.machine.now in
    let z = m.set_up in
    let k = c.loop-k.k in
    let count = incoming_count z.config.cores z.config.banks c.args.number in
    let near = subst (λ n. c.args.place < n) c.requires.slots.count c.requires.place.0 in
    let at = link_slot z.config.cores z.config.banks c.args.number c.args.place k c.args.looks c.args.slot near
    c.requires.place.1 c.loop-k-test.true c.requires.slot in
    let here = place_ends z c.args.number c.args.place k ((c.args.place + k) % count) (c.args.slot + k)
    c.requires.number.0 (omega (arith, near)) refl at.1 in
    let ends = subst (λ (y : SetUp). EndsAt y (c.args.slot + k) c.args.number) (sym m.keyed) here.1 in
    (ends.0, ends.1 ∙ sym c.requires.number.1 ∙ sym (ap (λ (s : SeatState). s.0.number) c.loop-k.invariant.2))

pub cyclic_place_after-after-requires : goal.cyclic_place_after-after-requires
cyclic_place_after-after-requires c =
    let z = c.args.machine.now.set_up in
    let slots = c.requires.slots in
    let at = link_slot z.config.cores z.config.banks c.args.number c.args.place c.loop-k.k c.args.looks c.args.slot
    (subst (λ n. c.args.place < n) slots.count c.requires.place.0) c.requires.place.1 c.loop-k-test.true
    c.requires.slot in
    (subst (λ n. c.args.place + c.loop-k.k < n) (sym slots.count) at.0, slots.few)

pub returns-then-look_at_incoming_slot-ne0-clause-found : goal.returns-then-look_at_incoming_slot-ne0-clause-found
returns-then-look_at_incoming_slot-ne0-clause-found c =
    let m = c.args.machine.now in
    let z = m.set_up in
    let k = c.loop-k.k in
    let count = c.requires.slots.count in
    let at = link_slot z.config.cores z.config.banks c.args.number c.args.place k c.args.looks c.args.slot
    (subst (λ n. c.args.place < n) count c.requires.place.0) c.requires.place.1 c.loop-k-test.true
    c.requires.slot in
    first_full z c.args.number c.args.place k (c.args.slot + k) c.look_at_incoming_slot.result c.args.seat.now.me
    c.loop-k.seat.me
    c.look_at_incoming_slot.new.seat.me c.requires.number.1 c.loop-k.invariant.2 at.1 m.table.shared.key m.keyed
    c.look_at_incoming_slot.ensures.saw c.cyclic_place_after-after.result c.args.looks
    (c.cyclic_place_after-after.ensures ∙ (λ j. (c.args.place + k + 1) % count j)
    ∙ sym (mod-add-mod (c.args.place + k) (incoming_count z.config.cores z.config.banks c.args.number) 1))
    c.loop-k-test.true c.if-look_at_incoming_slot-ne0.true

pub loop-k-preserved : goal.loop-k-preserved
loop-k-preserved c =
    let m = c.args.machine.now in
    let z = m.set_up in
    let k = c.loop-k.k in
    let i = c.loop-k.invariant in
    let near = subst (λ n. c.args.place < n) c.requires.slots.count c.requires.place.0 in
    let at = link_slot z.config.cores z.config.banks c.args.number c.args.place k c.args.looks c.args.slot near
    c.requires.place.1 c.loop-k-test.true c.requires.slot in (
      c.look_at_incoming_slot.ensures.table.0 ∙ i.0,
      c.look_at_incoming_slot.ensures.table.1 ∙ i.1,
      one_more_empty z c.args.number c.args.place k (c.args.slot + k) c.look_at_incoming_slot.result c.args.seat.now.me
          c.loop-k.seat.me c.look_at_incoming_slot.new.seat.me c.requires.number.1 i.2 at.1 m.table.shared.key m.keyed
          c.look_at_incoming_slot.ensures.saw c.if-look_at_incoming_slot-ne0.false,
    )
