use Rattle.std.proofs.Common.{◌+◌, ◌≤◌, Option, length, refl, sym, subst, vec_capacity}
use Rattle.physiological_order.specs.declared.operation.Op.{Op}
use Rattle.protocol.specs.Issued.{listed}
use Rattle.mailboxes.specs.declared.sending.SendingCore.{SendingCore}
use Rattle.mailboxes.specs.Stored.{stored_core}
use Rattle.mailboxes.proofs.CoreFacts.{evict_moves, evicted_linked, evicted_open, part_of}
use Rattle.mailboxes.proofs.StoredSeats.{box_stands, core_stands}
use Rattle.mailboxes.proofs.core_seat.CoreSeat.evict.Goals as goal

pub change_core_hold-requires-clause-change : goal.change_core_hold-requires-clause-change
change_core_hold-requires-clause-change c =
    let p = c.args.self.now in
    evict_moves c.args.machine.now p.mail p.part p.issued.items c.requires (part_of p) c.evict_and_send_back.new.part
    c.args.line c.in_ok-evict_and_send_back.ensures.done

pub invariant_of-self-2 : goal.invariant_of-self-2
invariant_of-self-2 c =
    let p = c.args.self.now in
    let part : SendingCore = c.evict_and_send_back.new.part in
    let out = c.in_ok-evict_and_send_back.ensures.done in
    let changed = c.change_core_hold.ensures.changed in (
      (
        box_stands p.mail.seat c.change_core_hold.new.seat
            (stored_core p.mail.seat.me.0.mine part p.issued.items p.mail.inbox) p.mail.number p.mail.inbox.hand
            p.mail.inbox.held p.mail.inbox changed p.mail.tied refl refl refl,
        (p.mail.own, (p.mail.incoming, (p.mail.turned, tt))),
      ),
      (
        core_stands p.mail.seat c.change_core_hold.new.seat part p.issued.items p.records.items p.mail.inbox changed
            p.tied.records,
        (
          evicted_linked c.args.machine.now p.mail p.part p.issued.items c.requires (part_of p)
              c.messages_of_seats_find_their_parts.ensures part c.args.line out c.change_core_hold.ensures.standing,
          (
            subst (λ (o : Option Op). length p.records.items + length (listed o) ≤ vec_capacity p.records)
                (sym (evicted_open p.part part c.args.line out)) p.room,
            tt,
          ),
        ),
      ),
    )
