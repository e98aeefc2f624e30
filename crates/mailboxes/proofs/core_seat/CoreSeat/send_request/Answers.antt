use Rattle.std.proofs.Common.{◌+◌, ◌≤◌, length, refl, sym, subst, vec_capacity}
use Rattle.protocol.specs.Issued.{listed}
use Rattle.core_pts.specs.CoreTable.{CoreState}
use Rattle.mailboxes.specs.declared.sending.SendingCore.{SendingCore}
use Rattle.mailboxes.specs.Stored.{stored_core}
use Rattle.mailboxes.proofs.CoreFacts.{ask_moves, asked_linked, part_of}
use Rattle.mailboxes.proofs.StoredSeats.{box_stands, core_stands}
use Rattle.mailboxes.proofs.core_seat.CoreSeat.send_request.Goals as goal

pub change_core_hold-requires-clause-change : goal.change_core_hold-requires-clause-change
change_core_hold-requires-clause-change c =
    let p = c.args.self.now in
    ask_moves c.args.machine.now p.mail p.part p.issued.items c.requires.seat (part_of p)
    (record { core = c.requested.new.self; outbox = c.send.new.self }) c.args.request c.requires.asks
    c.requested.ensures c.send.ensures

pub invariant_of-self-2 : goal.invariant_of-self-2
invariant_of-self-2 c =
    let p = c.args.self.now in
    let part : SendingCore = record { core = c.requested.new.self; outbox = c.send.new.self } in
    let changed = c.change_core_hold.ensures.changed in (
      (
        box_stands p.mail.seat c.change_core_hold.new.seat
            (stored_core p.mail.seat.me.0.mine part p.issued.items p.mail.inbox) p.mail.number p.mail.inbox.hand
            p.mail.inbox.held p.mail.inbox changed p.mail.tied refl refl refl,
        (p.mail.own, (p.mail.incoming, (p.mail.turned, tt))),
      ),
      (
        core_stands p.mail.seat c.change_core_hold.new.seat part p.issued.items p.records.items p.mail.inbox changed
            p.tied.records,
        (
          asked_linked c.args.machine.now p.mail p.part p.issued.items c.requires.seat (part_of p)
              c.messages_of_seats_find_their_parts.ensures part c.args.request c.requires.asks c.send.ensures
              c.change_core_hold.ensures.standing,
          (
            subst
                (λ (k : CoreState). length p.records.items + length (listed k.open_op) ≤ vec_capacity p.records)
                (sym c.requested.ensures) p.room,
            tt,
          ),
        ),
      ),
    )
