use Rattle.std.proofs.Common.{refl}
use Rattle.mailboxes.specs.BoxMoves.{hold}
use Rattle.mailboxes.specs.Stored.{stored_bank}
use Rattle.mailboxes.proofs.BankFacts.{evict_moves, evict_settled}
use Rattle.mailboxes.proofs.StoredSeats.{bank_stands, box_stands}
use Rattle.mailboxes.proofs.mailbox.Mailbox.evict_bank.Goals as goal

pub change_bank_hold-requires-clause-change : goal.change_bank_hold-requires-clause-change
change_bank_hold-requires-clause-change c =
    let e = c.evict_line-eviction.ensures in
    evict_moves c.args.machine.now c.args.self.now c.args.part.now c.requires.seat c.requires.part c.args.line e.0
    c.evict_line-eviction.new.part c.evict_line-eviction.new.came_in e.1 e.3 e.4

pub invariant_of-self-clause-tied : goal.invariant_of-self-clause-tied
invariant_of-self-clause-tied c =
    let b = c.args.self.now in
    let now = c.evict_line-eviction.new.came_in in
    box_stands b.seat c.change_bank_hold.new.seat (stored_bank (hold b) c.evict_line-eviction.new.part now) b.number
    b.inbox.hand b.inbox.held now c.change_bank_hold.ensures.changed b.tied refl refl refl

pub invariant_of-self-clause-own : goal.invariant_of-self-clause-own
invariant_of-self-clause-own c =
    let e = c.evict_line-eviction.ensures in
    (evict_settled c.args.machine.now c.args.self.now c.args.part.now c.requires.seat c.requires.part
    c.messages_of_seats_find_their_parts.ensures c.parts_of_seats_have_their_shape.ensures.bank c.args.line e.0
    c.evict_line-eviction.new.part c.evict_line-eviction.new.came_in e.1 e.3 e.4 c.change_bank_hold.ensures.standing).0

pub returns-clause-part : goal.returns-clause-part
returns-clause-part c =
    let e = c.evict_line-eviction.ensures in
    record {
      tied = bank_stands c.args.self.now.seat c.change_bank_hold.new.seat c.evict_line-eviction.new.part
          c.evict_line-eviction.new.came_in c.change_bank_hold.ensures.changed;
      linked = (evict_settled c.args.machine.now c.args.self.now c.args.part.now c.requires.seat c.requires.part
          c.messages_of_seats_find_their_parts.ensures c.parts_of_seats_have_their_shape.ensures.bank c.args.line e.0
          c.evict_line-eviction.new.part c.evict_line-eviction.new.came_in e.1 e.3 e.4
          c.change_bank_hold.ensures.standing).1;
    }
