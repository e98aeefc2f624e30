use Rattle.std.proofs.Common.{refl, sym, ap, ◌∙◌}
use Rattle.mailboxes.specs.BoxMoves.{hold}
use Rattle.mailboxes.specs.SeatServing.{may_change}
use Rattle.mailboxes.specs.Stored.{stored_bank}
use Rattle.mailboxes.proofs.BankFacts.{all_cases, serve_moves, serve_settled}
use Rattle.mailboxes.proofs.Reactions.{bank_leaves_part, bank_never}
use Rattle.mailboxes.proofs.StoredSeats.{bank_stands, bank_stays, box_stands}
use Rattle.mailboxes.proofs.mailbox.Mailbox.serve_bank.Goals as goal

pub serve_part-served-requires-clause-cases : goal.serve_part-served-requires-clause-cases
serve_part-served-requires-clause-cases c =
    all_cases c.args.machine.now c.args.self.now c.args.part.now c.requires.seat c.requires.part
    c.messages_of_seats_find_their_parts.ensures c.parts_of_seats_have_their_shape.ensures.bank

pub serve_part-served-requires-clause-quiet : goal.serve_part-served-requires-clause-quiet
serve_part-served-requires-clause-quiet c = bank_leaves_part c.waiting_banks_stay.ensures

pub serve_part-served-requires-clause-never : goal.serve_part-served-requires-clause-never
serve_part-served-requires-clause-never c = bank_never

pub change_bank_hold_if-requires-clause-change : goal.change_bank_hold_if-requires-clause-change
change_bank_hold_if-requires-clause-change c =
    serve_moves c.args.machine.now c.args.self.now c.args.part.now c.requires.seat c.requires.part
    c.messages_of_seats_find_their_parts.ensures c.parts_of_seats_have_their_shape.ensures.bank
    c.waiting_banks_stay.ensures c.serve_part-served.result c.serve_part-served.new.came_in
    c.serve_part-served.new.part c.serve_part-served.ensures.effect

pub invariant_of-self-clause-tied : goal.invariant_of-self-clause-tied
invariant_of-self-clause-tied c =
    let b = c.args.self.now in
    let now = c.serve_part-served.new.came_in in
    box_stands b.seat c.change_bank_hold_if.new.seat (stored_bank (hold b) c.serve_part-served.new.part now) b.number
    b.inbox.hand b.inbox.held now c.change_bank_hold_if.ensures.changed b.tied refl refl refl

pub invariant_of-self-clause-own : goal.invariant_of-self-clause-own
invariant_of-self-clause-own c =
    (serve_settled c.args.machine.now c.args.self.now c.args.part.now c.requires.seat c.requires.part
    c.messages_of_seats_find_their_parts.ensures c.parts_of_seats_have_their_shape.ensures.bank
    c.waiting_banks_stay.ensures c.serve_part-served.result c.serve_part-served.new.came_in
    c.serve_part-served.new.part c.serve_part-served.ensures.effect c.change_bank_hold_if.ensures.standing).0

pub returns-clause-part : goal.returns-clause-part
returns-clause-part c =
    record {
      tied = bank_stands c.args.self.now.seat c.change_bank_hold_if.new.seat c.serve_part-served.new.part
          c.serve_part-served.new.came_in c.change_bank_hold_if.ensures.changed;
      linked = (serve_settled c.args.machine.now c.args.self.now c.args.part.now c.requires.seat c.requires.part
          c.messages_of_seats_find_their_parts.ensures c.parts_of_seats_have_their_shape.ensures.bank
          c.waiting_banks_stay.ensures c.serve_part-served.result c.serve_part-served.new.came_in
          c.serve_part-served.new.part c.serve_part-served.ensures.effect c.change_bank_hold_if.ensures.standing).1;
    }

pub change_bank_hold_if-requires-clause-same : goal.change_bank_hold_if-requires-clause-same
change_bank_hold_if-requires-clause-same c not =
    bank_stays c.args.self.now c.args.part.now c.serve_part-served.new.part c.serve_part-served.new.came_in
    c.requires.part (c.serve_part-served.ensures.same
    (ap (λ full. may_change full c.serve_part-served.result) (sym c.hand_is_full-was_full.ensures)
    ∙ sym c.serving_may_change-changes.ensures ∙ not))
