use Rattle.std.proofs.Common.{refl, sym, ap, ◌∙◌}
use Rattle.mailboxes.specs.SeatServing.{may_change}
use Rattle.mailboxes.proofs.CoreFacts.{all_cases, serve_moves, serve_open, serve_settled}
use Rattle.mailboxes.proofs.Reactions.{core_leaves_part, core_never}
use Rattle.mailboxes.proofs.StoredSeats.{box_stands, core_stands, core_stays}
use Rattle.mailboxes.specs.Stored.{stored_core}
use Rattle.mailboxes.specs.BoxMoves.{hold}
use Rattle.mailboxes.proofs.mailbox.Mailbox.serve_core.Goals as goal

pub serve_part-served-requires-clause-cases : goal.serve_part-served-requires-clause-cases
serve_part-served-requires-clause-cases c =
    all_cases c.args.machine.now c.args.self.now c.args.part.now c.args.issued.now.items c.requires.seat
    c.requires.part c.messages_of_seats_find_their_parts.ensures

pub serve_part-served-requires-clause-quiet : goal.serve_part-served-requires-clause-quiet
serve_part-served-requires-clause-quiet c = core_leaves_part c.waiting_cores_stay.ensures

pub serve_part-served-requires-clause-never : goal.serve_part-served-requires-clause-never
serve_part-served-requires-clause-never c = core_never

pub change_core_hold_if-requires-clause-change : goal.change_core_hold_if-requires-clause-change
change_core_hold_if-requires-clause-change c =
    serve_moves c.args.machine.now c.args.self.now c.args.part.now c.args.issued.now.items c.requires.seat
    c.requires.part c.messages_of_seats_find_their_parts.ensures c.waiting_cores_stay.ensures
    c.serve_part-served.result c.serve_part-served.new.came_in c.serve_part-served.new.part
    c.serve_part-served.ensures.effect

pub invariant_of-self-clause-tied : goal.invariant_of-self-clause-tied
invariant_of-self-clause-tied c =
    let b = c.args.self.now in
    let now = c.serve_part-served.new.came_in in
    let a = stored_core (hold b) c.serve_part-served.new.part c.args.issued.now.items now in
    box_stands b.seat c.change_core_hold_if.new.seat a b.number b.inbox.hand b.inbox.held now
    c.change_core_hold_if.ensures.changed b.tied refl refl refl

pub invariant_of-self-clause-own : goal.invariant_of-self-clause-own
invariant_of-self-clause-own c =
    (serve_settled c.args.machine.now c.args.self.now c.args.part.now c.args.issued.now.items c.requires.seat
    c.requires.part c.messages_of_seats_find_their_parts.ensures c.waiting_cores_stay.ensures
    c.serve_part-served.result c.serve_part-served.new.came_in c.serve_part-served.new.part
    c.serve_part-served.ensures.effect c.change_core_hold_if.ensures.standing).0

pub returns-clause-part : goal.returns-clause-part
returns-clause-part c =
    record {
      tied = core_stands c.args.self.now.seat c.change_core_hold_if.new.seat c.serve_part-served.new.part
          c.args.issued.now.items _ c.serve_part-served.new.came_in c.change_core_hold_if.ensures.changed
          (sym (ap (λ y. y.0.mine.records) c.change_core_hold_if.ensures.changed));
      linked = (serve_settled c.args.machine.now c.args.self.now c.args.part.now c.args.issued.now.items
          c.requires.seat c.requires.part c.messages_of_seats_find_their_parts.ensures c.waiting_cores_stay.ensures
          c.serve_part-served.result c.serve_part-served.new.came_in c.serve_part-served.new.part
          c.serve_part-served.ensures.effect c.change_core_hold_if.ensures.standing).1;
    }

pub returns-clause-open : goal.returns-clause-open
returns-clause-open c =
    serve_open c.args.machine.now c.args.self.now c.args.part.now c.args.issued.now.items c.requires.seat
    c.requires.part c.messages_of_seats_find_their_parts.ensures c.waiting_cores_stay.ensures
    c.serve_part-served.result c.serve_part-served.new.came_in c.serve_part-served.new.part
    c.serve_part-served.ensures.effect

pub change_core_hold_if-requires-clause-same : goal.change_core_hold_if-requires-clause-same
change_core_hold_if-requires-clause-same c not =
    core_stays c.args.self.now c.args.part.now c.serve_part-served.new.part c.args.issued.now.items
    c.serve_part-served.new.came_in c.requires.part (c.serve_part-served.ensures.same
    (ap (λ full. may_change full c.serve_part-served.result) (sym c.hand_is_full-was_full.ensures)
    ∙ sym c.serving_may_change-changes.ensures ∙ not))
