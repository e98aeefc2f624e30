use Rattle.seat_rule.proofs.Seats.{finds, of_outbox, of_hand, of_held}
use Rattle.seat_rule.proofs.parts.messages_of_seats_find_their_parts.Goals as goal

pub returns : goal.returns
returns c =
    let laws = c.laws_of_states.ensures in
    record {
      any = λ z n id a good stands m others bag. finds laws z good n id a stands m others bag;
      outbox = λ z n id a good stands i m is. finds laws z good n id a stands m _ (of_outbox a i m is);
      hand = λ z n id a good stands m is. finds laws z good n id a stands m _ (of_hand a m is);
      held = λ z n id a good stands i m is. finds laws z good n id a stands m _ (of_held a i m is);
    }
