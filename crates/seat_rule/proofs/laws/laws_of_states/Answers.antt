use Rattle.seat_rule.proofs.laws.laws_of_states.Goals as goal

pub returns : goal.returns
returns c =
    record {
      opens = c.initial_states_are_reached.ensures.reached;
      consistent = c.reached_states_are_consistent.ensures;
      found = c.messages_find_their_parts.ensures;
      cores = c.reached_parts_have_their_shape.ensures.cores;
      banks = c.reached_parts_have_their_shape.ensures.banks;
      issued = c.places_count_records.ensures.issued;
      count = c.places_count_records.ensures.count;
      in_order = λ config opening a good reached. c.records_are_in_order.ensures config opening a reached;
    }
