use Rattle.std.proofs.Common.{ap₂, ◌∙◌}
use Rattle.thread_driver.specs.Turns.{told_of}
use Rattle.thread_driver.proofs.core_turns.core_turn.Goals as goal

pub returns-clause-turn : goal.returns-clause-turn
returns-clause-turn g c = record {
  done = c.do_next_step-done.result;
  between = c.do_next_step-done.new.seat;
  moved = c.core_seat_turn-moved.result;
  step_done = c.do_next_step-done.ensures.step;
  turned = c.core_seat_turn-moved.ensures.turned;
  told_is = c.told_of_core_turn.ensures
      ∙ ap₂ (λ before after. told_of before after c.do_next_step-done.result c.core_seat_turn-moved.result)
      c.is_stopped-was_stopped.ensures c.is_stopped.ensures;
}
