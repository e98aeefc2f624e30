use Rattle.std.proofs.Common.{ap₂, subst, ◌∙◌}
use Rattle.thread_driver.specs.Turns.{RoomMadeIf, told_of_turn}
use Rattle.thread_driver.proofs.BankTurns.{had}
use Rattle.thread_driver.proofs.bank_turns.any_bank_turn.Goals as goal

pub returns-clause-turn : goal.returns-clause-turn
returns-clause-turn c =
    had c.args.fair c.args.machine.now c.args.seat.now c.make_room.new.seat c.turn-moved.new.self c.make_room-2.new.seat
    c.turn-moved.result c.told_of_turn.result c.make_room.ensures.made c.turn-moved.ensures.turns
    (subst (λ b. RoomMadeIf b c.turn-moved.new.self c.make_room-2.new.seat) c.room_is_due.ensures
    c.make_room-2.ensures.made) (c.told_of_turn.ensures
    ∙ ap₂ (λ before after. told_of_turn before after c.turn-moved.result) c.is_stopped-was_stopped.ensures
    c.is_stopped.ensures)
