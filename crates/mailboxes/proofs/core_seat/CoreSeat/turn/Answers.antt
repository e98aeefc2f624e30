use Rattle.machine_table.specs.declared.event.Refusal.TheVariants.{NoMemory}
use Rattle.mailboxes.specs.CoreTurns.{CorePuts, CoreServes, CoreTakes, core_hand}
use Rattle.mailboxes.proofs.SureTurns.{turns_never}
use Rattle.mailboxes.proofs.core_seat.CoreSeat.turn.Goals as goal

pub returns-clause-memory : goal.returns-clause-memory
returns-clause-memory c =
    let m = c.args.machine.now in
    turns_never (CoreServes m) (CoreTakes m) NoMemory (λ result p q s. s.4) core_hand (CorePuts m)
    c.args.self.now c.seat_turn.result c.seat_turn.new.seat c.seat_turn.ensures.turns
