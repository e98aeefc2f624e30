use Rattle.sequential_ends.proofs.KeptOrders.{led_reached}
use Rattle.sequential_ends.proofs.laws.orders_are_turns.Goals as goal

pub returns : goal.returns
returns c = led_reached
