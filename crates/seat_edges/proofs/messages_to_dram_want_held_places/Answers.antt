use Rattle.seat_edges.proofs.BankPlaces.{two_held}
use Rattle.seat_edges.proofs.messages_to_dram_want_held_places.Goals as goal

pub returns-clause-two : goal.returns-clause-two
returns-clause-two c = two_held
