use Rattle.thread_driver.proofs.NewSeats.{new_banks, new_cores}
use Rattle.thread_driver.proofs.laws.new_seats_can_be_driven.Goals as goal

pub returns-clause-cores : goal.returns-clause-cores
returns-clause-cores c = λ m ps. new_cores m ps

pub returns-clause-banks : goal.returns-clause-banks
returns-clause-banks c = λ m ps. new_banks m ps
