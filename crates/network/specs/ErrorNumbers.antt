-- The numbers of the reasons why no message was sent, and why a part changed nothing.
use Rattle.std.specs.Prelude.{ℕ}
use Rattle.network.specs.declared.in_flight.SendError.{SendError}
use Rattle.network.specs.declared.in_flight.SendError.TheVariants as send
use Rattle.network.specs.declared.part.PartError.{PartError}
use Rattle.network.specs.declared.part.PartError.TheVariants as part

abbrev pub send_number : SendError → ℕ
send_number send.Full = 1
send_number send.NoMemory = 2

abbrev pub part_number : PartError → ℕ
part_number part.Exhausted = 1
part_number part.NoMemory = 2
