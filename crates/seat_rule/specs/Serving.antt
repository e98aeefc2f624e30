-- What a seat holds after a change that it makes by itself, as it stores it.
use Rattle.std.specs.Prelude.{List, Option, Some, None}
use Rattle.physiological_order.specs.declared.operation.Op.{Op}
use Rattle.network.specs.declared.message.Message.{Message}
use Rattle.network.specs.declared.counts.Counts.{Counts}
use Rattle.network.specs.Mail.{counted}
use Rattle.core_pts.specs.CoreTable.{CoreState}
use Rattle.llc_bank.specs.BankTable.{BankState}
use Rattle.std.specs.Prelude.{ℕ}
use Rattle.std.specs.Ordering.{nat_cmp}
use Rattle.std.specs.FinMap.{FinMap}
use Rattle.seat_rule.specs.declared.views.Hold.{Hold}

-- what is counted after a message was sent, if any
abbrev pub counted_if : Counts → Option Message → Counts
counted_if counts None = counts
counted_if counts (Some m) = counted counts m.body

-- what a core's seat stores is now this
abbrev pub core_now : Hold → CoreState → List Op → Counts → List Message → Option Message → List Message → Hold
core_now a core issued counts outbox hand held =
    record a { core = core; issued = issued; counts = counts; outbox = outbox; hand = hand; held = held }

-- what a bank's seat stores is now this
abbrev pub bank_now :
    Hold → BankState → FinMap nat_cmp (List ℕ) → Counts → List Message → Option Message → List Message → Hold
bank_now a bank dram counts outbox hand held =
    record a { bank = bank; dram = dram; counts = counts; outbox = outbox; hand = hand; held = held }
