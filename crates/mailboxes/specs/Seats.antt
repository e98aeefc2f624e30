-- Seats of a machine, as they open and as they stay.
use Rattle.std.specs.Prelude.{◌≡◌, ℕ, false, ◌+◌, ◌<◌, ◌≤◌, List, [], Some, slice_get}
use Rattle.seat_views.specs.Seated.{first_view}
use Rattle.seat_rule.specs.Rule.{opening_hold, seat_count}
use Rattle.closed_machine.specs.Numbers.{Has, HasAll}
use Rattle.mailboxes.specs.declared.machine.Machine.{Machine}
use Rattle.mailboxes.specs.declared.core_seat.CoreSeat.{CoreSeat}
use Rattle.mailboxes.specs.declared.bank_seat.BankSeat.{BankSeat}
use Rattle.mailboxes.specs.Ties.{SlotSeat}
use Rattle.closed_machine.specs.Sending.{OutboxState, no_outbox}
use Rattle.mailboxes.specs.BoxMoves.{IsAt, Stands, hold}

-- a seat at the machine's table of slots, which isn't joined to another
abbrev pub IsLive : Machine → SlotSeat → Type 0
IsLive m slot_seat =
    (slot_seat.table_id ≡ m.table.shared.table_id) × (slot_seat.me.0.spent ≡ false)
    × (slot_seat.me.0.number < seat_count m.set_up)

-- the seat is that of one of the machine's cores, or of one of its banks, and holds a part of a reached state
abbrev pub IsCoreSeat : Machine → CoreSeat → Type 0
IsCoreSeat m p = IsAt m p.mail × (p.mail.number < m.set_up.config.cores) × Stands m p.mail

abbrev pub IsBankSeat : Machine → BankSeat → Type 0
IsBankSeat m p = IsAt m p.mail × (m.set_up.config.cores ≤ p.mail.number) × Stands m p.mail

-- what was sent is counted as before
abbrev pub SameCounts : OutboxState → OutboxState → Type 0
SameCounts o u = (u.counts ≡ o.counts) × (u.sent ≡ o.sent)

-- a core's seat but for its messages, and a bank's
abbrev pub SameCorePart : CoreSeat → CoreSeat → Type 0
SameCorePart p q =
    (q.part.core ≡ p.part.core) × (q.issued.items ≡ p.issued.items) × (q.records.items ≡ p.records.items)
    × SameCounts p.part.outbox q.part.outbox × (q.is_stopped ≡ p.is_stopped)

abbrev pub SameBankPart : BankSeat → BankSeat → Type 0
SameBankPart p q =
    (q.part.bank ≡ p.part.bank) × (q.part.dram ≡ p.part.dram) × SameCounts p.part.outbox q.part.outbox
    × (q.is_stopped ≡ p.is_stopped)

-- a core's seat of this number as the machine opens, and a bank's: its looks begin at the first slot that comes in, it
-- isn't stopped, and it has sent nothing
abbrev pub IsNewCore : Machine → ℕ → CoreSeat → Type 0
IsNewCore m j p =
    IsCoreSeat m p × (p.mail.number ≡ j) × (hold p.mail ≡ opening_hold m.set_up j) × (p.mail.cursor ≡ 0)
    × (p.is_stopped ≡ false) × (p.part.outbox ≡ no_outbox)

abbrev pub IsNewBank : Machine → ℕ → BankSeat → Type 0
IsNewBank m j p =
    IsBankSeat m p × (p.mail.number ≡ j) × (hold p.mail ≡ opening_hold m.set_up j) × (p.mail.cursor ≡ 0)
    × (p.is_stopped ≡ false) × (p.part.outbox ≡ no_outbox)

-- all seats of a list, by number from this one on
abbrev pub AllNewCores : Machine → ℕ → List CoreSeat → Type 0
AllNewCores m from ps = (i : ℕ) (p : CoreSeat) → slice_get ps i ≡ Some p → IsNewCore m (from + i) p

abbrev pub AllNewBanks : Machine → ℕ → List BankSeat → Type 0
AllNewBanks m from ps = (i : ℕ) (p : BankSeat) → slice_get ps i ≡ Some p → IsNewBank m (from + i) p

-- the first seat, which has made all seats below this number
abbrev pub HasMade : Machine → ℕ → SlotSeat → Type 0
HasMade m n slot_seat =
    (slot_seat.table_id ≡ m.table.shared.table_id)
    × (slot_seat.me ≡ (record (first_view (opening_hold m.set_up 0)) { made = n }, []))

-- all seats of a list are of this machine
abbrev pub AllCoreSeats : Machine → List CoreSeat → Type 0
AllCoreSeats m ps = (i : ℕ) (p : CoreSeat) → slice_get ps i ≡ Some p → IsCoreSeat m p

abbrev pub AllBankSeats : Machine → List BankSeat → Type 0
AllBankSeats m ps = (i : ℕ) (p : BankSeat) → slice_get ps i ≡ Some p → IsBankSeat m p

-- the seats of this many cores, and of banks by number, are in the list
pub record HasCores (ps : List CoreSeat) (count : ℕ) : Type 0 where
  pub there : (j : ℕ) → j < count → Has (λ (p : CoreSeat). p.mail.number) ps j

abbrev pub HasBanks : List BankSeat → ℕ → ℕ → Type 0
HasBanks ps first count = HasAll (λ (p : BankSeat). p.mail.number) ps first count

-- every seat of the machine is in one of the lists
pub record AreAll (m : Machine) (cores : List CoreSeat) (banks : List BankSeat) : Type 0 where
  pub cores_there : HasCores cores m.set_up.config.cores
  pub banks_there : HasBanks banks m.set_up.config.cores m.set_up.config.banks
