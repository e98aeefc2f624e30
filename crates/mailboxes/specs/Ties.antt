-- What a seat stores, and what the proofs know of it.
use Rattle.std.specs.Prelude.{◌≡◌, ℕ, false, List, [], Option}
use Rattle.std.specs.Ordering.{nat_cmp}
use Rattle.std.specs.FinMap.{FinMap}
use Rattle.atomic_table.specs.declared.shared.Seat.{Seat}
use Rattle.physiological_order.specs.declared.operation.Op.{Op}
use Rattle.physiological_order.specs.declared.operation.Record.{Record}
use Rattle.network.specs.declared.message.Message.{Message}
use Rattle.core_pts.specs.CoreTable.{CoreState}
use Rattle.llc_bank.specs.BankTable.{BankState}
use Rattle.seat_views.specs.declared.views.View.{View}
use Rattle.seat_rule.specs.declared.views.Stage.TheVariants.{Idle}
use Rattle.seat_rule.specs.declared.views.Hold.{Hold}
use Rattle.closed_machine.specs.Sending.{OutboxState}

abbrev pub SlotSeat : Type 0
SlotSeat = Seat (Option Message) (View Hold)

-- no slot is out with the seat, and the number and the messages that came in are what the view has
pub record BoxTied (slot_seat : SlotSeat) (n : ℕ) (h : Option Message) (waiting : List Message) : Type 0 where
  pub number : slot_seat.me.0.number ≡ n
  pub live : slot_seat.me.0.spent ≡ false
  pub none_out : slot_seat.me.1 ≡ []
  pub idle : slot_seat.me.0.mine.stage ≡ Idle
  pub hand : slot_seat.me.0.mine.hand ≡ h
  pub held : slot_seat.me.0.mine.held ≡ waiting

-- the core, its operations, its records, and the messages and counts of the outbox are what the view has
pub record CoreTied (a : Hold) (p : CoreState) (ops : List Op) (rs : List Record) (out : OutboxState) : Type 0 where
  pub core : a.core ≡ p
  pub issued : a.issued ≡ ops
  pub records : a.records ≡ rs
  pub outbox : a.outbox ≡ out.messages
  pub counts : a.counts ≡ out.counts

-- the bank, the DRAM, and the messages and counts of the outbox are what the view has
pub record BankTied (a : Hold) (p : BankState) (lines : FinMap nat_cmp (List ℕ)) (out : OutboxState) : Type 0 where
  pub bank : a.bank ≡ p
  pub dram : a.dram ≡ lines
  pub outbox : a.outbox ≡ out.messages
  pub counts : a.counts ≡ out.counts
