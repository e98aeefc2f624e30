-- The parts that seats leave are those of one reached state.
use Rattle.std.specs.Prelude.{◌≡◌, ℕ, ◌+◌, ◌<◌, true, List, length, Option, Some, slice_get}
use Rattle.physiological_order.specs.declared.operation.Record.{Record}
use Rattle.network.specs.declared.message.Message.{Message}
use Rattle.machine_table.specs.SetUp.{is_good}
use Rattle.seat_rule.specs.declared.views.SetUp.{SetUp}
use Rattle.seat_rule.specs.declared.views.Hold.{Hold}
use Rattle.machine_theorem.specs.States.{State}
use Rattle.seat_rule.specs.Rule.{Phase, seat_count, slot_count, state_of, in_flight}
use Rattle.seat_rule.specs.Ended.{Whole, lies, IsNotOut}
use Rattle.closed_machine.specs.declared.parts.CorePart.{CorePart}
use Rattle.closed_machine.specs.declared.parts.BankPart.{BankPart}

-- a core's seat left all that it held, and so did a bank's
pub record IsCoreOf (h : Hold) (p : CorePart) : Type 0 where
  pub core : h.core ≡ p.core
  pub issued : h.issued ≡ p.issued.items
  pub records : h.records ≡ p.records.items
  pub counts : h.counts ≡ p.outbox.counts
  pub outbox : h.outbox ≡ p.outbox.messages
  pub hand : h.hand ≡ p.inbox.hand
  pub held : h.held ≡ p.inbox.held

pub record IsBankOf (h : Hold) (p : BankPart) : Type 0 where
  pub bank : h.bank ≡ p.bank
  pub dram : h.dram ≡ p.dram
  pub counts : h.counts ≡ p.outbox.counts
  pub outbox : h.outbox ≡ p.outbox.messages
  pub hand : h.hand ≡ p.inbox.hand
  pub held : h.held ≡ p.inbox.held

-- There is one reached and consistent state with these records. Its parts are those of all cores and banks, and its
-- messages in flight are those that they hold and those in the slots.
pub record PartsOfState (z : SetUp) (cores : List CorePart) (banks : List BankPart) (slots : List (Option Message))
    (log : List Record) : Type 0 where
  pub good : is_good z.config ≡ true
  pub seats : ℕ → Hold
  pub phases : ℕ → Phase
  pub whole : Whole z seats phases log
  pub of_cores : (i : ℕ) (p : CorePart) → slice_get cores i ≡ Some p → IsCoreOf (seats p.number) p
  pub of_banks : (i : ℕ) (p : BankPart) → slice_get banks i ≡ Some p → IsBankOf (seats p.number) p
  -- no part is missing
  pub cores_there : (j : ℕ) → j < z.config.cores →
      (i : ℕ) × (p : CorePart) × (slice_get cores i ≡ Some p) × (p.number ≡ j)
  pub banks_there : (j : ℕ) → j < z.config.banks →
      (i : ℕ) × (p : BankPart) × (slice_get banks i ≡ Some p) × (p.number ≡ z.config.cores + j)
  -- no slot is missing or out with a seat, and each has its message or none
  pub slots_there : length slots ≡ slot_count z
  pub lying : (k : ℕ) → k < slot_count z → slice_get slots k ≡ Some (lies (phases k))
  pub home : (k : ℕ) → k < slot_count z → IsNotOut (phases k)

-- that state
abbrev pub state_of_parts : {z : SetUp} {cores : List CorePart} {banks : List BankPart} {slots : List (Option Message)}
    {log : List Record} → PartsOfState z cores banks slots log → State
state_of_parts {z = z} {log = log} parts =
    state_of z (seat_count z) parts.seats (in_flight (seat_count z) (slot_count z) parts.seats parts.phases) log
