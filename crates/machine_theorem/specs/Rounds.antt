-- The events that a round makes of a machine as long as none changes it, and the answers that say that one did.
use Rattle.std.specs.Prelude.{◌≡◌, ℕ, ◌/◌, Some, slice_get}
use Rattle.physiological_order.specs.declared.operation.Op.{Op}
use Rattle.physiological_order.specs.Order.{address}
use Rattle.network.specs.declared.message.Body.{Body}
use Rattle.network.specs.declared.message.Body.TheVariants.{ShReq, ExReq}
use Rattle.network.specs.declared.message.Message.{Message}
use Rattle.network.specs.declared.message.Node.TheVariants.{Bank}
use Rattle.network.specs.NumberedMessages.{at_number}
use Rattle.private_cache.specs.CopyTable.{victim_for}
use Rattle.core_pts.specs.CoreTable.{CoreState}
use Rattle.llc_bank.specs.BankTable.{BankState, make_room}
use Rattle.machine_table.specs.declared.event.Event.{Event}
use Rattle.machine_table.specs.declared.event.Event.TheVariants.{Attempt, Deliver, EvictCache, EvictBank}
use Rattle.machine_table.specs.declared.event.Answer.{Answer}
use Rattle.machine_table.specs.declared.event.Answer.TheVariants.{Waiting, Idle, Held, Refused}
use Rattle.machine_table.specs.declared.event.Refusal.TheVariants.{Exhausted, NoRoom}
use Rattle.machine_table.specs.Machine.{Machine}
use Rattle.machine_table.specs.Transition.{transition}

-- the answer is none of Waiting, Idle, Held and the refusals, or times are exhausted
abbrev pub IsMoving : Answer → Type 0
IsMoving Waiting = ⊥
IsMoving Idle = ⊥
IsMoving Held = ⊥
IsMoving (Refused Exhausted) = Unit {0}
IsMoving (Refused why) = ⊥
IsMoving answer = Unit {0}

abbrev pub IsRequest : Body → Type 0
IsRequest (ShReq pts version) = Unit {0}
IsRequest (ExReq version) = Unit {0}
IsRequest body = ⊥

pub data IsInRound (m : Machine) : Event → Type 0 where
  -- each open operation is attempted
  attempts : (core : ℕ) (state : CoreState) (op : Op) → slice_get m.cores core ≡ Some state → state.open_op ≡ Some op →
      IsInRound m (Attempt core)
  -- if there is no place for its line, a copy leaves
  copy_leaves : (core line : ℕ) (state : CoreState) (op : Op) → slice_get m.cores core ≡ Some state →
      state.open_op ≡ Some op → (transition m (Attempt core)).0 ≡ Refused NoRoom →
      victim_for state.cache (address op / m.config.line_words) ≡ Some line → IsInRound m (EvictCache core line)
  -- each message in flight is delivered
  delivers : (number : ℕ) (message : Message) → at_number number m.mail.messages ≡ Some message →
      IsInRound m (Deliver number)
  -- if a request is held, since its bank has no room for the line, another line leaves
  line_leaves : (number bank line : ℕ) (message : Message) (state : BankState) →
      at_number number m.mail.messages ≡ Some message → message.to ≡ Bank bank → IsRequest message.body →
      slice_get m.banks bank ≡ Some state → (transition m (Deliver number)).0 ≡ Held →
      make_room state message.line ≡ Some line → IsInRound m (EvictBank bank line)

-- one of these events changes the machine
pub record MovesOn (m : Machine) : Type 0 where
  pub event : Event
  pub in_round : IsInRound m event
  pub moving : IsMoving (transition m event).0
