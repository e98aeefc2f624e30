-- Which events of the machine's table a move is.
use Rattle.std.specs.Prelude.{◌≡◌, ℕ, true, false}
use Rattle.std.specs.Ordering.{nat_cmp}
use Rattle.std.specs.FinMap.{FinMap}
use Rattle.network.specs.Mail.{has_capacity}
use Rattle.network.specs.NumberedMessages.{IsRising}
use Rattle.machine_table.specs.declared.config.Config.{Config}
use Rattle.machine_table.specs.declared.event.Event.{Event}
use Rattle.machine_table.specs.Machine.{Machine}
use Rattle.machine_table.specs.Transition.{transition}
use Rattle.machine_theorem.specs.Kept.{Invariant}
use Rattle.machine_theorem.specs.States.{State, Same, seen}

-- a machine with this set-up and opening memory that runs and is in this state, with any capacity and any numbers of
-- its messages
pub record Shows (config : Config) (opening : FinMap nat_cmp ℕ) (a : State) (m : Machine) : Type 0 where
  pub set_up : m.config ≡ record config { messages = m.config.messages }
  pub opened : m.opening ≡ opening
  pub same : Same a (seen m)
  pub runs : m.is_stopped ≡ false

-- an event of a machine in the one state leads to the other. The machine keeps the invariant, its messages have rising
-- numbers below the next one, and one more message can be sent
pub record IsEvent (config : Config) (opening : FinMap nat_cmp ℕ) (a b : State) : Type 0 where
  pub machine : Machine
  pub event : Event
  pub invariant : Invariant machine
  pub rising : IsRising 0 machine.mail.messages machine.mail.next
  pub free : has_capacity machine.config.messages machine.mail ≡ true
  pub before : Shows config opening a machine
  pub after : Shows config opening b (transition machine event).1
