-- Why a run by rounds stalls: each round that could make progress needs room for a message, or a number.
use Rattle.std.specs.Prelude.{◌≡◌, ◌⊎◌, ℕ, ◌-◌, ◌^◌, ◌<◌, ◌≤◌, List, [], ◌∷◌, length, Some, None}
use Rattle.physiological_order.specs.declared.operation.Op.{Op}
use Rattle.programs.specs.declared.steps.Step.TheVariants as step
use Rattle.programs.specs.Acts.{Acts, next_in}
use Rattle.machine_table.specs.declared.config.Config.{Config}
use Rattle.machine_table.specs.declared.event.Event.TheVariants.{Issue}
use Rattle.machine_table.specs.declared.event.Answer.TheVariants.{Refused}
use Rattle.machine_table.specs.declared.event.Refusal.TheVariants.{TooMany}
use Rattle.machine_table.specs.Machine.{Machine, open_op}
use Rattle.machine_table.specs.Transition.{transition}

abbrev pub IsAmong : {A : Type 0} → A → List A → Type 0
IsAmong x [] = ⊥
IsAmong x (y ∷ ys) = (x ≡ y) ⊎ IsAmong x ys

pub data StallsBy {P : Type 0} (acts : Acts P) (m : Machine) (programs : List P) (IsFull : Type 0) : Type 0 where
  -- there are too few places for messages
  full : IsFull → StallsBy acts m programs IsFull
  -- the numbers of messages are used up
  unnumbered : 2 ^ 64 - 1 ≤ m.mail.next → StallsBy acts m programs IsFull
  -- no operation is open, and a program has one more than its core may be issued
  too_many : ((core : ℕ) → open_op m core ≡ None) → (core : ℕ) (op : Op) → core < m.config.cores →
      next_in acts programs core ≡ Some (step.Op op) → (transition m (Issue core op)).0 ≡ Refused TooMany →
      StallsBy acts m programs IsFull

-- since the network is full
abbrev pub StallsSince : {P : Type 0} → Acts P → Machine → List P → Type 0
StallsSince acts m programs = StallsBy acts m programs (m.config.messages ≤ length m.mail.messages)

-- where there is a core for each message that may be in flight
abbrev pub StallsFromOpening : {P : Type 0} → Acts P → Config → Machine → List P → Type 0
StallsFromOpening acts config m programs = StallsBy acts m programs (config.messages ≤ config.cores)
