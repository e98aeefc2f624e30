-- What every answer says of the machine afterwards.
use Rattle.std.specs.Prelude.{◌≡◌, true, [], ◌∷◌, ◌++◌, length}
use Rattle.physiological_order.specs.declared.operation.Record.{Record}
use Rattle.machine_table.specs.declared.event.Answer.{Answer}
use Rattle.machine_table.specs.declared.event.Answer.TheVariants.{Issued, Completed, Requested, Waiting, Idle}
use Rattle.machine_table.specs.declared.event.Answer.TheVariants.{Delivered, Dropped, Held, Started, Evicted}
use Rattle.machine_table.specs.declared.event.Answer.TheVariants.{Recalled, Advanced, Refused}
use Rattle.machine_table.specs.declared.event.Refusal.{Refusal}
use Rattle.machine_table.specs.declared.event.Refusal.TheVariants.{Busy, TooMany, NoSuch, NoRoom, Pinned, NetworkFull}
use Rattle.machine_table.specs.declared.event.Refusal.TheVariants.{NoMemory, Exhausted, Stopped}
use Rattle.machine_table.specs.Machine.{Machine}

-- a refusal leaves the machine as it was, but Exhausted stops it; the table never answers NoMemory
abbrev pub RefusedSo : Machine → Refusal → Machine → Type 0
RefusedSo m Exhausted after = after ≡ record m { is_stopped = true }
RefusedSo m Busy after = after ≡ m
RefusedSo m TooMany after = after ≡ m
RefusedSo m NoSuch after = after ≡ m
RefusedSo m NoRoom after = after ≡ m
RefusedSo m Pinned after = after ≡ m
RefusedSo m NetworkFull after = after ≡ m
RefusedSo m NoMemory after = ⊥
RefusedSo m Stopped after = after ≡ m

-- the machine goes on, with the records that it had
pub record GoesOn (m after : Machine) : Type 0 where
  pub records : after.records ≡ m.records
  pub runs : after.is_stopped ≡ m.is_stopped

-- one more record, with the next number
pub record Completes (m : Machine) (done : Record) (after : Machine) : Type 0 where
  pub records : after.records ≡ m.records ++ done ∷ []
  pub number : done.number ≡ length m.records
  pub runs : after.is_stopped ≡ m.is_stopped

-- what an answer says: waiting, idle and held change nothing; a completion adds its record; the others add none
abbrev pub Answered : Machine → Answer → Machine → Type 0
Answered m (Refused why) after = RefusedSo m why after
Answered m (Completed done) after = Completes m done after
Answered m Waiting after = after ≡ m
Answered m Idle after = after ≡ m
Answered m Held after = after ≡ m
Answered m Issued after = GoesOn m after
Answered m Requested after = GoesOn m after
Answered m Delivered after = GoesOn m after
Answered m Dropped after = GoesOn m after
Answered m Started after = GoesOn m after
Answered m Evicted after = GoesOn m after
Answered m Recalled after = GoesOn m after
Answered m Advanced after = GoesOn m after
