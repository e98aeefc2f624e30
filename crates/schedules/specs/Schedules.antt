-- What a schedule is: how its turns go. The rest of a run, which is the same for all schedules, is in Runs.
use Rattle.std.specs.Prelude.{Bool}
use Rattle.schedules.specs.Parts.{Part}

-- a schedule, where S is its state
pub record Schedule (P S : Type 0) : Type 0 where
  -- what a turn makes
  pub turn : S → Part P
  -- the state after a turn
  pub next : S → S
  -- whether a turn without progress is the last
  pub stalls : Bool
