-- The renewals of a run of one core.
use Rattle.std.specs.Prelude.{◌≡◌, ℕ, List, [], ◌∷◌}
use Rattle.std.specs.FinMap.{empty}
use Rattle.programs.specs.declared.steps.Step.{Step}
use Rattle.machine_table.specs.declared.config.Config.{Config}
use Rattle.machine_table.specs.declared.event.Event.{Event}
use Rattle.machine_table.specs.Machine.{Machine}
use Rattle.machine_table.specs.Opening.{at_start}
use Rattle.programs.specs.declared.ends.End.TheVariants.{AllDone}
use Rattle.programs.specs.Acts.{Acts, first_step, behind_first}
use Rattle.schedules.specs.declared.policy.Policy.TheVariants.{Rounds}
use Rattle.schedules.specs.Policies.{EndedBy}
use Rattle.guide_uses.specs.declared.drive.TheConstants.{TWO_CORES}

-- one core, with this lease
abbrev pub one_core : ℕ → Config
one_core lease = record TWO_CORES { cores = 1; lease = lease }

-- a list does its steps in order
abbrev pub list_acts : Acts (List Step)
list_acts = record { next = first_step; done = behind_first }

-- the run by rounds does all these steps and sends this many renewals
pub record AreRenewals (steps : List Step) (lease count : ℕ) : Type 0 where
  pub events : List Event
  pub machine : Machine
  pub left : List (List Step)
  pub ended : EndedBy list_acts Rounds 1000 (at_start (one_core lease) empty) (steps ∷ []) events machine left AllDone
  pub counted : count ≡ machine.mail.counts.renewals
