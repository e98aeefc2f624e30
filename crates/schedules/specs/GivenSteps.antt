-- Which steps a schedule gives a core.
use Rattle.std.specs.Prelude.{◌≡◌, List, [], ◌∷◌, Some, None}
use Rattle.programs.specs.declared.steps.Step.TheVariants as step
use Rattle.machine_table.specs.declared.event.Event.TheVariants as event
use Rattle.machine_table.specs.Machine.{open_op}
use Rattle.programs.specs.Acts.{Acts, next_in}
use Rattle.schedules.specs.Parts.{Action, Does, Advances, Standing, Part, after_action}
use Rattle.schedules.specs.Schedules.{Schedule}

module _ {P : Type 0} (acts : Acts P) (Draws : Type 0) where
  -- an issue, and an advance of which the program is told, is the next step of a core without an open operation;
  -- another advance is drawn
  abbrev pub IsGiven : Standing P → Action → Type 0
  IsGiven s (Does (event.Issue core op)) =
      (open_op s.machine core ≡ None) × (next_in acts s.programs core ≡ Some (step.Op op))
  IsGiven s (Advances core) = (open_op s.machine core ≡ None) × (next_in acts s.programs core ≡ Some step.Advance)
  IsGiven s (Does (event.Advance core)) = Draws
  IsGiven s _ = Unit {0}

  abbrev pub AreGiven : Standing P → List Action → Type 0
  AreGiven s [] = Unit {0}
  AreGiven s (action ∷ actions) = IsGiven s action × AreGiven (after_action acts s action) actions

  -- all that a part makes is given
  abbrev pub Gives : Part P → Type 0
  Gives part = (s : Standing P) → AreGiven s (part s)

-- and all that a schedule ever makes, which may draw advances
abbrev pub GivesSteps : {P S : Type 0} → Acts P → Schedule P S → Type 0
GivesSteps {P} {S} acts schedule = (own : S) → Gives acts (Unit {0}) (schedule.turn own)
