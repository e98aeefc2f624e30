-- A core's turn, by what is open; and rounds issue and advance a core as its program says, and draw no advance.
use Rattle.std.proofs.Common.{◌≡◌, ℕ, Bool, true, false, [], Option, Some, None, refl}
use Rattle.std.specs.Prelude.{is_some}
use Rattle.physiological_order.specs.declared.operation.Op.{Op}
use Rattle.programs.specs.declared.steps.Step.{Step}
use Rattle.programs.specs.declared.steps.Step.TheVariants as step
use Rattle.machine_table.specs.declared.event.Event.TheVariants as event
use Rattle.machine_table.specs.Machine.{open_op}
use Rattle.programs.specs.Acts.{Acts, next_in}
use Rattle.schedules.specs.Parts.{Does, Standing, one, only_if, finds_no_place, tries, delivery}
use Rattle.schedules.specs.RoundSchedule.{rising, numbers_in_flight, step_action, step_of, steps_on, tries_twice}
use Rattle.schedules.specs.RoundSchedule.{attempt_of, attempts, core_turn}
use Rattle.schedules.specs.RoundSchedule.{core_turns, deliveries, Round, round_of}
use Rattle.schedules.specs.GivenSteps.{AreGiven, Gives}
use Rattle.schedules.proofs.GivenSteps.{gives_then, gives_each, gives_if, tries_give, delivery_gives}

pub has_step : {P : Type 0} (core : ℕ) (o : Option (Op × Bool)) (n : Option Step) (next : Step) (s : Standing P) →
    o ≡ None → n ≡ Some next → one (step_action core next) s ≡ step_of core o n s
has_step core o n next s free is = rw (free, is) refl

pub no_step : {P : Type 0} (core : ℕ) (o : Option (Op × Bool)) (next : Option Step) (s : Standing P) →
    is_some o ≡ true → step_of core o next s ≡ []
no_step core (Some x) next s has = refl
no_step core None next s has = absurd cc

module _ {P : Type 0} (acts : Acts P) where
  pub attempted : (core : ℕ) (o : Option (Op × Bool)) (s : Standing P) → is_some o ≡ true →
      tries_twice acts core s ≡ attempt_of acts core o s
  attempted core (Some x) s has = refl
  attempted core None s has = absurd cc

  pub not_attempted : (core : ℕ) (o : Option (Op × Bool)) (s : Standing P) → is_some o ≡ false →
      attempt_of acts core o s ≡ []
  not_attempted core None s has = refl
  not_attempted core (Some x) s has = absurd cc

  module _ (Draws : Type 0) where
    step_gives : (core : ℕ) (o : Option (Op × Bool)) (next : Option Step) (s : Standing P) →
        open_op s.machine core ≡ o → next_in acts s.programs core ≡ next → AreGiven acts Draws s (step_of core o next s)
    step_gives core None None s free is = tt
    step_gives core None (Some (step.Op op)) s free is = ((free, is), tt)
    step_gives core None (Some step.Advance) s free is = ((free, is), tt)
    step_gives core (Some x) next s free is = tt

    attempt_gives : (core : ℕ) (o : Option (Op × Bool)) → Gives acts Draws (attempt_of acts core o)
    attempt_gives core None s = tt
    attempt_gives core (Some x) s =
        let again = finds_no_place s.machine core in
        gives_then acts Draws (tries acts core) (only_if again (one (Does (event.Attempt core))))
        (tries_give acts Draws core) (gives_if acts Draws again (one (Does (event.Attempt core))) (λ t. (tt, tt))) s

    turn_gives : (core : ℕ) → Gives acts Draws (core_turn acts core)
    turn_gives core =
        gives_then acts Draws (steps_on acts core) (attempts acts core)
        (λ s. step_gives core (open_op s.machine core) (next_in acts s.programs core) s refl refl)
        (λ s. attempt_gives core (open_op s.machine core) s)

    pub rounds_give_steps : (round : Round) → Gives acts Draws (round_of acts round)
    rounds_give_steps round =
        gives_then acts Draws (core_turns acts round.cores) (deliveries acts round.is_fair)
        (gives_each acts Draws (core_turn acts) turn_gives (rising round.cores 0))
        (λ s. (
          tt,
          gives_each acts Draws (delivery acts round.is_fair) (delivery_gives acts Draws round.is_fair)
              (numbers_in_flight s.machine) s,
        ))
