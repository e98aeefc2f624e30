-- Any event and any list of events keep the invariant.
use Rattle.std.proofs.Common.{arith, ◌≡◌, ℕ, true, List, [], ◌∷◌, nat_cmp}
use Rattle.std.specs.FinMap.{FinMap}
use Rattle.machine_table.specs.declared.config.Config.{Config}
use Rattle.machine_table.specs.declared.event.Event.{Event}
use Rattle.machine_table.specs.declared.event.Answer.{Answer}
use Rattle.machine_table.specs.declared.event.Answer.TheVariants.{Waiting, Idle, Held, Refused}
use Rattle.machine_table.specs.Machine.{Machine}
use Rattle.machine_table.specs.SetUp.{is_good}
use Rattle.machine_table.specs.Opening.{at_start}
use Rattle.machine_table.specs.Transition.{transition, on_event}
use Rattle.machine_table.specs.Runs.{after_all}
use Rattle.machine_table.proofs.Lemmas.{Outcome, outcome, transition_outcome}
use Rattle.machine_theorem.specs.States.{Same, seen}
use Rattle.machine_theorem.specs.Effects.{IsMove, Effect}
use Rattle.machine_theorem.specs.Kept.{IsKept, Invariant}
use Rattle.machine_theorem.proofs.EventMoves.{goes}
use Rattle.machine_theorem.proofs.KeptMoves.{move_kept}
use Rattle.machine_theorem.proofs.KeptSteps.{kept_same}
use Rattle.machine_theorem.proofs.Openings.{fair, at_start_invariant}
use Rattle.machine_theorem.proofs.SetUps.{HasAsMany, as_many_parts}

-- what is done at a move, and where nothing of the state changes
pub of_effect : (X : Type 0) (m : Machine) (answer : Answer) (after : Machine) → Effect m answer after →
    (Same (seen m) (seen after) → X) → (IsMove m after → X) → X
of_effect X m Waiting after e same moves = same e
of_effect X m Idle after e same moves = same e
of_effect X m Held after e same moves = same e
of_effect X m (Refused why) after e same moves = same e
of_effect X m _ after e same moves = moves e

effect_kept : (m : Machine) → Invariant m → (answer : Answer) (after : Machine) → Effect m answer after →
    HasAsMany m after → Invariant after
effect_kept m s answer after effect many =
    grind (
      arith,
      of_effect (IsKept m.config m.opening (seen after)) m answer after effect (λ e. kept_same m.config
          m.opening (seen m) (seen after) e s.kept) (λ move. kept_same m.config m.opening move.to (seen after) move.same
          (move_kept m.config m.opening (seen m) s.kept move.to move.move)),
    )

outcome_kept : (m : Machine) → Invariant m → (event : Event) (o : Answer × Machine) → Outcome m event o → Invariant o.1
outcome_kept m s event o is = effect_kept m s o.0 o.1 (goes m s event o is) (as_many_parts m event o is)

pub any_event : (m : Machine) → Invariant m → (event : Event) → Invariant (on_event m event).1
any_event m s event = outcome_kept m s event _ (outcome m event)

pub any_transition : (m : Machine) → Invariant m → (event : Event) → Invariant (transition m event).1
any_transition m s event = outcome_kept m s event _ (transition_outcome m event)

pub any_events : (m : Machine) → Invariant m → (events : List Event) → Invariant (after_all m events)
any_events m s [] = s
any_events m s (event ∷ events) = any_events (transition m event).1 (any_transition m s event) events

pub invariant : (config : Config) (opening : FinMap nat_cmp ℕ) (events : List Event) → is_good config ≡ true →
    Invariant (after_all (at_start config opening) events)
invariant config opening events good =
    any_events (at_start config opening) (at_start_invariant config opening (fair config good)) events
