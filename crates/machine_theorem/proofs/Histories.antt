-- Moves reach the state of the machine after any list of events.
use Rattle.std.proofs.Common.{◌≡◌, ℕ, true, List, [], ◌∷◌, refl, ◌∙◌, subst, nat_cmp}
use Rattle.std.specs.FinMap.{FinMap}
use Rattle.machine_table.specs.declared.config.Config.{Config}
use Rattle.machine_table.specs.declared.event.Event.{Event}
use Rattle.machine_table.specs.Machine.{Machine}
use Rattle.machine_table.specs.SetUp.{is_good}
use Rattle.machine_table.specs.Opening.{at_start}
use Rattle.machine_table.specs.Transition.{transition}
use Rattle.machine_table.specs.Runs.{after_all}
use Rattle.machine_theorem.specs.Kept.{Invariant}
use Rattle.machine_theorem.specs.States.{seen}
use Rattle.machine_theorem.specs.Moves.{Move, Reached, opens, goes_on, same}
use Rattle.machine_theorem.specs.Effects.{IsMove}
use Rattle.machine_theorem.proofs.EventMoves.{transition_goes}
use Rattle.machine_theorem.proofs.Events.{of_effect, any_transition}
use Rattle.machine_theorem.proofs.InitialStates.{opening_same}
use Rattle.machine_theorem.proofs.Openings.{fair, at_start_invariant}
use Rattle.machine_theorem.proofs.SetUps.{transition_same}

module _ (config : Config) (opening : FinMap nat_cmp ℕ) where
  by_move : (m after : Machine) → m.config ≡ config → Reached config opening (seen m) → IsMove m after →
      Reached config opening (seen after)
  by_move m after is r k = same (goes_on r (subst (λ (f : Config). Move f (seen m) k.to) is k.move)) k.same

  by_events : (m : Machine) → Invariant m → m.config ≡ config → Reached config opening (seen m) →
      (events : List Event) → Reached config opening (seen (after_all m events))
  by_events m s is r [] = r
  by_events m s is r (event ∷ events) =
      let next = transition m event in
      by_events next.1 (any_transition m s event) ((transition_same m event).config ∙ is)
      (of_effect (Reached config opening (seen next.1)) m next.0 next.1 (transition_goes m s event)
      (λ e. same r e) (by_move m next.1 is r)) events

  pub reached_history : (events : List Event) → is_good config ≡ true →
      Reached config opening (seen (after_all (at_start config opening) events))
  reached_history events good =
      by_events (at_start config opening) (at_start_invariant config opening (fair config good)) refl
      (same opens (opening_same config opening)) events
