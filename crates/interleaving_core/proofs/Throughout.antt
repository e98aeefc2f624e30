-- After each beginning of a run the invariant holds.
use Rattle.std.proofs.Common.{ℕ, zero, suc, List, [], ◌∷◌, take, drop, refl, sym, subst}
use Rattle.machine_table.specs.declared.event.Event.{Event}
use Rattle.machine_table.specs.declared.event.Answer.{Answer}
use Rattle.machine_table.specs.Machine.{Machine}
use Rattle.machine_table.specs.SetUp.{SetUpAs}
use Rattle.machine_theorem.specs.Kept.{Invariant}
use Rattle.machine_theorem.proofs.Lemmas.{consistent, set_up_same}
use Rattle.interleaving_core.specs.StepAnswers.{Ran}
use Rattle.interleaving_core.specs.Midway.{IsMidway}
use Rattle.interleaving_core.proofs.RunSteps.{set_up_on}
use Rattle.interleaving_core.proofs.Runs.{run_issues, run_sends}
use Rattle.interleaving_core.proofs.Coherence.{step_set_up, step_invariant}

-- the machine after the first k events
record Reaches (m : Machine) (events : List Event) (answers : List Answer) (after : Machine) (k : ℕ) : Type 0 where
  mid : Machine
  before : Ran m (take k events) (take k answers) mid
  behind : Ran mid (drop k events) (drop k answers) after
  set_up : SetUpAs m mid
  invariant : Invariant mid

reaches : (k : ℕ) (events : List Event) (answers : List Answer) (m after : Machine) → Invariant m →
    Ran m events answers after → Reaches m events answers after k
reaches zero events answers m after invariant ran =
    record { mid = m; before = refl; behind = ran; set_up = set_up_same m; invariant = invariant }
reaches (suc k) [] [] m after invariant ran =
    record { mid = m; before = refl; behind = ran; set_up = set_up_same m; invariant = invariant }
reaches (suc k) (event ∷ events) (answer ∷ answers) m after invariant (next, step, rest) =
    let r = reaches k events answers next after (step_invariant m event answer next invariant step) rest in
    record {
      mid = r.mid;
      before = (next, step, r.before);
      behind = r.behind;
      set_up =
          set_up_on m next r.mid (step_set_up m event answer next step) r.set_up;
      invariant = r.invariant;
    }
reaches (suc k) [] (answer ∷ answers) m after invariant never = absurd never
reaches (suc k) (event ∷ events) [] m after invariant never = absurd never

pub throughout : (m after : Machine) (events : List Event) (answers : List Answer) → Invariant m →
    Ran m events answers after → (k : ℕ) → IsMidway m events answers after k
throughout m after events answers invariant ran k =
    let r = reaches k events answers m after invariant ran in
    record {
      mid = r.mid;
      before = r.before;
      behind = r.behind;
      set_up = r.set_up;
      consistent = consistent r.mid r.invariant;
      issued = run_issues (take k events) (take k answers) m r.mid invariant r.before;
      counted = (run_sends (take k events) (take k answers) m r.mid r.before).counts;
    }

-- after a whole list of events
pub ran_invariant : (events : List Event) (answers : List Answer) (m after : Machine) → Invariant m →
    Ran m events answers after → Invariant after
ran_invariant [] [] m after invariant ran = subst Invariant (sym ran) invariant
ran_invariant (event ∷ events) (answer ∷ answers) m after invariant (next, step, rest) =
    ran_invariant events answers next after (step_invariant m event answer next invariant step) rest
ran_invariant [] (answer ∷ answers) m after invariant never = absurd never
ran_invariant (event ∷ events) [] m after invariant never = absurd never
