-- Lists that are filled between the turns of a run.
use Rattle.std.proofs.Common.{◌≡◌, ℕ, ◌+◌, Bool, List, [], ◌∷◌, ◌++◌, length, refl, ap₂, append_assoc, subst, arith}
use Rattle.machine_table.specs.declared.event.Event.{Event}
use Rattle.machine_table.specs.Machine.{Machine}
use Rattle.programs.specs.declared.ends.End.{End}
use Rattle.programs.specs.declared.ends.End.TheVariants.{TurnsUsed}
use Rattle.programs.specs.declared.steps.Step.{Step}
use Rattle.schedules.specs.declared.policy.Policy.{Policy}
use Rattle.schedules.specs.Policies.{EndsBy}
use Rattle.schedules.specs.LongerLists.{GoesOnBy, IsAhead, end_before, joined, step_acts}
use Rattle.schedules.proofs.LongerRuns.{steps_behind}
use Rattle.schedules.proofs.RunsGoingOn.{goes_on_at_first, runs_on}

pub joined_both : (lists moved behind : List (List Step)) →
    joined (joined lists moved) behind ≡ joined lists (joined moved behind)
joined_both [] moved behind = refl
joined_both (list ∷ lists) [] behind = refl
joined_both (list ∷ lists) (more ∷ moved) [] = refl
joined_both (list ∷ lists) (more ∷ moved) (rest ∷ behind) =
    ap₂ (λ (l : List Step) (ls : List (List Step)). l ∷ ls) (append_assoc list more rest)
    (joined_both lists moved behind)

pub filled_goes_on : (keeps : Bool) (policy : Policy) (turns limit : ℕ) (m between after : Machine)
    (whole lists behind left : List (List Step)) (events more : List Event) (end : End) →
    length lists ≡ between.config.cores → length behind ≡ between.config.cores → IsAhead limit lists behind →
    EndsBy keeps step_acts policy turns m whole events between (joined lists behind) TurnsUsed →
    GoesOnBy keeps step_acts policy turns limit between lists more after left end →
    EndsBy keeps step_acts policy (turns + limit) m whole (events ++ more) after (joined left behind)
    (end_before behind end)
filled_goes_on keeps policy turns limit m between after whole lists behind left events more end one_each as_many ahead
    first second =
    let count : turns ≡ 0 + turns = omega arith in
    (goes_on_at_first step_acts keeps policy (turns + limit) m after whole (joined left behind) (events ++ more)
    (end_before behind end)).0
    (runs_on step_acts keeps turns limit m between after whole (joined lists behind) (joined left behind) events
    (end_before behind end) more policy 0
    ((goes_on_at_first step_acts keeps policy turns m between whole (joined lists behind) events TurnsUsed).1 first)
    (subst (λ (made : ℕ). GoesOnBy keeps step_acts policy made limit between (joined lists behind) more after
    (joined left behind) (end_before behind end)) count
    (steps_behind keeps policy turns limit between after lists behind left more end one_each as_many ahead second)))
