-- Runs of lists of steps with more behind them, and runs that go on where others ended.
use Rattle.std.specs.Prelude.{◌≡◌, ◌⊎◌, ◌==◌, ℕ, ◌≤◌, Bool, List, [], ◌++◌, length, map, get_or}
use Rattle.std.specs.Prelude.{if◌then◌else◌}
use Rattle.std.specs.List.{list_all, zip}
use Rattle.machine_table.specs.declared.event.Event.{Event}
use Rattle.machine_table.specs.Machine.{Machine}
use Rattle.programs.specs.declared.ends.End.{End}
use Rattle.programs.specs.declared.ends.End.TheVariants.{AllDone, TurnsUsed}
use Rattle.programs.specs.declared.steps.Step.{Step}
use Rattle.programs.specs.Acts.{Acts, first_step, behind_first}
use Rattle.schedules.specs.declared.policy.Policy.{Policy}
use Rattle.schedules.specs.Paces.{GoesOnFrom, paced}

-- a list of steps is a program that does its head and goes on with its tail
abbrev pub step_acts : Acts (List Step)
step_acts = record { next = first_step; done = behind_first }

-- each list, with what stands behind it
abbrev pub joined : List (List Step) → List (List Step) → List (List Step)
joined lists behind = map (λ (both : List Step × List Step). both.0 ++ both.1) (zip lists behind)

-- for each core, nothing stands behind its list, or the list has a step for each of so many turns
abbrev pub IsAhead : ℕ → List (List Step) → List (List Step) → Type 0
IsAhead turns lists behind = (core : ℕ) → (get_or behind core [] ≡ []) ⊎ (turns ≤ length (get_or lists core []))

-- the end where so much stands behind the lists: all is done only if that is nothing
abbrev pub end_before : List (List Step) → End → End
end_before behind AllDone = if list_all (λ steps. length steps == 0) behind then AllDone else TurnsUsed
end_before behind end = end

-- as EndsBy, of a run that goes on after so many turns by the policy: a round is as the first one was, and the words
-- that a seeded run drew in those turns aren't drawn again
abbrev pub GoesOnBy : {P : Type 0} → Bool → Acts P → Policy → ℕ → ℕ → Machine → List P → List Event → Machine →
    List P → End → Type 0
GoesOnBy keeps acts policy turns = GoesOnFrom keeps acts (paced policy turns)
