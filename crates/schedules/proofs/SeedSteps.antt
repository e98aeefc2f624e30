-- A seeded schedule issues and advances a core as its program says.
use Rattle.std.proofs.Common.{◌≡◌, ◌%◌, ℕ, zero, suc, Bool, true, false, List, [], ◌∷◌, ◌++◌, length, map, get_or}
use Rattle.std.proofs.Common.{Option, Some, None, refl}
use Rattle.std.specs.List.{flat_map, range_with_len, AllByRecursion as Each}
use Rattle.rand_pcg.specs.Pcg.{pcg32}
use Rattle.physiological_order.specs.declared.operation.Op.{Op}
use Rattle.programs.specs.declared.steps.Step.{Step}
use Rattle.programs.specs.declared.steps.Step.TheVariants as step
use Rattle.machine_table.specs.declared.event.Event.TheVariants as event
use Rattle.machine_table.specs.Machine.{open_op}
use Rattle.ranked_lines.specs.Rising.{sorted}
use Rattle.interleaving_core.specs.LookUps.{entries, free_copies}
use Rattle.programs.specs.Acts.{Acts, next_in}
use Rattle.schedules.specs.Parts.{Does, Standing}
use Rattle.schedules.specs.RoundSchedule.{numbers_in_flight}
use Rattle.schedules.specs.SeedSchedule.{Choice, Makes, Evicts, Delivers, Nothing, chosen, core_step, core_steps}
use Rattle.schedules.specs.SeedSchedule.{drawn_list, seeded}
use Rattle.schedules.specs.GivenSteps.{AreGiven, GivesSteps}
use Rattle.schedules.proofs.GivenSteps.{tries_give, delivery_gives}

module _ {P : Type 0} (acts : Acts P) (s : Standing P) where
  -- an entry gives a core only what its program does
  Fits : Choice → Type 0
  Fits choice = AreGiven acts (Unit {0}) s (chosen acts choice s)

  -- each of a list does
  abbrev AllFit : List Choice → Type 0
  AllFit choices = Each Fits choices

  fit_both : (xs ys : List Choice) → AllFit xs → AllFit ys → AllFit (xs ++ ys)
  fit_both [] ys front back = back
  fit_both (x ∷ xs) ys front back = (front.0, fit_both xs ys front.1 back)

  fit_mapped : {X : Type 0} (f : X → Choice) → ((x : X) → Fits (f x)) → (xs : List X) → AllFit (map f xs)
  fit_mapped f each [] = tt
  fit_mapped f each (x ∷ xs) = (each x, fit_mapped f each xs)

  fit_pieces : {X : Type 0} (f : X → List Choice) → ((x : X) → AllFit (f x)) → (xs : List X) → AllFit (flat_map f xs)
  fit_pieces f each [] = tt
  fit_pieces f each (x ∷ xs) = fit_both (f x) (flat_map f xs) (each x) (fit_pieces f each xs)

  one_fits : (xs : List Choice) (k : ℕ) → AllFit xs → Fits (get_or xs k Nothing)
  unfolding Fits
  one_fits [] zero all = tt
  one_fits [] (suc k) all = tt
  one_fits (x ∷ xs) zero all = all.0
  one_fits (x ∷ xs) (suc k) all = one_fits xs k all.1

  step_fits : (core : ℕ) (o : Option (Op × Bool)) (next : Option Step) → open_op s.machine core ≡ o →
      next_in acts s.programs core ≡ next → AllFit (core_step core o next)
  unfolding Fits
  step_fits core None None free is = tt
  step_fits core None (Some (step.Op op)) free is = (((free, is), tt), tt)
  step_fits core None (Some step.Advance) free is = (((free, is), tt), tt)
  step_fits core (Some (op, true)) next free is = tt
  step_fits core (Some (op, false)) next free is = (tries_give acts (Unit {0}) core s, tt)

  list_fits : (k : ℕ) → AllFit (drawn_list acts s.machine s.programs k)
  unfolding Fits
  list_fits zero = fit_mapped (λ core. Makes (Does (event.Advance core))) (λ core. (tt, tt))
      (range_with_len 0 s.machine.config.cores)
  list_fits (suc zero) = fit_pieces _
      (λ core. fit_mapped (λ line. Evicts (event.EvictCache core line)) (λ line. (tt, (tt, tt)))
      (sorted (free_copies s.machine core))) (range_with_len 0 s.machine.config.cores)
  list_fits (suc (suc zero)) = fit_pieces _
      (λ bank. fit_mapped (λ line. Evicts (event.EvictBank bank line)) (λ line. (tt, (tt, tt)))
      (sorted (entries s.machine bank))) (range_with_len 0 s.machine.config.banks)
  list_fits (suc (suc (suc k))) = fit_both (core_steps acts s.machine s.programs s.machine.config.cores) _
      (fit_pieces _ (λ core. step_fits core (open_op s.machine core) (next_in acts s.programs core) refl refl)
      (range_with_len 0 s.machine.config.cores))
      (fit_mapped (λ number. Delivers number) (λ number. delivery_gives acts (Unit {0}) false number s)
      (numbers_in_flight s.machine))

  drawn_fits : (a b : ℕ) → Fits (get_or (drawn_list acts s.machine s.programs (a % 16))
      (b % length (drawn_list acts s.machine s.programs (a % 16))) Nothing)
  drawn_fits a b = one_fits (drawn_list acts s.machine s.programs (a % 16)) _ (list_fits (a % 16))

pub seeds_give_steps : {P : Type 0} (acts : Acts P) → GivesSteps acts (seeded acts)
unfolding Fits
seeds_give_steps acts generator s = drawn_fits acts s (pcg32 generator).0 (pcg32 (pcg32 generator).1).0
