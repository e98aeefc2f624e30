-- What the parts of a turn make gives a core only what its program does next.
use Rattle.std.proofs.Common.{ℕ, Bool, true, false, List, [], ◌∷◌, ◌++◌, Option, Some, None, ◌&&◌}
use Rattle.machine_table.specs.declared.event.Event.TheVariants as event
use Rattle.machine_table.specs.Machine.{open_op}
use Rattle.machine_table.specs.Transition.{transition}
use Rattle.interleaving_core.specs.LookUps.{victim_for_core, make_room}
use Rattle.programs.specs.Acts.{Acts}
use Rattle.schedules.specs.Parts.{Action, Does, Standing, Part, after_action, after_actions, followed_by, for_each}
use Rattle.schedules.specs.Parts.{one, only_if, copy_leaves, makes_place, finds_no_place, tries, line_leaves}
use Rattle.schedules.specs.Parts.{makes_room}
use Rattle.schedules.specs.Parts.{delivery, is_evicted, is_held}
use Rattle.schedules.specs.GivenSteps.{AreGiven, Gives}

module _ {P : Type 0} (acts : Acts P) (Draws : Type 0) where
  given_both : (s : Standing P) (xs ys : List Action) → AreGiven acts Draws s xs →
      AreGiven acts Draws (after_actions acts s xs) ys → AreGiven acts Draws s (xs ++ ys)
  given_both s [] ys front back = back
  given_both s (x ∷ xs) ys front back = (front.0, given_both (after_action acts s x) xs ys front.1 back)

  pub gives_then : (f g : Part P) → Gives acts Draws f → Gives acts Draws g → Gives acts Draws (followed_by acts f g)
  gives_then f g first second s =
      given_both s (f s) (g (after_actions acts s (f s))) (first s) (second (after_actions acts s (f s)))

  pub gives_each : (part : ℕ → Part P) → ((n : ℕ) → Gives acts Draws (part n)) → (numbers : List ℕ) →
      Gives acts Draws (for_each acts part numbers)
  gives_each part each [] s = tt
  gives_each part each (n ∷ numbers) s =
      gives_then (part n) (for_each acts part numbers) (each n) (gives_each part each numbers) s

  pub gives_if : (b : Bool) (f : Part P) → Gives acts Draws f → Gives acts Draws (only_if b f)
  gives_if true f gives s = gives s
  gives_if false f gives s = tt

  copy_gives : (core : ℕ) (o : Option ℕ) (s : Standing P) → AreGiven acts Draws s (copy_leaves core o s)
  copy_gives core None s = tt
  copy_gives core (Some line) s = (tt, tt)

  pub tries_give : (core : ℕ) → Gives acts Draws (tries acts core)
  tries_give core s =
      gives_then (one (Does (event.Attempt core))) (only_if (finds_no_place s.machine core) (makes_place core))
      (λ t. (tt, tt)) (gives_if (finds_no_place s.machine core) (makes_place core)
      (λ t. copy_gives core (victim_for_core t.machine core (open_op t.machine core)) t)) s

  line_gives : (fair : Bool) (number : ℕ) (o : Option (ℕ × ℕ)) → Gives acts Draws (line_leaves acts fair number o)
  line_gives fair number None s = tt
  line_gives fair number (Some x) s =
      let again = fair && is_evicted (transition s.machine (event.EvictBank x.0 x.1)).0 in
      gives_then (one (Does (event.EvictBank x.0 x.1))) (only_if again (one (Does (event.Deliver number))))
      (λ t. (tt, tt)) (gives_if again (one (Does (event.Deliver number))) (λ t. (tt, tt))) s

  pub delivery_gives : (fair : Bool) (number : ℕ) → Gives acts Draws (delivery acts fair number)
  delivery_gives fair number s =
      let held = is_held (transition s.machine (event.Deliver number)).0 in
      gives_then (one (Does (event.Deliver number))) (only_if held (makes_room acts fair number)) (λ t. (tt, tt))
      (gives_if held (makes_room acts fair number)
      (λ t. line_gives fair number (make_room t.machine number) t)) s
