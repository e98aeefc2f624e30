-- What a litmus test opens with, by its items one by one, without the recursions that take them in turn.
use Rattle.std.specs.Prelude.{◌≡◌, ℕ, length, Some, slice_get}
use Rattle.litmus_parser.specs.declared.syntax.Name.{Name}
use Rattle.litmus_parser.specs.declared.syntax.Name.TheVariants.{Register, Location}
use Rattle.litmus_parser.specs.declared.syntax.Setting.TheVariants.{Number}
use Rattle.litmus_reader.specs.Litmus.{Litmus}
use Rattle.litmus_reader.specs.ThreadSteps.{register_value}
use Rattle.sequential_machine.specs.SequentialMachine.{registers_opened, memory_opened}

-- an item sets the name to the number
abbrev pub Sets : Litmus → Name → ℕ → Type 0
Sets test name number = (i : ℕ) × (slice_get test.items i ≡ Some (name, Number number))

-- A register of a thread holds the number to which an item sets it, and a location's word is the number to which an
-- item sets it. All else is 0: registers that no item sets, those that one sets to a location, x0, and words of
-- locations that no item sets.
pub record OpensAsSet (test : Litmus) : Type 0 where
  pub register_count : (t : ℕ) → length (registers_opened test t) ≡ 32
  pub register_set : (t r n : ℕ) → Sets test (Register t r) n → register_value (registers_opened test t) r ≡ n
  pub register_unset : (t r : ℕ) → ((n : ℕ) → Sets test (Register t r) n → ⊥) →
      register_value (registers_opened test t) r ≡ 0
  pub location_set : (l n : ℕ) → Sets test (Location l) n → memory_opened test l ≡ n
  pub location_unset : (l : ℕ) → ((n : ℕ) → Sets test (Location l) n → ⊥) → memory_opened test l ≡ 0
