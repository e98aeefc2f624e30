-- End states, and the truth of an expression in them.
use Rattle.std.specs.Prelude.{ℕ, ◌==◌, ◌&&◌, ◌||◌, Bool, if◌then◌else◌, List, ◌∷◌, slice_get}
use Rattle.std.specs.Prelude.{unwrap_or}
use Rattle.std.specs.Option.{option_map_or}
use Rattle.litmus_parser.specs.Names.{same_name}
use Rattle.litmus_parser.specs.Trees.{Tree, Is, Both, Either}
use Rattle.litmus_parser.specs.declared.syntax.Name.{Name}
use Rattle.litmus_parser.specs.declared.syntax.Name.TheVariants.{Register, Location}
use Rattle.litmus_reader.specs.ThreadSteps.{Thread, register_value}

-- a register's value in its thread, or a location's in memory
abbrev pub end_value : List Thread → List ℕ → Name → ℕ
end_value threads memory (Register t r) =
    option_map_or (λ thread. register_value thread.registers r) (slice_get threads t) 0
end_value threads memory (Location l) = unwrap_or (slice_get memory l) 0

-- the value at the first index of a name
unfoldable pub value_of : List Name → List ℕ → Name → ℕ
value_of (other ∷ names) (value ∷ values) name = if same_name other name then value else value_of names values name
value_of names values name = 0

-- the truth of an expression, given the value of each name
abbrev pub holds : (Name → ℕ) → Tree → Bool
holds value (Is name n) = value name == n
holds value (Both a b) = holds value a && holds value b
holds value (Either a b) = holds value a || holds value b
