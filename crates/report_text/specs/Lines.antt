-- The lines, or members, that only this text has.
use Rattle.std.specs.Prelude.{ℕ, Bool, true, false, List, [], ◌∷◌, ◌++◌, Option, Some, None, codes, decimal, slice_get}
use Rattle.litmus_parser.specs.declared.syntax.Name.{Name}
use Rattle.litmus_parser.specs.declared.syntax.Name.TheVariants.{Register, Location}
use Rattle.litmus_parser.specs.declared.syntax.Quantifier.{Quantifier}
use Rattle.litmus_parser.specs.declared.syntax.Quantifier.TheVariants.{Exists, NotExists, Forall}
use Rattle.litmus_reader.specs.Litmus.{Litmus}
use Rattle.report_lines.specs.declared.layout.Layout.{Layout}
use Rattle.report_lines.specs.Layouts.{either, parting}
use Rattle.report_lines.specs.Members.{newline}

abbrev pub quantifier_text : Quantifier → List ℕ
quantifier_text Exists = codes "exists"
quantifier_text NotExists = codes "~exists"
quantifier_text Forall = codes "forall"

-- T:xR
abbrev pub register_text : ℕ → ℕ → List ℕ
register_text thread register = decimal thread ++ codes ":x" ++ decimal register

abbrev pub or_nothing : Option (List ℕ) → List ℕ
or_nothing (Some name) = name
or_nothing None = []

-- a name of the condition, where these are the names of the locations
abbrev pub name_text : List (List ℕ) → Name → List ℕ
name_text locations (Register thread register) = register_text thread register
name_text locations (Location number) = or_nothing (slice_get locations number)

-- a name of the condition and its value: in a line behind a space
abbrev pub value_text : Layout → List (List ℕ) → Name → ℕ → List ℕ
value_text layout locations name value = either layout (codes " ") (codes "\"") ++ name_text locations name
    ++ either layout (codes "=") (codes "\":") ++ decimal value

-- the names with their values, in order
abbrev pub values_text : Layout → List (List ℕ) → (first : Bool) → List Name → List ℕ → List ℕ
values_text layout locations first (name ∷ names) (value ∷ values) = parting layout first
    ++ value_text layout locations name value ++ values_text layout locations false names values
values_text layout locations first names values = []

-- the names of a test's condition with their values
abbrev pub named_values : Layout → Litmus → List ℕ → List ℕ
named_values layout test values = values_text layout test.locations true test.seen values

-- before the values of an end state: how often it occurred
unfoldable pub times_text : Layout → ℕ → List ℕ
times_text layout count = either layout [] (codes "{\"count\":") ++ decimal count
    ++ either layout [] (codes ",\"values\":{")

-- an end state: how often it occurred, and its values
unfoldable pub state_text : Layout → Litmus → ℕ × List ℕ → List ℕ
state_text layout test state =
    times_text layout state.0 ++ named_values layout test state.1 ++ either layout newline (codes "}}")
