-- The lines that have fields.
use Rattle.std.specs.Prelude.{ℕ, List, [], ◌∷◌}
use Rattle.trace_lines.specs.Fields.{fields_of}

-- the fields of a line in front, if it has some
abbrev pub with_fields : List (List ℕ) → List (List (List ℕ)) → List (List (List ℕ))
with_fields [] lines = lines
with_fields (field ∷ fields) lines = (field ∷ fields) ∷ lines

-- the fields of each line that has some
unfoldable pub worded : List (List ℕ) → List (List (List ℕ))
worded [] = []
worded (line ∷ lines) = with_fields (fields_of line) (worded lines)
