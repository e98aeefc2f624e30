-- The names in a condition, each once, in the order in which they are first seen.
use Rattle.std.specs.Prelude.{List, [], ◌∷◌, ◌++◌, if◌then◌else◌}
use Rattle.std.specs.List.{list_any}
use Rattle.litmus_parser.specs.Names.{same_name}
use Rattle.litmus_parser.specs.Trees.{Tree, Is, Both, Either}
use Rattle.litmus_parser.specs.declared.syntax.Name.{Name}

abbrev pub with_name : List Name → Name → List Name
with_name names name = if list_any (λ other. same_name other name) names then names else names ++ name ∷ []

-- those of a tree after those seen before
abbrev pub seen_in : Tree → List Name → List Name
seen_in (Is name value) names = with_name names name
seen_in (Both a b) names = seen_in b (seen_in a names)
seen_in (Either a b) names = seen_in b (seen_in a names)
