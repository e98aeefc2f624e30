-- What the text of a litmus test says.
use Rattle.std.specs.Prelude.{ℕ, List, map}
use Rattle.litmus_parser.specs.Trees.{Tree}
use Rattle.litmus_parser.specs.declared.syntax.Item.{Item}
use Rattle.litmus_parser.specs.declared.syntax.Name.{Name}
use Rattle.litmus_parser.specs.declared.syntax.Cell.{Cell}
use Rattle.litmus_parser.specs.declared.syntax.Setting.{Setting}
use Rattle.litmus_parser.specs.declared.syntax.Quantifier.{Quantifier}

-- items without their lines
abbrev pub settings_of : List Item → List (Name × Setting)
settings_of = map (λ item. (item.name, item.setting))

pub record Litmus : Type 0 where
  pub name : List ℕ
  -- in the order in which they are first named: a location's number is its index
  pub locations : List (List ℕ)
  -- what the initial block sets, in its order
  pub items : List (Name × Setting)
  pub threads : ℕ
  -- the instructions with their threads, row by row
  pub cells : List Cell
  pub quantifier : Quantifier
  pub tree : Tree
  -- the names in the condition, in the order in which they are first seen
  pub seen : List Name
