-- What a condition says.
use Rattle.std.specs.Prelude.{ℕ}
use Rattle.litmus_parser.specs.declared.syntax.Name.{Name}

-- a name has a value; both hold; one of two holds
pub data Tree : Type 0 where
  Is : Name → ℕ → Tree
  Both : Tree → Tree → Tree
  Either : Tree → Tree → Tree
