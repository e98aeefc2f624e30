-- The tree that an expression stands for.
use Rattle.litmus_parser.specs.declared.syntax.Expr.{Expr}
use Rattle.litmus_parser.specs.declared.syntax.Expr.TheVariants as expr
use Rattle.litmus_parser.specs.Trees.{Tree, Is, Both, Either}

abbrev pub tree_of : Expr → Tree
tree_of (expr.Is name value) = Is name value
tree_of (expr.And' p a q b) = Both (tree_of a) (tree_of b)
tree_of (expr.Or' p a q b) = Either (tree_of a) (tree_of b)
