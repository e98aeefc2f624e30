-- The words with which a condition begins.
use Rattle.std.specs.Prelude.{ℕ, if◌then◌else◌, List, Option, Some, None, codes}
use Rattle.std.specs.Str.{bytes_eq}
use Rattle.litmus_parser.specs.declared.syntax.Quantifier.{Quantifier}
use Rattle.litmus_parser.specs.declared.syntax.Quantifier.TheVariants.{Exists, NotExists, Forall}

-- what a keyword asks
abbrev pub quantifier_of : List ℕ → Option Quantifier
quantifier_of w =
    if bytes_eq w (codes "exists") then Some Exists
    else if bytes_eq w (codes "~exists") then Some NotExists
    else if bytes_eq w (codes "forall") then Some Forall
    else None
