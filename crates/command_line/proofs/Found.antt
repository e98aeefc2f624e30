-- The subcommand that was found is the one that the words name, and words are refused only where they aren't taken.
use Rattle.std.proofs.Common.{◌≡◌, true, List, Option, Some, None, refl, sym, ap, ◌∙◌, subst, [], inl, inr}
use Rattle.std.specs.Prelude.{option_map}
use Rattle.clap.specs.Words.{App, HasMatchesOf, Row, Text, is_simple, subcommand_of}
use Rattle.clap.specs.Words.{subcommand_rows_of, subcommand_name_of, HasKind, IsAmong, fault_of, is_simple_and_free}
use Rattle.clap.specs.Words.{kind_of}
use Rattle.clap.specs.declared.error.Error.{Error}
use Rattle.clap.specs.declared.error.kind.ErrorKind.TheVariants.{OutOfMemory}
use Rattle.clap.specs.declared.parser.matches.ArgMatches.{ArgMatches}
use Rattle.clap.proofs.OnLiterals.{clap_on_literals}
use Rattle.command_line.specs.App.{NameSchedules, Parsers, tardis_app}
use Rattle.command_line.specs.Job.{AreTaken}

simple : (p : Parsers) → is_simple (tardis_app p) ≡ true
unfolding clap_on_literals
simple p = refl

both_known : {A : Type 0} (o : Option A) (name : A → Text) (rows : A → List Row) (n : Text) (r : List Row) →
    Some n ≡ option_map name o → Some r ≡ option_map (λ (p : Text × List Row). p.1) (option_map {U = Text × List Row}
    (λ b. (name b, rows b)) o)
    → option_map {U = Text × List Row} (λ b. (name b, rows b)) o ≡ Some (n, r)
both_known None name rows n r e f = absurd cc
both_known (Some b) name rows n r e f = let x : n ≡ name b = cc in let y : r ≡ rows b = cc in rw (x, y) refl

pub found_is : (a : App) (p : Parsers) (words : List Text) (m : ArgMatches) (n : Text) (r : List Row) →
    a ≡ tardis_app p → HasMatchesOf a words m → Some n ≡ subcommand_name_of m
    → Some r ≡ option_map (λ (p : Text × List Row). p.1) (subcommand_rows_of m) → subcommand_of (tardis_app p)
    words ≡ Some (n, r)
found_is a p words m n r e h f g =
    let matches = h (ap is_simple e ∙ simple p) in
    ap (λ (b : App). subcommand_of b words) (sym e) ∙ sym matches.1 ∙ both_known _ _ _ n r f g

free : (p : Parsers) → is_simple_and_free (tardis_app p) ≡ true
unfolding clap_on_literals
free p = refl

pub no_fault : (a : App) (p : Parsers) (words : List Text) → a ≡ tardis_app p →
    (is_simple_and_free a ≡ true → fault_of a words ≡ []) → fault_of (tardis_app p) words ≡ []
no_fault a p words e given = ap (λ (b : App). fault_of b words) (sym e) ∙ given (ap is_simple_and_free e ∙ free p)

pub are_taken : (a : App) (p : Parsers) (words : List Text) (m : ArgMatches) (n : Text) (r : List Row) →
    NameSchedules p → a ≡ tardis_app p → (is_simple_and_free a ≡ true → fault_of a words ≡ []) → HasMatchesOf a words m
    → Some n ≡ subcommand_name_of m
    → Some r ≡ option_map (λ (p : Text × List Row). p.1) (subcommand_rows_of m) → AreTaken words (n, r)
are_taken a p words m n r names e given matches f g =
    (p, names, no_fault a p words e given, found_is a p words m n r e matches f g)

pub has_fault : (a : App) (p : Parsers) (words : List Text) (error : Error) → a ≡ tardis_app p →
    (is_simple_and_free a ≡ true → HasKind (fault_of a words) error) → (kind_of error ≡ OutOfMemory → ⊥) →
    IsAmong (kind_of error) (fault_of (tardis_app p) words)
has_fault a p words error e given other = elim (given (ap is_simple_and_free e ∙ free p)) [
  | inl memory ↦ absurd (other memory)
  | inr kind ↦ subst (λ (b : App). IsAmong (kind_of error) (fault_of b words)) e kind
]
