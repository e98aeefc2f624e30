-- The grammar of the condition, as a form. Line ends count as blanks.
use Rattle.std.specs.Prelude.{ℕ, zero, suc, ◌+◌, ◌==◌, nat_le, Bool, if◌then◌else◌, List, [], ◌∷◌, Option, Some}
use Rattle.std.specs.Prelude.{None, Result, Ok, Err, ok_or}
use Rattle.litmus_lexer.specs.declared.limits.TheConstants.{MOST_ATOMS, MOST_DEPTH}
use Rattle.litmus_lexer.specs.declared.signs.TheConstants.{CLOSING_PARENTHESIS, COLON, OPENING_PARENTHESIS}
use Rattle.litmus_lexer.specs.Pieces.{Piece, Word}
use Rattle.litmus_lexer.specs.declared.errors.Kind.{Kind}
use Rattle.litmus_lexer.specs.declared.errors.Kind.TheVariants.{TooLarge, BadCondition}
use Rattle.litmus_lexer.specs.declared.errors.Kind.TheVariants.{BadTable}
use Rattle.piece_forms.specs.Forms.{Verdict, Takes, Refuses, Form, ◌>>=◌, one, word, sign, perhaps, no_more, Gives}
use Rattle.piece_forms.specs.Forms.{is_word, is_sign, many, refused}
use Rattle.piece_forms.specs.Places.{Beyond}
use Rattle.litmus_parser.specs.Names.{Names}
use Rattle.litmus_parser.specs.Trees.{Tree, Is, Both, Either}
use Rattle.litmus_parser.specs.Words.{equals, opening}
use Rattle.litmus_parser.specs.Keywords.{quantifier_of}
use Rattle.litmus_parser.specs.declared.expressions.Connective.{Connective}
use Rattle.litmus_parser.specs.declared.expressions.Connective.TheVariants.{And, Or}
use Rattle.litmus_parser.specs.Verdicts.{Bases, value_register}
use Rattle.litmus_parser.specs.declared.items.Opening.{Opening}
use Rattle.litmus_parser.specs.declared.items.Opening.TheVariants.{OfThread, OfLocation}
use Rattle.litmus_parser.specs.declared.syntax.Name.TheVariants.{Register, Location}
use Rattle.litmus_parser.specs.declared.syntax.Quantifier.{Quantifier}

-- the locations so far, and how many atoms there are so far
abbrev pub Sight : Type 0
Sight = Names × ℕ

-- the form of a part of an expression, after what was seen so far
abbrev pub PartForm : Type 1
PartForm = Sight → Form (Tree × Sight)

-- ---- atoms

-- with it there is an atom more, of 256 at most
abbrev pub counted : ℕ → Result (Opening × Names) Kind → Verdict (Option Opening × Sight)
counted atoms (Ok x) = if nat_le MOST_ATOMS atoms then Refuses TooLarge else Takes (Some x.0, (x.1, atoms + 1))
counted atoms (Err kind) = Refuses kind

-- what a factor begins with: the name of an atom; or ( where 64 aren't open
abbrev pub start : ℕ → ℕ → Sight → Piece → Verdict (Option Opening × Sight)
start threads depth sight (Word w) = counted sight.1 (opening BadCondition threads w sight.0)
start threads depth sight piece =
    if is_sign OPENING_PARENTHESIS piece then (if depth == 0 then Refuses TooLarge else Takes (None, sight))
    else Refuses BadCondition

-- ---- expressions

-- factor := T : xR = N | L = N | "(" expr ")"
abbrev pub rest_of_factor : Bases → PartForm → Option Opening × Sight → Form (Tree × Sight)
rest_of_factor bases inner (Some (OfThread t), sight) = do
  _ ← one (sign BadCondition COLON)
  r ← one (word BadCondition (value_register bases t))
  n ← equals BadCondition
  Gives (Is (Register t r) n, sight)
rest_of_factor bases inner (Some (OfLocation l), sight) = equals BadCondition >>= λ n. Gives (Is (Location l) n, sight)
rest_of_factor bases inner (None, sight) = do
  e ← inner sight
  _ ← one (sign BadCondition CLOSING_PARENTHESIS)
  Gives e

abbrev pub sign_of : Connective → List ℕ
sign_of And = 47 ∷ 92 ∷ []
sign_of Or = 92 ∷ 47 ∷ []

abbrev pub join_of : Connective → Tree → Tree → Tree
join_of And = Both
join_of Or = Either

-- whether the connective's sign comes next
abbrev pub further : Connective → Tree × Sight → Form Bool
further connective left = perhaps Beyond (is_word (sign_of connective))

-- a further part, joined to what stands before it
abbrev pub joined : Connective → PartForm → Tree × Sight → Form (Tree × Sight)
joined connective part left = part left.1 >>= λ right. Gives (join_of connective left.0 right.0, right.1)

-- parts with the connective's sign between each two; each has an atom, so the one too many is refused first
abbrev pub chain : Connective → PartForm → PartForm
chain connective part sight = part sight >>=
    many (refused TooLarge) (further connective) (joined connective part) MOST_ATOMS

-- term := factor { /\ factor }
abbrev pub term : PartForm → PartForm
term factor = chain And factor

-- expr := term { \/ term }
abbrev pub expression : PartForm → PartForm
expression factor = chain Or (term factor)

abbrev pub factor_with : Bases → ℕ → ℕ → PartForm → PartForm
factor_with bases threads depth inner sight = one (start threads depth sight) >>= rest_of_factor bases inner

-- what stands in parentheses, with further ones at most that deep
unfoldable pub inner : Bases → ℕ → ℕ → PartForm
inner bases threads zero = refused TooLarge
inner bases threads (suc depth) = expression (factor_with bases threads depth (inner bases threads depth))

abbrev pub factor : Bases → ℕ → ℕ → PartForm
factor bases threads depth = factor_with bases threads depth (inner bases threads depth)

abbrev pub part_of : Connective → Bases → ℕ → ℕ → PartForm
part_of And bases threads depth = factor bases threads depth
part_of Or bases threads depth = chain And (factor bases threads depth)

-- condition := ( exists | ~exists | forall ) expr
-- and nothing after it
unfoldable pub condition : Bases → ℕ → Names → Form (Quantifier × Tree × Names)
condition bases threads names = do
  quantifier ← one (word BadTable (λ w. ok_or (quantifier_of w) BadTable))
  e ← expression (factor bases threads MOST_DEPTH) (names, 0)
  _ ← no_more BadCondition
  Gives (quantifier, e.0, e.1.0)
