-- What the steps of reading a condition give, by their tests.
use Rattle.std.proofs.Common.{◌≡◌, ℕ, zero, suc, ◌+◌, ◌-◌, ◌<◌, Bool, true, false, cond, leb, List}
use Rattle.std.proofs.Common.{Option, Some, None, Result, Ok, Err, refl, ap, subst, ◌∙◌, arith}
use Rattle.litmus_lexer.specs.Pieces.{Piece, Word}
use Rattle.litmus_lexer.specs.declared.errors.Kind.{Kind}
use Rattle.litmus_lexer.specs.declared.errors.Kind.TheVariants.{TooLarge, BadCondition}
use Rattle.litmus_lexer.specs.declared.errors.LitmusError.{LitmusError}
use Rattle.litmus_lexer.specs.declared.errors.ReadError.{ReadError}
use Rattle.litmus_lexer.specs.declared.errors.ReadError.TheVariants.{Memory, Fault}
use Rattle.text_lines.specs.Reading.{◌>>=◌}
use Rattle.litmus_lexer.specs.Reading.{Fails, fails, fault_at}
use Rattle.piece_forms.specs.Places.{Beyond, seen, behind, ends_ahead}
use Rattle.piece_forms.specs.Forms.{Takes, Refuses, taken, word, one, sign}
use Rattle.piece_forms.specs.Reading.{decided, judged, reads}
use Rattle.litmus_parser.specs.Names.{Names}
use Rattle.litmus_parser.specs.Condition.{Sight, counted, start, chain, part_of, inner}
use Rattle.litmus_parser.specs.Condition.{factor}
use Rattle.litmus_parser.specs.Verdicts.{Bases}
use Rattle.litmus_parser.specs.Words.{opening}
use Rattle.litmus_parser.specs.declared.items.Opening.{Opening}
use Rattle.litmus_parser.specs.declared.expressions.Connective.TheVariants.{Or}
use Rattle.litmus_parser.specs.Trees.{Tree}

fails-on : {A B : Type 0} (e : ReadError) (r : Result A LitmusError) (g : A → Result B LitmusError)
    (total : Result B LitmusError) → Fails e r → total ≡ (r >>= g) → Fails e total
fails-on Memory r g total h a = tt
fails-on (Fault f) r g total h a = a ∙ ap (λ x. x >>= g) h

taken-fails : {A : Type 0} (r : Result A Kind) (line : ℕ) (pieces : List Piece) (e : ReadError) →
    Fails e (judged r (line + ends_ahead pieces)) → Fails e (decided Beyond (taken r) line pieces)
taken-fails r line pieces Memory h = tt
taken-fails (Ok x) line pieces (Fault f) h = absurd cc
taken-fails (Err kind) line pieces (Fault f) h =
    let same : fault_at kind (line + ends_ahead pieces) ≡ f = cc in ap Err same

-- the test of the next word fails
pub word-fails : {A : Type 0} (kind : Kind) (test : List ℕ → Result A Kind) (line : ℕ) (pieces : List Piece)
    (w : List ℕ) (at : ℕ) → seen Beyond pieces ≡ Some (Word w) → at ≡ line + ends_ahead pieces → (e : ReadError) →
    Fails e (judged (test w) at) → Fails e (reads (one (word kind test)) line pieces)
word-fails kind test line pieces w at next at_is e h =
    rw next (taken-fails (test w) line pieces e (subst (λ n. Fails e (judged (test w) n)) at_is h))

-- one atom more, or one too many
counted-as : ℕ → Opening × Names → ℕ → List Piece → Result ((Option Opening × Sight) × ℕ × List Piece) LitmusError
counted-as atoms x at rest = cond (leb 256 atoms) (fails TooLarge at) (Ok ((Some x.0, (x.1, atoms + 1)), at, rest))

counted-cases : (full : Bool) (x : Option Opening × Sight) (line : ℕ) (pieces : List Piece) →
    decided Beyond (cond full (Refuses TooLarge) (Takes x)) line pieces ≡
    cond full (fails TooLarge (line + ends_ahead pieces)) (Ok (x, line + ends_ahead pieces, behind Beyond pieces))
counted-cases true x line pieces = refl
counted-cases false x line pieces = refl

counted-read : (r : Result (Opening × Names) Kind) (atoms line : ℕ) (pieces : List Piece) →
    decided Beyond (counted atoms r) line pieces ≡ (judged r (line + ends_ahead pieces) >>= λ x.
    counted-as atoms x (line + ends_ahead pieces) (behind Beyond pieces))
unfolding counted-as
counted-read (Ok x) atoms line pieces = counted-cases (leb 256 atoms) (Some x.0, (x.1, atoms + 1)) line pieces
counted-read (Err kind) atoms line pieces = refl

-- an atom begins here, and these lines and pieces follow
module _ (threads depth atoms line : ℕ) (names : Names) (pieces : List Piece) (w : List ℕ) (at : ℕ)
    (rest : List Piece) (next : seen Beyond pieces ≡ Some (Word w)) (at_is : at ≡ line + ends_ahead pieces)
    (rest_is : rest ≡ behind Beyond pieces) where
  start-is : reads (one (start threads depth (names, atoms))) line pieces ≡
      (judged (opening BadCondition threads w names) at >>= λ x. counted-as atoms x at rest)
  start-is = rw (next, at_is, rest_is) (counted-read (opening BadCondition threads w names) atoms line pieces)

  pub start-fails : (e : ReadError) → Fails e (judged (opening BadCondition threads w names) at) →
      Fails e (reads (one (start threads depth (names, atoms))) line pieces)
  start-fails e h =
      fails-on e (judged (opening BadCondition threads w names) at) (λ x. counted-as atoms x at rest)
      (reads (one (start threads depth (names, atoms))) line pieces) h start-is

-- after ( and an expression no ) follows
pub paren-fails : (bases : Bases) (threads depth : ℕ) (s t u : Sight) (tree : Tree) (line l m : ℕ)
    (pieces ps qs : List Piece) (e : ReadError) → 0 < depth
    → reads (one (start threads depth s)) line pieces ≡ Ok ((None, t), l, ps)
    → reads (chain Or (part_of Or bases threads (depth - 1)) t) l ps ≡ Ok ((tree, u), m, qs)
    → Fails e (reads (one (sign BadCondition 41)) m qs) → Fails e (reads (factor bases threads depth s) line pieces)
unfolding inner
paren-fails bases threads zero s t u tree line l m pieces ps qs e deep h k f = absurd (omega (arith, deep))
paren-fails bases threads (suc depth) s t u tree line l m pieces ps qs Memory deep h k f = tt
paren-fails bases threads (suc depth) s t u tree line l m pieces ps qs (Fault d) deep h k f =
    let one_less : suc depth - 1 ≡ depth = omega arith in
    let below : reads (chain Or (part_of Or bases threads depth) t) l ps ≡ Ok ((tree, u), m, qs) =
    subst (λ (n : ℕ). reads (chain Or (part_of Or bases threads n) t) l ps ≡ Ok ((tree, u), m, qs)) one_less k in
    rw (h, below, f) refl
