-- What stands in front of a place.
use Rattle.std.proofs.Common.{◌≡◌, ℕ, ◌+◌, List, [], ◌∷◌, ◌++◌, Option, Some, refl, sym, ap, subst, ◌∙◌, arith}
use Rattle.litmus_lexer.specs.Pieces.{Piece, Word, Sign, LineEnd}
use Rattle.litmus_lexer.specs.Positions.{past_line_ends, line_after}
use Rattle.piece_forms.specs.Places.{Where, Beyond, InLine, from_next, ends_ahead, first_piece}
use Rattle.piece_forms.specs.Places.{seen, behind, line_behind, from, line_of}

pub first-append : (front u v : List Piece) → first_piece u ≡ first_piece v → first_piece (front ++ u) ≡
    first_piece (front ++ v)
first-append [] u v e = e
first-append (p ∷ front) u v e = refl

-- the front with the piece that is seen, whatever follows it
pub record Over (place : Where) (pieces : List Piece) (piece : Piece) : Type 0 where
  pub front : List Piece
  pub split : pieces ≡ front ++ behind place pieces
  pub next : (u : List Piece) → seen place (front ++ u) ≡ Some piece
  pub behind_is : (u : List Piece) → behind place (front ++ u) ≡ u
  pub ends : (line : ℕ) (u : List Piece) → line_behind place line pieces ≡ line_behind place line (front ++ u)

one-more : (line a b : ℕ) → line + a ≡ line + b → line + (1 + a) ≡ line + (1 + b)
one-more line a b e = omega (arith, e)

pub over : (place : Where) (pieces : List Piece) (piece : Piece) → seen place pieces ≡ Some piece →
    Over place pieces piece
unfolding from_next ends_ahead
over Beyond [] piece e = absurd cc
over Beyond (LineEnd ∷ pieces) piece e =
    let o = over Beyond pieces piece e in
    record {
      front = LineEnd ∷ o.front;
      split = ap (λ f. LineEnd ∷ f) o.split;
      next = o.next;
      behind_is = o.behind_is;
      ends = λ line u. one-more line (ends_ahead pieces) (ends_ahead (o.front ++ u)) (o.ends line u);
    }
over Beyond (Word w ∷ pieces) piece e =
    record { front = Word w ∷ []; split = refl; next = λ u. e; behind_is = λ u. refl; ends = λ line u. refl }
over Beyond (Sign b ∷ pieces) piece e =
    record { front = Sign b ∷ []; split = refl; next = λ u. e; behind_is = λ u. refl; ends = λ line u. refl }
over InLine [] piece e = absurd cc
over InLine (LineEnd ∷ pieces) piece e =
    record { front = LineEnd ∷ []; split = refl; next = λ u. e; behind_is = λ u. refl; ends = λ line u. refl }
over InLine (Word w ∷ pieces) piece e =
    record { front = Word w ∷ []; split = refl; next = λ u. e; behind_is = λ u. refl; ends = λ line u. refl }
over InLine (Sign b ∷ pieces) piece e =
    record { front = Sign b ∷ []; split = refl; next = λ u. e; behind_is = λ u. refl; ends = λ line u. refl }

-- the front before it, whatever follows that begins with it
pub record UpTo (place : Where) (pieces : List Piece) : Type 0 where
  pub front : List Piece
  pub split : pieces ≡ front ++ from place pieces
  pub same : (line : ℕ) (u : List Piece) → first_piece (from place pieces) ≡ first_piece u →
      (seen place (front ++ u) ≡ seen place pieces) × (from place (front ++ u) ≡ u) ×
      (line_of place line (front ++ u) ≡ line_of place line pieces)

abbrev IsNext : Option Piece → Type 0
IsNext (Some LineEnd) = ⊥
IsNext first = Unit {0}

begins : (pieces : List Piece) → IsNext (first_piece pieces) → (from_next pieces ≡ pieces) × (ends_ahead pieces ≡ 0)
unfolding from_next ends_ahead
begins [] h = (refl, refl)
begins (LineEnd ∷ pieces) h = absurd h
begins (Word w ∷ pieces) h = (refl, refl)
begins (Sign b ∷ pieces) h = (refl, refl)

begun : (pieces : List Piece) → IsNext (first_piece pieces) → UpTo Beyond pieces
begun pieces h =
    let p = begins pieces h in
    record {
      front = [];
      split = sym p.0;
      same = λ line u e.
          let q = begins u (subst IsNext (ap first_piece (sym p.0) ∙ e) h) in
          (ap first_piece q.0 ∙ sym e, q.0, omega (arith, p.1, q.1));
    }

pub up-to : (place : Where) (pieces : List Piece) → UpTo place pieces
unfolding from_next ends_ahead
up-to InLine pieces = record { front = []; split = refl; same = λ line u e. (sym e, refl, refl) }
up-to Beyond [] = begun [] tt
up-to Beyond (LineEnd ∷ pieces) =
    let o = up-to Beyond pieces in
    record {
      front = LineEnd ∷ o.front;
      split = ap (λ f. LineEnd ∷ f) o.split;
      same = λ line u e.
          let s = o.same line u e in
          (s.0, s.1, one-more line (ends_ahead (o.front ++ u)) (ends_ahead pieces) s.2);
    }
up-to Beyond (Word w ∷ pieces) = begun (Word w ∷ pieces) tt
up-to Beyond (Sign b ∷ pieces) = begun (Sign b ∷ pieces) tt

-- ---- the next piece behind line ends, as the code finds it

pub next-line : (line : ℕ) (pieces rest : List Piece) (piece : Piece) → from_next pieces ≡ piece ∷ rest →
    line_after piece line ≡ line
unfolding from_next
next-line line pieces rest (Word w) e = refl
next-line line pieces rest (Sign b) e = refl
next-line line [] rest LineEnd e = absurd cc
next-line line (LineEnd ∷ pieces) rest LineEnd e = next-line line pieces rest LineEnd e
next-line line (Word w ∷ pieces) rest LineEnd e = absurd cc
next-line line (Sign b ∷ pieces) rest LineEnd e = absurd cc

pub from-past : (line : ℕ) (pieces : List Piece) →
    ((past_line_ends line pieces).pieces ≡ from_next pieces) × ((past_line_ends line pieces).line ≡
    line + ends_ahead pieces)
unfolding past_line_ends from_next ends_ahead
from-past line [] = (refl, omega arith)
from-past line (LineEnd ∷ pieces) = let n = from-past (line + 1) pieces in (n.0, omega (arith, n.1))
from-past line (Word w ∷ pieces) = (refl, omega arith)
from-past line (Sign b ∷ pieces) = (refl, omega arith)
