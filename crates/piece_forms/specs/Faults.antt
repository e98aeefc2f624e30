-- Why pieces don't stand in a form: the place that refuses what comes next, or all that follows, or has a known fault.
use Rattle.std.specs.Prelude.{◌≡◌, ℕ, ◌⊎◌, Bool, true, false, List, ◌++◌, Err}
use Rattle.litmus_lexer.specs.Pieces.{Piece}
use Rattle.litmus_lexer.specs.declared.errors.Kind.{Kind}
use Rattle.litmus_lexer.specs.declared.errors.LitmusError.{LitmusError}
use Rattle.litmus_lexer.specs.Reading.{fault_at}
use Rattle.piece_forms.specs.Places.{first_piece, seen, from, line_of}
use Rattle.piece_forms.specs.Forms.{Refuses, Form, Gives, At, Test, Line, Known, InOrder, said, Stands}

-- pieces that begin in this line stand in a form up to there, where it refuses the first piece, or the end, or all that
-- follows, by the fault's kind and in its line; or by what is known there
abbrev pub IsRefused : {A : Type 0} → Form A → ℕ → List Piece → LitmusError → List Piece → Bool → Type 0
IsRefused (Gives x) line pieces e there all = ⊥
IsRefused (At place look end) line pieces e there all = (said look end (seen place pieces) ≡ Refuses e.kind) ×
    (line_of place line pieces ≡ e.line) × (from place pieces ≡ there) × (all ≡ false)
IsRefused (Test holds kind) line pieces e there all =
    (holds pieces ≡ false) × (fault_at kind line ≡ e) × (pieces ≡ there) × (all ≡ true)
IsRefused Line line pieces e there all = ⊥
IsRefused (Known known) line pieces e there all = (known ≡ Err e) × (pieces ≡ there) × (all ≡ false)
IsRefused (InOrder {A = Y} f g) line pieces e there all = IsRefused f line pieces e there all
    ⊎ ((y : Y) × (m : ℕ) × (middle : List Piece) × Stands f line pieces y m middle ×
    IsRefused (g y) m middle e there all)

-- other pieces have what is refused there
abbrev pub HasSame : Bool → List Piece → List Piece → Type 0
HasSame true there others = there ≡ others
HasSame false there others = first_piece there ≡ first_piece others

-- the cause of a fault of this kind in line n: that place refuses it, and whatever follows what is refused there, the
-- pieces don't stand in the form
pub record Cause {A : Type 0} (form : Form A) (line : ℕ) (pieces : List Piece) (kind : Kind) (n : ℕ) : Type 0 where
  pub front : List Piece
  pub there : List Piece
  pub all : Bool
  pub split : pieces ≡ front ++ there
  pub refused : IsRefused form line pieces (fault_at kind n) there all
  pub no_way : (others : List Piece) → HasSame all there others
      → (x : A) (m : ℕ) (rest : List Piece) → Stands form line (front ++ others) x m rest → ⊥
