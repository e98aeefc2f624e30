-- What the steps of reading a table give, by their parts.
use Rattle.std.proofs.Common.{◌≡◌, ℕ, true, List, Result, Ok, Err, refl, ap}
use Rattle.litmus_lexer.specs.Pieces.{Piece}
use Rattle.litmus_lexer.specs.declared.errors.Kind.{Kind}
use Rattle.litmus_lexer.specs.declared.errors.ReadError.{ReadError}
use Rattle.litmus_lexer.specs.declared.errors.ReadError.TheVariants.{Memory, Fault}
use Rattle.litmus_lexer.specs.Reading.{Fails, fault_at}
use Rattle.text_lines.specs.Reading.{◌>>=◌}
use Rattle.piece_forms.specs.Forms.{Gives, turn}
use Rattle.piece_forms.specs.Reading.{reads, judged}
use Rattle.litmus_parser.specs.Verdicts.{Bases}
use Rattle.litmus_parser.specs.Table.{Rows, column}

module _ (bases : Bases) (threads : ℕ) (c : ℕ × Rows) (line : ℕ) (pieces : List Piece) where
  pub column-goes : (x : (ℕ × Rows) × ℕ × List Piece) → reads (column bases threads c) line pieces ≡ Ok x →
      reads (turn (λ c. Gives true) (column bases threads) c) line pieces ≡ Ok ((true, x.0), x.1, x.2)
  column-goes x e = rw e refl

  pub column-fails : (e : ReadError) → Fails e (reads (column bases threads c) line pieces) →
      Fails e (reads (turn (λ c. Gives true) (column bases threads) c) line pieces)
  column-fails Memory h = tt
  column-fails (Fault f) h = rw h refl

-- the fourth of four tests fails
pub fourth-fails : {A B C D Y : Type 0} (a : Result A Kind) (b : Result B Kind) (c : Result C Kind) (d : Result D Kind)
    (f : A → B → C → D → Y) (line : ℕ) (w : A) (x : B) (y : C) (e : ReadError) → judged a line ≡ Ok w →
    judged b line ≡ Ok x → judged c line ≡ Ok y → Fails e (judged d line) →
    Fails e (judged (a >>= λ w. b >>= λ x. c >>= λ y. d >>= λ z. Ok (f w x y z)) line)
fourth-fails a b c d f line w x y Memory ga gb gc h = tt
fourth-fails (Ok v) (Ok u) (Ok t) (Err kind) f line w x y (Fault g) ga gb gc h =
    let same : fault_at kind line ≡ g = cc in ap Err same
fourth-fails (Ok v) (Ok u) (Ok t) (Ok z) f line w x y (Fault g) ga gb gc h = absurd cc
fourth-fails (Ok v) (Ok u) (Err kind) d f line w x y (Fault g) ga gb gc h = absurd cc
fourth-fails (Ok v) (Err kind) c d f line w x y (Fault g) ga gb gc h = absurd cc
fourth-fails (Err kind) b c d f line w x y (Fault g) ga gb gc h = absurd cc
