-- A loop over the steps of a form: what is left to read is what all of it reads as.
use Rattle.std.proofs.Common.{◌≡◌, ℕ, suc, ◌+◌, ◌-◌, ◌<◌, ◌≤◌, Bool, true, false, List, Ok, Err, refl, sym}
use Rattle.std.proofs.Common.{◌∙◌, arith}
use Rattle.litmus_lexer.specs.Pieces.{Piece}
use Rattle.litmus_lexer.specs.declared.errors.ReadError.{ReadError}
use Rattle.litmus_lexer.specs.declared.errors.ReadError.TheVariants.{Memory, Fault}
use Rattle.litmus_lexer.specs.Reading.{Read, Fails}
use Rattle.piece_forms.specs.Forms.{Form, until}
use Rattle.piece_forms.specs.Reading.{reads}

module _ {A : Type 0} (last : A → Form A) (step : A → Form (Bool × A)) (n i : ℕ) (x : A) (line : ℕ)
    (pieces : List Piece) (total : Read A) where
  pub until-goes : (y : A) (line' : ℕ) (pieces' : List Piece) → i < n →
      reads (step x) line pieces ≡ Ok ((true, y), line', pieces')
      → reads (until last step (n - i) x) line pieces ≡ total →
      reads (until last step (n - (i + 1)) y) line' pieces' ≡ total
  unfolding until
  until-goes y line' pieces' few h so_far =
      let k : n - i ≡ suc (n - (i + 1)) = omega arith in
      let one : reads (until last step (n - i) x) line pieces ≡ reads (until last step (n - (i + 1)) y)
      line' pieces' = rw (k, h) refl in
      sym one ∙ so_far

  pub until-stops : (y : A) (line' : ℕ) (pieces' : List Piece) → i < n →
      reads (step x) line pieces ≡ Ok ((false, y), line', pieces')
      → reads (until last step (n - i) x) line pieces ≡ total → total ≡ Ok (y, line', pieces')
  unfolding until
  until-stops y line' pieces' few h so_far =
      let k : n - i ≡ suc (n - (i + 1)) = omega arith in
      let one : reads (until last step (n - i) x) line pieces ≡ Ok (y, line', pieces') = rw (k, h) refl in
      sym so_far ∙ one

  pub until-fails : (e : ReadError) → i < n → Fails e (reads (step x) line pieces)
      → reads (until last step (n - i) x) line pieces ≡ total → Fails e total
  unfolding until
  until-fails Memory few h so_far = tt
  until-fails (Fault f) few h so_far =
      let k : n - i ≡ suc (n - (i + 1)) = omega arith in
      let one : reads (until last step (n - i) x) line pieces ≡ Err f = rw (k, h) refl in
      sym so_far ∙ one

  pub until-out : n ≤ i → reads (until last step (n - i) x) line pieces ≡ total → total ≡ reads (last x) line pieces
  unfolding until
  until-out le so_far =
      let k : n - i ≡ 0 = omega arith in
      let one : reads (until last step (n - i) x) line pieces ≡ reads (last x) line pieces = rw k refl in
      sym so_far ∙ one
