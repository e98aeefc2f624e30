-- A row has its shape exactly where bars and a semicolon stand in it so.
use Rattle.std.proofs.Common.{◌≡◌, ℕ, suc, ◌-◌, Bool, true, false, cond, eqb, not, List, [], ◌∷◌}
use Rattle.std.proofs.Common.{◌++◌, length, refl, sym, ap, ◌∙◌, inl, inr, arith}
use Rattle.std.specs.List.{list_all, filter}
use Rattle.std.proofs.lemmas.Bool.{cases_Bool, and_parts, and_from, eqb-true, eqb-false, ne_eqb}
use Rattle.litmus_lexer.specs.Pieces.{Piece, Word, Sign, LineEnd}
use Rattle.litmus_parser.specs.Table.{ends_here, has_shape}
use Rattle.piece_forms.specs.Forms.{is_sign}
use Rattle.litmus_parser.specs.Shapes.{is_inner, IsShaped}

pub shaped : (front rest : List Piece) (bars : ℕ) → list_all is_inner front ≡ true →
    length (filter (is_sign 124) front) ≡ bars → ends_here rest ≡ true → has_shape bars (front ++ Sign 59 ∷ rest) ≡ true
unfolding has_shape
shaped [] rest bars inner count ends = rw (sym count, ends) refl
shaped (LineEnd ∷ front) rest bars inner count ends = absurd cc
shaped (Word w ∷ front) rest bars inner count ends = shaped front rest bars inner count ends
shaped (Sign b ∷ front) rest bars inner count ends =
    let p = and_parts (not (eqb b 59)) (list_all is_inner front) inner in
    elim (cases_Bool (eqb b 59)) [
      | inl semicolon ↦ let none : false ≡ true = rw semicolon at p.0 in absurd cc
      | inr other ↦ elim (cases_Bool (eqb b 124)) [
        | inl bar ↦ let more : suc (length (filter (is_sign 124) front)) ≡ bars = rw bar at count in
            let less : bars - 1 ≡ length (filter (is_sign 124) front) = omega (arith, more) in
            let some : eqb bars 0 ≡ false = ne_eqb bars 0 (omega (arith, more)) in
            rw (other, bar, some, less) (shaped front rest (length (filter (is_sign 124) front)) p.1 refl ends)
        | inr plain ↦ rw (other, plain) (shaped front rest bars p.1 (rw plain at count) ends)
      ]
    ]

pub only-shaped : (bars : ℕ) (pieces : List Piece) → has_shape bars pieces ≡ true → IsShaped bars pieces
unfolding has_shape
only-shaped bars [] h = absurd cc
only-shaped bars (LineEnd ∷ pieces) h = absurd cc
only-shaped bars (Word w ∷ pieces) h =
    let o = only-shaped bars pieces h in
    record {
      front = Word w ∷ o.front;
      rest = o.rest;
      split = ap (λ ps. Word w ∷ ps) o.split;
      inner = o.inner;
      count = o.count;
      ends = o.ends;
    }
only-shaped bars (Sign b ∷ pieces) h =
    elim (cases_Bool (eqb b 59)) [
      | inl semicolon ↦ let p = and_parts (eqb bars 0) (ends_here pieces) (rw semicolon at h) in
          record {
            front = [];
            rest = pieces;
            split = ap (λ (c : ℕ). Sign c ∷ pieces) (eqb-true b 59 semicolon);
            inner = refl;
            count = sym (eqb-true bars 0 p.0);
            ends = p.1;
          }
      | inr other ↦ elim (cases_Bool (eqb b 124)) [
        | inl bar ↦ let e : cond (eqb bars 0) false (has_shape (bars - 1) pieces) ≡ true = rw (other, bar) at h in
            elim (cases_Bool (eqb bars 0)) [
              | inl none ↦ let no : false ≡ true = rw none at e in absurd cc
              | inr some ↦ let o = only-shaped (bars - 1) pieces (rw some at e) in
                  let ne = eqb-false bars 0 some in
                  let more : suc (length (filter (is_sign 124) o.front)) ≡ bars = omega (arith, o.count, ne) in
                  longer bars o other (counted o.front true bar ∙ more)
            ]
        | inr plain ↦ let o = only-shaped bars pieces (rw (other, plain) at h) in
            longer bars o other (counted o.front false plain ∙ o.count)
      ]
    ]
  where
    counted : (front : List Piece) (bar : Bool) → eqb b 124 ≡ bar → length (filter (is_sign 124) (Sign b ∷ front)) ≡
        cond bar (suc (length (filter (is_sign 124) front))) (length (filter (is_sign 124) front))
    counted front true e = rw e refl
    counted front false e = rw e refl

    -- a further sign in front
    longer : (all : ℕ) {left : ℕ} (o : IsShaped left pieces) → eqb b 59 ≡ false →
        length (filter (is_sign 124) (Sign b ∷ o.front)) ≡ all → IsShaped all (Sign b ∷ pieces)
    longer all o other count = record {
      front = Sign b ∷ o.front;
      rest = o.rest;
      split = ap (λ ps. Sign b ∷ ps) o.split;
      inner = and_from (not (eqb b 59)) (list_all is_inner o.front) (rw other refl) o.inner;
      count = count;
      ends = o.ends;
    }
