-- The pieces of a text, line by line up to the initial block.
use Rattle.std.proofs.Common.{◌≡◌, ℕ, zero, suc, ◌+◌, ◌<◌, Bool, true, false, cond, eqb, ◌&&◌, List, [], ◌∷◌, ◌++◌}
use Rattle.std.proofs.Common.{length}
use Rattle.std.proofs.Common.{Option, Some, None, Ok, refl, sym, ap, ◌∙◌, append_assoc, append-nil, length-append}
use Rattle.std.proofs.Common.{inl, inr, arith}
use mathlib.Core.Bool.{and-true, and-false}
use Rattle.std.specs.List.{list_all, prefix_len}
use Rattle.std.proofs.lemmas.Bool.{cases_Bool, eqb-true, both_ways, false_from_ne_true}
use Rattle.std.proofs.lemmas.List.Folds.{list_all-append}
use Rattle.text_lines.specs.Lines.{is_within_line, before_line_feed, behind_line_feed}
use Rattle.text_lines.proofs.Lemmas.{take-one_more, drop-one_more}
use Rattle.litmus_lexer.specs.Pieces.{Piece, Word, Sign, LineEnd, is_blank, pieces_of, is_joined}
use Rattle.litmus_lexer.specs.FirstLines.{begins_with, text_behind, behind_riscv, title_of, is_header_line}
use Rattle.litmus_lexer.specs.FirstLines.{begins_block}
use Rattle.litmus_lexer.specs.declared.errors.Kind.TheVariants.{BadHeader, CutShort}
use Rattle.litmus_lexer.specs.Reading.{Read, fails}
use Rattle.piece_forms.specs.Places.{from_next, ends_ahead}
use Rattle.piece_forms.specs.Forms.{Form, one, line_end, turn}
use Rattle.piece_forms.specs.Reading.{reads}
use Rattle.litmus_parser.specs.Header.{text_pieces, behind_lines, title, line_or_block}

-- ---- a byte more at the front

before-more : (b : ℕ) (bytes : List ℕ) → eqb b 10 ≡ false → before_line_feed (b ∷ bytes) ≡ b ∷ before_line_feed bytes
before-more b bytes e = rw e (take-one_more (prefix_len is_within_line bytes) b bytes)

behind-more : (b : ℕ) (bytes : List ℕ) → eqb b 10 ≡ false → behind_line_feed (b ∷ bytes) ≡ behind_line_feed bytes
behind-more b bytes e =
    let n : ℕ = prefix_len is_within_line bytes in
    let passed : 1 + n + 1 ≡ 1 + (n + 1) = omega arith in
    rw (e, passed, drop-one_more (n + 1) b bytes) refl

blank-more : (b : ℕ) (line : List ℕ) → is_blank b ≡ true → begins_block (b ∷ line) ≡ begins_block line
blank-more b line e = rw (e, drop-one_more (prefix_len is_blank line) b line) refl

other-more : (b : ℕ) (line : List ℕ) → is_blank b ≡ false → begins_block (b ∷ line) ≡ eqb b 123
other-more b line e = rw e refl

blank-apart : (b c : ℕ) → is_blank c ≡ false → is_blank b ≡ true → eqb b c ≡ false
blank-apart b c other e =
    false_from_ne_true (eqb b c) (λ same. both_ways (is_blank c) other (ap is_blank (sym (eqb-true b c same)) ∙ e))

all-more : (line : List ℕ) (b : ℕ) (blank : Bool) → is_blank b ≡ blank →
    list_all is_blank (line ++ b ∷ []) ≡ (list_all is_blank line && (blank && true))
all-more line b blank e =
    list_all-append is_blank line (b ∷ []) ∙ ap (λ x. list_all is_blank line && (x && true)) e

blank-pieces : (b : ℕ) (bytes : List ℕ) → is_blank b ≡ true → pieces_of (b ∷ bytes) ≡ pieces_of bytes
unfolding pieces_of
blank-pieces b bytes e = rw e refl

-- ---- where the initial block begins, the next piece is {

block-begins : (text : List ℕ) → begins_block (before_line_feed text) ≡ true →
    (rest : List Piece) × (pieces_of text ≡ Sign 123 ∷ rest)
unfolding pieces_of is_joined
block-begins [] h = absurd cc
block-begins (b ∷ bytes) h =
    elim (cases_Bool (eqb b 10)) [
      | inl feed ↦ let none : false ≡ true = rw feed at h in absurd cc
      | inr other ↦ elim (cases_Bool (is_blank b)) [
        | inl blank ↦ let s = block-begins bytes (sym (ap begins_block (before-more b bytes other)
            ∙ blank-more b (before_line_feed bytes) blank) ∙ h) in
            (s.0, blank-pieces b bytes blank ∙ s.1)
        | inr plain ↦ let brace : eqb b 123 ≡ true = sym (ap begins_block (before-more b bytes other)
            ∙ other-more b (before_line_feed bytes) plain) ∙ h in
            (pieces_of bytes, ap (λ (c : ℕ). pieces_of (c ∷ bytes)) (eqb-true b 123 brace) ∙ joined bytes)
      ]
    ]
  where
    joined : (bytes : List ℕ) → pieces_of (123 ∷ bytes) ≡ Sign 123 ∷ pieces_of bytes
    joined [] = refl
    joined (c ∷ bytes) = refl

-- ---- the pieces, by the first line

-- a line that begins the initial block, or a word
abbrev Divided : Bool → List ℕ → List ℕ → List Piece
Divided block line text =
    cond block (pieces_of text)
    (Word (line ++ before_line_feed text) ∷ LineEnd ∷ text_pieces (behind_line_feed text) [])

same-line : (block : Bool) (line : List ℕ) (b : ℕ) (bytes : List ℕ) → eqb b 10 ≡ false →
    (block ≡ true → pieces_of bytes ≡ pieces_of (b ∷ bytes)) →
    Divided block (line ++ b ∷ []) bytes ≡ Divided block line (b ∷ bytes)
same-line true line b bytes other same = same refl
same-line false line b bytes other same =
    rw (before-more b bytes other, behind-more b bytes other, append_assoc line (b ∷ []) (before_line_feed bytes)) refl

by-line : (text line : List ℕ) → 0 < length line + length text →
    text_pieces text line ≡ Divided (list_all is_blank line && begins_block (before_line_feed text)) line text
unfolding text_pieces pieces_of
by-line [] [] some = absurd (omega arith)
by-line [] (x ∷ line) some = rw (and-false (list_all is_blank (x ∷ line)), append-nil line) refl
by-line (b ∷ bytes) line some =
    elim (cases_Bool (eqb b 10)) [
      | inl feed ↦ rw (feed, and-false (list_all is_blank line), append-nil line) refl
      | inr other ↦ elim (cases_Bool (is_blank b)) [
        | inl blank ↦ let go : text_pieces (b ∷ bytes) line ≡ text_pieces bytes (line ++ b ∷ []) =
            rw (other, blank-apart b 123 refl blank) refl in
            let bare = all-more line b true blank ∙ and-true (list_all is_blank line) in
            let begins = ap begins_block (before-more b bytes other) ∙ blank-more b (before_line_feed bytes) blank in
            go ∙ by-line bytes (line ++ b ∷ []) (longer line b bytes)
            ∙ ap (λ t. Divided (t && begins_block (before_line_feed bytes)) (line ++ b ∷ []) bytes) bare
            ∙ ap (λ t. Divided (list_all is_blank line && t) (line ++ b ∷ []) bytes) (sym begins)
            ∙ same-line (list_all is_blank line && begins_block (before_line_feed (b ∷ bytes))) line b bytes other
            (λ _. sym (blank-pieces b bytes blank))
        | inr plain ↦ let go : text_pieces (b ∷ bytes) line ≡ cond (eqb b 123 && list_all is_blank line)
            (pieces_of (b ∷ bytes)) (text_pieces bytes (line ++ b ∷ [])) = rw other refl in
            let bare = all-more line b false plain ∙ and-false (list_all is_blank line) in
            let begins = ap begins_block (before-more b bytes other) ∙ other-more b (before_line_feed bytes) plain in
            let on : text_pieces bytes (line ++ b ∷ []) ≡ Divided false line (b ∷ bytes) =
            by-line bytes (line ++ b ∷ []) (longer line b bytes)
            ∙ ap (λ t. Divided (t && begins_block (before_line_feed bytes)) (line ++ b ∷ []) bytes) bare
            ∙ same-line false line b bytes other (λ e. absurd cc) in
            go ∙ turned (list_all is_blank line) (eqb b 123) (pieces_of (b ∷ bytes))
            (text_pieces bytes (line ++ b ∷ [])) (Divided false line (b ∷ bytes)) on
            ∙ ap (λ t. Divided (list_all is_blank line && t) line (b ∷ bytes)) (sym begins)
      ]
    ]
  where
    longer : (line : List ℕ) (b : ℕ) (bytes : List ℕ) → 0 < length (line ++ b ∷ []) + length bytes
    longer line b bytes = let n = length-append line (b ∷ []) in omega (arith, n)

    turned : (x y : Bool) (p q r : List Piece) → q ≡ r → cond (y && x) p q ≡ cond (x && y) p r
    turned true true p q r e = refl
    turned true false p q r e = e
    turned false true p q r e = e
    turned false false p q r e = e

line-pieces : (text : List ℕ) → 0 < length text →
    text_pieces text [] ≡ Divided (begins_block (before_line_feed text)) [] text
line-pieces text some = by-line text [] (omega (arith, some))

block-some : (text : List ℕ) → begins_block (before_line_feed text) ≡ true → 0 < length text
block-some [] e = absurd cc
block-some (b ∷ text) e = omega arith

block_same : (text : List ℕ) → begins_block (before_line_feed text) ≡ true → text_pieces text [] ≡ pieces_of text
block_same text block = line-pieces text (block-some text block) ∙ ap (λ t. Divided t [] text) block

-- ---- what is read of the first line, and of a header line

block-pieces : (text : List ℕ) → begins_block (before_line_feed text) ≡ true →
    (rest : List Piece) × (text_pieces text [] ≡ Sign 123 ∷ rest)
block-pieces text block =
    let s = block-begins text block in
    (s.0, block_same text block ∙ s.1)

word-pieces : (text : List ℕ) → 0 < length text → begins_block (before_line_feed text) ≡ false →
    text_pieces text [] ≡ Word (before_line_feed text) ∷ LineEnd ∷ text_pieces (behind_line_feed text) []
word-pieces text some plain = line-pieces text some ∙ ap (λ t. Divided t [] text) plain

no-title : (line : List ℕ) → begins_with 123 line ≡ true → behind_riscv line ≡ None
no-title [] e = absurd cc
no-title (a ∷ []) e = refl
no-title (a ∷ b ∷ []) e = refl
no-title (a ∷ b ∷ c ∷ []) e = refl
no-title (a ∷ b ∷ c ∷ d ∷ []) e = refl
no-title (a ∷ b ∷ c ∷ d ∷ f ∷ line) e = rw (eqb-true a 123 e) refl

pub nothing_read : (text : List ℕ) → length text ≡ 0 → reads title 1 (text_pieces text []) ≡ fails CutShort 1
unfolding text_pieces title from_next ends_ahead
nothing_read [] e = refl
nothing_read (b ∷ text) e = absurd (omega (arith, e))

-- what is read of the first line, before which this follows
abbrev pub Titled : Option (List ℕ) → List ℕ → Read (List ℕ)
Titled None rest = fails BadHeader 1
Titled (Some name) rest = Ok (name, 2, text_pieces rest [])

pub title_read : (text line rest : List ℕ) (name : Option (List ℕ)) → 0 < length text →
    line ≡ before_line_feed text → rest ≡ behind_line_feed text → name ≡ title_of line →
    reads title 1 (text_pieces text []) ≡ Titled name rest
unfolding title title_of from_next ends_ahead
title_read text line rest name some l r t =
    rw (t, l, r) (elim (cases_Bool (begins_block (before_line_feed text))) [
      | inl block ↦ rw ((block-pieces text block).1, no-title (text_behind is_blank (before_line_feed text)) block) refl
      | inr plain ↦ rw (word-pieces text some plain) (on (title_of (before_line_feed text)) refl)
    ])
  where
    on : (o : Option (List ℕ)) → title_of (before_line_feed text) ≡ o →
        reads title 1 (Word (before_line_feed text) ∷ LineEnd ∷ text_pieces (behind_line_feed text) [])
        ≡ Titled o (behind_line_feed text)
    on None e = rw e refl
    on (Some name) e = rw e refl

-- what is read of a further line
abbrev pub header_turn : Unit {0} → Form (Bool × Unit {0})
header_turn = turn (λ _. one line_or_block) (λ _. line_end BadHeader)

pub nothing_left : (n : ℕ) (text : List ℕ) → length text ≡ 0 →
    reads (header_turn tt) n (text_pieces text []) ≡ fails CutShort n
unfolding text_pieces from_next ends_ahead
nothing_left n [] e = let here : n + 0 ≡ n = omega arith in rw here refl
nothing_left n (b ∷ text) e = absurd (omega (arith, e))

module _ (n : ℕ) (text line : List ℕ) (some : 0 < length text) (l : line ≡ before_line_feed text) where
  pub block_read : begins_block line ≡ true →
      reads (header_turn tt) n (text_pieces text []) ≡ Ok ((false, tt), n, text_pieces text [])
  unfolding from_next ends_ahead
  block_read block =
      let here : n + 0 ≡ n = omega arith in
      let b = block-pieces text (ap begins_block (sym l) ∙ block) in
      rw (b.1, here) refl

  pub line_read : (rest : List ℕ) → rest ≡ behind_line_feed text → begins_block line ≡ false →
      is_header_line line ≡ true →
      reads (header_turn tt) n (text_pieces text []) ≡ Ok ((true, tt), n + 1, text_pieces rest [])
  unfolding from_next ends_ahead
  line_read rest r plain header =
      let here : n + 0 ≡ n = omega arith in
      let w = word-pieces text some (ap begins_block (sym l) ∙ plain) in
      let h : is_header_line (before_line_feed text) ≡ true = ap is_header_line (sym l) ∙ header in
      rw (w, h, here, r) refl

  pub line_refused : begins_block line ≡ false → is_header_line line ≡ false →
      reads (header_turn tt) n (text_pieces text []) ≡ fails BadHeader n
  unfolding from_next ends_ahead
  line_refused plain none =
      let here : n + 0 ≡ n = omega arith in
      let w = word-pieces text some (ap begins_block (sym l) ∙ plain) in
      let h : is_header_line (before_line_feed text) ≡ false = ap is_header_line (sym l) ∙ none in
      rw (w, h, here) refl

  pub line_same : begins_block line ≡ true → text_pieces text [] ≡ pieces_of text
  line_same block = block_same text (ap begins_block (sym l) ∙ block)

-- ---- one line more

pub behind-suc : (n : ℕ) (text : List ℕ) → behind_lines (suc n) text ≡ behind_line_feed (behind_lines n text)
behind-suc zero text = refl
behind-suc (suc n) text = behind-suc n (behind_line_feed text)
