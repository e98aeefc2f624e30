-- How the pieces of a text begin.
use Rattle.std.proofs.Common.{◌≡◌, ◌≢◌, ℕ, suc, ◌+◌, Bool, true, false, eqb, ◌||◌, List, [], ◌∷◌, take, drop, refl}
use Rattle.std.proofs.Common.{sym, ap, subst, ◌∙◌, arith, inl, inr}
use Rattle.std.proofs.lemmas.Bool.{cases_Bool, ne_eqb, or_cases, eqb-true, false_from_ne_true, both_ways}
use Rattle.std.specs.List.{prefix_len}
use Rattle.litmus_lexer.specs.Pieces.{Piece, Word, Sign, LineEnd, is_blank, is_letter, is_slash, is_joined, grown}
use Rattle.litmus_lexer.specs.Pieces.{lone_piece, pieces_of}

drop-one_more : (n b : ℕ) (bytes : List ℕ) → drop (1 + n) (b ∷ bytes) ≡ drop n bytes
drop-one_more n b bytes = let e : 1 + n ≡ suc n = omega arith in rw e refl

take-one_more : (n b : ℕ) (bytes : List ℕ) → take (1 + n) (b ∷ bytes) ≡ b ∷ take n bytes
take-one_more n b bytes = let e : 1 + n ≡ suc n = omega arith in rw e refl

pieces-blank : (b : ℕ) (bytes : List ℕ) → is_blank b ≡ true → pieces_of (b ∷ bytes) ≡ pieces_of bytes
unfolding pieces_of
pieces-blank b bytes e = rw e refl

-- blanks in front don't count
pub pieces-after_blanks : (bytes : List ℕ) → pieces_of bytes ≡ pieces_of (drop (prefix_len is_blank bytes) bytes)
pieces-after_blanks [] = refl
pieces-after_blanks (b ∷ bytes) =
    elim (cases_Bool (is_blank b)) [
      | inl e ↦ rw e (pieces-blank b bytes e ∙ pieces-after_blanks bytes
          ∙ ap pieces_of (sym (drop-one_more (prefix_len is_blank bytes) b bytes)))
      | inr e ↦ rw e refl
    ]

-- what the bytes of one kind of word are
pub record IsWordKind (p : ℕ → Bool) : Type 0 where
  pub no_blank : (b : ℕ) → p b ≡ true → is_blank b ≡ false
  pub joins : (b c : ℕ) (bytes : List ℕ) → p b ≡ true → is_joined b (c ∷ bytes) ≡ p c
  pub lone : (b : ℕ) → p b ≡ true → lone_piece b ≡ Word (b ∷ [])

pieces-word_alone : (b : ℕ) (bytes : List ℕ) → is_blank b ≡ false → is_joined b bytes ≡ false →
    pieces_of (b ∷ bytes) ≡ lone_piece b ∷ pieces_of bytes
unfolding pieces_of
pieces-word_alone b bytes e f = rw (e, f) refl

pieces-joined : (b : ℕ) (bytes : List ℕ) → is_blank b ≡ false → is_joined b bytes ≡ true →
    pieces_of (b ∷ bytes) ≡ grown b (pieces_of bytes)
unfolding pieces_of
pieces-joined b bytes e f = rw (e, f) refl

joined-nothing : (b : ℕ) → is_joined b [] ≡ false
unfolding is_joined
joined-nothing b = refl

-- a word in front goes as far as its kind of bytes goes
word-first : (p : ℕ → Bool) → IsWordKind p → (b : ℕ) (bytes : List ℕ) → p b ≡ true
    → pieces_of (b ∷ bytes) ≡ Word (b ∷ take (prefix_len p bytes) bytes) ∷ pieces_of (drop (prefix_len p bytes) bytes)
word-first p kind b [] h = pieces-word_alone b [] (kind.no_blank b h) (joined-nothing b)
    ∙ ap (λ (x : Piece). x ∷ pieces_of []) (kind.lone b h)
word-first p kind b (c ∷ bytes) h =
    elim (cases_Bool (p c)) [
      | inl e ↦ rw (e, drop-one_more (prefix_len p bytes) c bytes, take-one_more (prefix_len p bytes) c bytes)
          (pieces-joined b (c ∷ bytes) (kind.no_blank b h) (kind.joins b c bytes h ∙ e)
          ∙ ap (grown b) (word-first p kind c bytes e))
      | inr e ↦ rw e (pieces-word_alone b (c ∷ bytes) (kind.no_blank b h) (kind.joins b c bytes h ∙ e)
          ∙ ap (λ (x : Piece). x ∷ pieces_of (c ∷ bytes)) (kind.lone b h))
    ]

pub blank-cases : (P : ℕ → Type 0) → P 32 → P 9 → P 13 → (b : ℕ) → is_blank b ≡ true → P b
blank-cases P x y z b h =
    elim (or_cases (eqb b 32 || eqb b 9) (eqb b 13) h) [
      | inl h' ↦ elim (or_cases (eqb b 32) (eqb b 9) h') [
        | inl e ↦ subst P (sym (eqb-true b 32 e)) x
        | inr e ↦ subst P (sym (eqb-true b 9 e)) y
      ]
      | inr e ↦ subst P (sym (eqb-true b 13 e)) z
    ]

slash-cases : (P : ℕ → Type 0) → P 47 → P 92 → (b : ℕ) → is_slash b ≡ true → P b
slash-cases P x y b h =
    elim (or_cases (eqb b 47) (eqb b 92) h) [
      | inl e ↦ subst P (sym (eqb-true b 47 e)) x
      | inr e ↦ subst P (sym (eqb-true b 92 e)) y
    ]

abbrev IsNoLetter : ℕ → Type 0
IsNoLetter b = is_letter b ≡ false

or-false : (x : Bool) → (x || false) ≡ x
or-false true = refl
or-false false = refl

letter-no_blank : (b : ℕ) → is_letter b ≡ true → is_blank b ≡ false
letter-no_blank b h =
    false_from_ne_true (is_blank b) (λ e. both_ways (is_letter b) (blank-cases IsNoLetter refl refl refl b e) h)

letter-no_slash : (b : ℕ) → is_letter b ≡ true → is_slash b ≡ false
letter-no_slash b h =
    false_from_ne_true (is_slash b) (λ e. both_ways (is_letter b) (slash-cases IsNoLetter refl refl b e) h)

letter-no_end : (b : ℕ) → is_letter b ≡ true → eqb b 10 ≡ false
letter-no_end b h =
    false_from_ne_true (eqb b 10) (λ e. both_ways (is_letter b) (subst IsNoLetter (sym (eqb-true b 10 e)) refl) h)

letter-joins : (b c : ℕ) (bytes : List ℕ) → is_letter b ≡ true → is_joined b (c ∷ bytes) ≡ is_letter c
unfolding is_joined
letter-joins b c bytes h = rw (h, letter-no_slash b h) (or-false (is_letter c))

letter-lone : (b : ℕ) → is_letter b ≡ true → lone_piece b ≡ Word (b ∷ [])
letter-lone b h = rw (letter-no_end b h, h) refl

pub letters : IsWordKind is_letter
letters = record { no_blank = letter-no_blank; joins = letter-joins; lone = letter-lone }

slash-joins : (b c : ℕ) (bytes : List ℕ) → is_slash b ≡ true → is_joined b (c ∷ bytes) ≡ is_slash c
unfolding is_joined
slash-joins b c bytes h = slash-cases (λ b. is_joined b (c ∷ bytes) ≡ is_slash c) refl refl b h

pub slashes : IsWordKind is_slash
slashes = record {
  no_blank = λ b h. slash-cases (λ b. is_blank b ≡ false) refl refl b h;
  joins = slash-joins;
  lone = λ b h. slash-cases (λ b. lone_piece b ≡ Word (b ∷ [])) refl refl b h;
}

-- ---- behind n blanks

pub record Begins (bytes : List ℕ) (n b : ℕ) (after : List ℕ) : Type 0 where
  pub blanks : n ≡ prefix_len is_blank bytes
  pub first : drop n bytes ≡ b ∷ after

pub pieces-none : (bytes : List ℕ) (n : ℕ) → n ≡ prefix_len is_blank bytes → drop n bytes ≡ [] → pieces_of bytes ≡ []
unfolding pieces_of
pieces-none bytes n h e = pieces-after_blanks bytes ∙ ap (λ k. pieces_of (drop k bytes)) (sym h) ∙ ap pieces_of e

begins-pieces : (bytes : List ℕ) (n b : ℕ) (after : List ℕ) → Begins bytes n b after →
    pieces_of bytes ≡ pieces_of (b ∷ after)
begins-pieces bytes n b after h = pieces-after_blanks bytes ∙ ap (λ k. pieces_of (drop k bytes)) (sym h.blanks)
    ∙ ap pieces_of h.first

stops : (p : ℕ → Bool) (bytes : List ℕ) (b : ℕ) (after : List ℕ) → drop (prefix_len p bytes) bytes ≡ b ∷ after →
    p b ≡ false
stops p [] b after e = absurd cc
stops p (c ∷ bytes) b after e =
    elim (cases_Bool (p c)) [
      | inl h ↦ stops p bytes b after (sym (drop-one_more (prefix_len p bytes) c bytes) ∙ (rw h at e))
      | inr h ↦ let e' = rw h at e in let same : c ≡ b = cc in rw (← same) h
    ]

-- the first byte is no blank
first-no_blank : (bytes : List ℕ) (n b : ℕ) (after : List ℕ) → Begins bytes n b after → is_blank b ≡ false
first-no_blank bytes n b after h = stops is_blank bytes b after (ap (λ k. drop k bytes) (sym h.blanks) ∙ h.first)

line_end-alone : (bytes : List ℕ) → is_joined 10 bytes ≡ false
unfolding is_joined
line_end-alone [] = refl
line_end-alone (c ∷ bytes) = refl

pub pieces-line_end : (bytes : List ℕ) (n b : ℕ) (after : List ℕ) → Begins bytes n b after → b ≡ 10 →
    pieces_of bytes ≡ LineEnd ∷ pieces_of after
pieces-line_end bytes n b after h e =
    begins-pieces bytes n b after h ∙ rw e (pieces-word_alone 10 after refl (line_end-alone after))

sign-alone : (b : ℕ) (bytes : List ℕ) → is_letter b ≡ false → is_slash b ≡ false → is_joined b bytes ≡ false
unfolding is_joined
sign-alone b [] e f = refl
sign-alone b (c ∷ bytes) e f = rw (e, f) refl

pub pieces-sign : (bytes : List ℕ) (n b : ℕ) (after : List ℕ) → Begins bytes n b after → b ≢ 10 →
    is_letter b ≡ false → is_slash b ≡ false → pieces_of bytes ≡ Sign b ∷ pieces_of after
pieces-sign bytes n b after h ne e f =
    let no : eqb b 10 ≡ false = ne_eqb b 10 ne in
    let lone : lone_piece b ≡ Sign b = rw (no, e, f) refl in
    begins-pieces bytes n b after h ∙ pieces-word_alone b after (first-no_blank bytes n b after h)
    (sign-alone b after e f) ∙ ap (λ (x : Piece). x ∷ pieces_of after) lone

pub pieces-word : (p : ℕ → Bool) → IsWordKind p → (bytes : List ℕ) (n b : ℕ) (after : List ℕ) →
    Begins bytes n b after → p b ≡ true
    → pieces_of bytes ≡ Word (take (prefix_len p (b ∷ after)) (b ∷ after)) ∷ pieces_of
    (drop (prefix_len p (b ∷ after)) (b ∷ after))
pieces-word p kind bytes n b after h e =
    begins-pieces bytes n b after h ∙ rw (
      e,
      drop-one_more (prefix_len p after) b after,
      take-one_more
          (prefix_len p after) b after,
    ) (word-first p kind b after e)

pub pieces-word_split : (p : ℕ → Bool) → IsWordKind p → (bytes : List ℕ) (n b : ℕ) (after : List ℕ) →
    Begins bytes n b after → p b ≡ true
    → (all : List ℕ) → all ≡ b ∷ after → (len : ℕ) → len ≡ prefix_len p all → (w rest : List ℕ) → w ≡ take len all →
    rest ≡ drop len all
    → pieces_of bytes ≡ Word w ∷ pieces_of rest
pieces-word_split p kind bytes n b after h e all a len l w rest f g =
    rw (f, g, l, a) (pieces-word p kind bytes n b after h e)
