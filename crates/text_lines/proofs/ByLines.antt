-- The lines of a text are its first line, and then those of what follows it.
use Rattle.std.proofs.Common.{◌≡◌, ℕ, suc, ◌+◌, ◌-◌, ◌<◌, ◌≤◌, ◌==◌, true, false, List, [], ◌∷◌, length, take, drop}
use Rattle.std.proofs.Common.{refl, ap, ◌∙◌, arith, inl, inr}
use Rattle.std.specs.List.{prefix_len}
use Rattle.std.proofs.lemmas.Bool.{cases_Bool}
use Rattle.std.proofs.lemmas.List.{length-drop}
use Rattle.text_lines.specs.Lines.{is_within_line, before_line_feed, behind_line_feed, begun, lines_of}

-- with one more byte in front, one more is taken, or passed
pub drop-one_more : (n b : ℕ) (bytes : List ℕ) → drop (1 + n) (b ∷ bytes) ≡ drop n bytes
drop-one_more n b bytes = let e : 1 + n ≡ suc n = omega arith in rw e refl

pub take-one_more : (n b : ℕ) (bytes : List ℕ) → take (1 + n) (b ∷ bytes) ≡ b ∷ take n bytes
take-one_more n b bytes = let e : 1 + n ≡ suc n = omega arith in rw e refl

lines-cut : (b : ℕ) (bytes : List ℕ) → (b == 10) ≡ true → lines_of (b ∷ bytes) ≡ [] ∷ lines_of bytes
unfolding lines_of
lines-cut b bytes e = rw e refl

lines-more : (b : ℕ) (bytes : List ℕ) → (b == 10) ≡ false → lines_of (b ∷ bytes) ≡ begun b (lines_of bytes)
unfolding lines_of
lines-more b bytes e = rw e refl

pub lines-none : lines_of [] ≡ []
unfolding lines_of
lines-none = refl

-- a byte more at the front of a text whose lines are known
lines-longer : (b : ℕ) (bytes : List ℕ) → (b == 10) ≡ false →
    begun b (lines_of bytes) ≡ (b ∷ before_line_feed bytes) ∷ lines_of (behind_line_feed bytes) →
    lines_of (b ∷ bytes) ≡ before_line_feed (b ∷ bytes) ∷ lines_of (behind_line_feed (b ∷ bytes))
lines-longer b bytes e known =
    let n : ℕ = prefix_len is_within_line bytes in
    let passed : 1 + n + 1 ≡ 1 + (n + 1) = omega arith in
    rw (e, passed, take-one_more n b bytes, drop-one_more (n + 1) b bytes) (lines-more b bytes e ∙ known)

pub lines-first : (text : List ℕ) → 0 < length text →
    lines_of text ≡ before_line_feed text ∷ lines_of (behind_line_feed text)
lines-first [] lt = absurd (omega arith)
lines-first (b ∷ []) lt =
    elim (cases_Bool (b == 10)) [
      | inl e ↦ rw e (lines-cut b [] e)
      | inr e ↦ lines-longer b [] e (rw lines-none refl)
    ]
lines-first (b ∷ c ∷ bytes) lt =
    elim (cases_Bool (b == 10)) [
      | inl e ↦ rw e (lines-cut b (c ∷ bytes) e)
      | inr e ↦ lines-longer b (c ∷ bytes) e (ap (begun b) (lines-first (c ∷ bytes) (omega arith)))
    ]

pub length-behind_line_feed : (text : List ℕ) → length (behind_line_feed text) ≤ length text - 1
length-behind_line_feed text = omega (arith, length-drop (prefix_len is_within_line text + 1) text)

pub lines-shorter : (text : List ℕ) → 0 < length text → length (behind_line_feed text) < length text
lines-shorter text lt = let less = length-behind_line_feed text in omega (arith, lt, less)
