-- Fields behind spaces, and lines behind each other, are parted again.
use Rattle.std.proofs.Common.{◌≡◌, ℕ, suc, ◌+◌, ◌<◌, ◌≤◌, ◌==◌, true, false}
use Rattle.std.proofs.Common.{List, [], ◌∷◌, ◌++◌, take, length, refl, ap}
use Rattle.std.proofs.Common.{◌∙◌, ◌*◌, ◌⊎◌, inl, inr, arith, length-append}
use Rattle.std.specs.Prelude.{not}
use Rattle.std.specs.List.{prefix_len}
use Rattle.std.proofs.lemmas.Bool.Decides.{nat_tests}
use Rattle.trace_lines.specs.Fields.{is_blank, before_comment, begins_inside_field, first_grown, parted, fields_of}
use Rattle.text_lines.specs.Lines.{lines_of, begun}
use Rattle.trace_texts.specs.Records.{spaced}
use Rattle.trace_texts.proofs.Numerals.{IsPlain}

not-blank : (b : ℕ) → 35 < b → is_blank b ≡ false
not-blank b h = let space : (b == 32) ≡ false = grind (arith, nat_tests) in
    let tab : (b == 9) ≡ false = grind (arith, nat_tests) in rw (space, tab) refl

parted-blank : (b : ℕ) (bytes : List ℕ) → is_blank b ≡ true → parted (b ∷ bytes) ≡ parted bytes
unfolding parted
parted-blank b bytes e = rw e refl

parted-alone : (b : ℕ) (bytes : List ℕ) → is_blank b ≡ false → begins_inside_field bytes ≡ false →
    parted (b ∷ bytes) ≡ (b ∷ []) ∷ parted bytes
unfolding parted
parted-alone b bytes e f = rw (e, f) refl

parted-joined : (b : ℕ) (bytes : List ℕ) → is_blank b ≡ false → begins_inside_field bytes ≡ true →
    parted (b ∷ bytes) ≡ first_grown b (parted bytes)
unfolding parted
parted-joined b bytes e f = rw (e, f) refl

joined-first : (b : ℕ) (bytes : List ℕ) → begins_inside_field (b ∷ bytes) ≡ not (is_blank b)
unfolding begins_inside_field
joined-first b bytes = refl

-- one field, and what follows it
field-parted : (b : ℕ) (field rest : List ℕ) → 35 < b → IsPlain field → begins_inside_field rest ≡ false →
    parted (b ∷ field ++ rest) ≡ (b ∷ field) ∷ parted rest
field-parted b [] rest h k e = parted-alone b rest (not-blank b h) e
field-parted b (c ∷ field) rest h k e =
    parted-joined b (c ∷ field ++ rest) (not-blank b h)
    (joined-first c (field ++ rest) ∙ ap not (not-blank c k.0))
    ∙ ap (first_grown b) (field-parted c field rest k.0 k.1 e)

-- fields, each behind a space
abbrev pub tail : List (List ℕ) → List ℕ
tail [] = []
tail (field ∷ fields) = spaced field ++ tail fields

-- fields of some plain bytes
abbrev pub ArePlain : List (List ℕ) → Type 0
ArePlain [] = Unit {0}
ArePlain (field ∷ fields) = (0 < length field) × IsPlain field × ArePlain fields × (length field ≤ 20)

tail-apart : (fields : List (List ℕ)) → begins_inside_field (tail fields) ≡ false
unfolding begins_inside_field
tail-apart [] = refl
tail-apart (field ∷ fields) = refl

first-parted : (field rest : List ℕ) → 0 < length field → IsPlain field → begins_inside_field rest ≡ false →
    parted (field ++ rest) ≡ field ∷ parted rest
first-parted [] rest some h e = absurd (omega arith)
first-parted (b ∷ field) rest some h e = field-parted b field rest h.0 h.1 e

parted-none : parted [] ≡ []
unfolding parted
parted-none = refl

tail-parted : (fields : List (List ℕ)) → ArePlain fields → parted (tail fields) ≡ fields
tail-parted [] h = parted-none
tail-parted (field ∷ fields) h =
    parted-blank 32 (field ++ tail fields) refl
    ∙ first-parted field (tail fields) h.0 h.1 (tail-apart fields)
    ∙ ap (λ (w : List (List ℕ)). field ∷ w) (tail-parted fields h.2)

pub fields-parted : (first : List ℕ) (fields : List (List ℕ)) → ArePlain (first ∷ fields) →
    parted (first ++ tail fields) ≡ first ∷ fields
fields-parted first fields h =
    first-parted first (tail fields) h.0 h.1 (tail-apart fields)
    ∙ ap (λ (w : List (List ℕ)). first ∷ w) (tail-parted fields h.2)

-- ---- lines

-- a space, or above #
abbrev pub AreClear : List ℕ → Type 0
AreClear [] = Unit {0}
AreClear (b ∷ bytes) = ((b ≡ 32) ⊎ (35 < b)) × AreClear bytes

clear-plain : (field rest : List ℕ) → IsPlain field → AreClear rest → AreClear (field ++ rest)
clear-plain [] rest h k = k
clear-plain (b ∷ field) rest h k = (inr h.0, clear-plain field rest h.1 k)

clear-tail : (fields : List (List ℕ)) → ArePlain fields → AreClear (tail fields)
clear-tail [] h = tt
clear-tail (field ∷ fields) h = (inl refl, clear-plain field (tail fields) h.1 (clear-tail fields h.2))

short-tail : (fields : List (List ℕ)) → ArePlain fields → length (tail fields) ≤ 21 * length fields
short-tail [] h = omega arith
short-tail (field ∷ fields) h =
    let r = short-tail fields h.2 in let l = length-append field (tail fields) in let s = h.3 in omega (arith, r, l, s)

not-feed : (b : ℕ) → (b ≡ 32) ⊎ (35 < b) → (b == 10) ≡ false
not-feed b (inl e) = rw e refl
not-feed b (inr h) = grind (arith, nat_tests)

not-comment : (b : ℕ) → (b ≡ 32) ⊎ (35 < b) → (b == 35) ≡ false
not-comment b (inl e) = rw e refl
not-comment b (inr h) = grind (arith, nat_tests)

lines-more : (b : ℕ) (bytes : List ℕ) → (b == 10) ≡ false → lines_of (b ∷ bytes) ≡ begun b (lines_of bytes)
unfolding lines_of
lines-more b bytes e = rw e refl

lines-feed : (bytes : List ℕ) → lines_of (10 ∷ bytes) ≡ [] ∷ lines_of bytes
unfolding lines_of
lines-feed bytes = refl

-- a line, and the lines behind its line feed
pub line-parted : (line rest : List ℕ) → AreClear line → lines_of (line ++ 10 ∷ rest) ≡ line ∷ lines_of rest
line-parted [] rest h = lines-feed rest
line-parted (b ∷ line) rest h =
    lines-more b (line ++ 10 ∷ rest) (not-feed b h.0) ∙ ap (begun b) (line-parted line rest h.1)

take-one_more : (n b : ℕ) (bytes : List ℕ) → take (1 + n) (b ∷ bytes) ≡ b ∷ take n bytes
take-one_more n b bytes = let e : 1 + n ≡ suc n = omega arith in rw e refl

no-comment : (line : List ℕ) → AreClear line → before_comment line ≡ line
no-comment [] h = refl
no-comment (b ∷ line) h =
    rw (not-comment b h.0, take-one_more (prefix_len (λ b. not (b == 35)) line) b line)
    (ap (λ (w : List ℕ). b ∷ w) (no-comment line h.1))

-- a line of plain fields: its bytes, its fields, its length
pub line-fields : (first : List ℕ) (fields : List (List ℕ)) → ArePlain (first ∷ fields) →
    AreClear (first ++ tail fields) × (fields_of (first ++ tail fields) ≡ first ∷ fields)
    × (length (first ++ tail fields) ≤ 20 + 21 * length fields)
line-fields first fields h =
    let clear = clear-plain first (tail fields) h.1 (clear-tail fields h.2) in
    let r = short-tail fields h.2 in let l = length-append first (tail fields) in let s = h.3 in
    (clear, ap parted (no-comment (first ++ tail fields) clear) ∙ fields-parted first fields h, omega (arith, r, l, s))
