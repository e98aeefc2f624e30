-- The next line of a text, from the bytes in front.
use Rattle.std.proofs.Common.{◌≡◌, ℕ, ◌+◌, ◌-◌, ◌<◌, ◌≤◌, true, false, eqb, List, [], ◌∷◌, ◌++◌, length}
use Rattle.std.proofs.Common.{take, drop, slice_range, Option, Some, None, IfSome, refl}
use Rattle.std.proofs.Common.{sym, ap, ◌∙◌, append_assoc, arith, inl, inr, length-append}
use Rattle.std.proofs.lemmas.Bool.{cases_lt, eq-eqb, ne_eqb}
use Rattle.std.proofs.lemmas.List.{append-nil, take_at, drop_at, take-append-le, drop-append-le, drop-take}
use Rattle.std.proofs.lemmas.List.{length-take-le, length-drop, take_all, drop_all}
use Rattle.std.proofs.lemmas.List.Folds.{prefix_len-append}
use Rattle.std.specs.List.{prefix_len}
use borrow.Rule.Slice.PartMut.{put_mid, post_of}
use lib.Seq.{take-add, take-append-add, drop-append-add}
use Rattle.byte_streams.specs.Device.{Loses, AtEnd}
use Rattle.text_lines.specs.Lines.{is_within_line, before_line_feed, behind_line_feed, lines_of}
use Rattle.text_lines.proofs.Lemmas.{lines-first}
use Rattle.trace_reader.specs.declared.limits.TheConstants.{MOST_BYTES}
use Rattle.trace_reader.specs.Ahead.{Both, IsNextLine}

-- ---- bytes that are put behind those that stand

pub grown : (xs ys : List ℕ) (start end k n : ℕ) → start ≤ end → end ≤ length xs → n ≤ length ys
    → slice_range (put_mid end k xs ys) start (end + n) ≡ slice_range xs start end ++ take n ys
grown xs ys start end k n ordered within fits =
    let front = length-take-le end xs within in
    let held = drop start (take end xs) in
    let len : length held ≡ end - start = omega (arith, length-drop start (take end xs)) in
    let sum : end + n - start ≡ (end - start) + n = omega arith in
    let parts : end ≡ start + (end - start) = omega arith in
    let same : held ≡ take (end - start) (drop start xs) =
    ap (λ j. drop start (take j xs)) parts ∙ drop-take start (end - start) xs in
    let after = ys ++ post_of end k xs in
    ap (take (end + n - start)) (drop-append-le start (take end xs) after (omega arith))
    ∙ ap (λ j. take j (held ++ after)) sum ∙ take-add (end - start) n (held ++ after)
    ∙ (rw (take_at held after _ len, drop_at held after _ len, take-append-le n ys (post_of end k xs) fits, same) refl)

-- ---- the first line

-- a line feed ends it
first-ended : (bytes coming : List ℕ) → prefix_len is_within_line bytes < length bytes →
    lines_of (bytes ++ coming) ≡ take (prefix_len is_within_line bytes) bytes
    ∷ lines_of (drop (prefix_len is_within_line bytes + 1) bytes ++ coming)
first-ended bytes coming lt =
    let n : ℕ = prefix_len is_within_line bytes in
    let there : eqb n (length bytes) ≡ false = ne_eqb _ _ (omega arith) in
    let same : prefix_len is_within_line (bytes ++ coming) ≡ n =
    prefix_len-append is_within_line bytes coming ∙ (rw there refl) in
    lines-first (bytes ++ coming) (omega (arith, length-append bytes coming))
    ∙ (rw (same, take-append-le n bytes coming (omega arith), drop-append-le (n + 1) bytes coming (omega arith)) refl)

-- without a line feed it goes on
first-open : (bytes coming : List ℕ) → 0 < length bytes → prefix_len is_within_line bytes ≡ length bytes →
    lines_of (bytes ++ coming) ≡ (bytes ++ before_line_feed coming) ∷ lines_of (behind_line_feed coming)
first-open bytes coming some open_ended =
    let k : ℕ = prefix_len is_within_line coming in
    let none : eqb (prefix_len is_within_line bytes) (length bytes) ≡ true = eq-eqb _ _ open_ended in
    let more : prefix_len is_within_line (bytes ++ coming) ≡ length bytes + k =
    prefix_len-append is_within_line bytes coming ∙ (rw none refl) in
    let behind : length bytes + k + 1 ≡ length bytes + (k + 1) = omega arith in
    lines-first (bytes ++ coming) (omega (arith, length-append bytes coming))
    ∙ (rw (more, behind, take-append-add bytes coming k, drop-append-add bytes coming (k + 1)) refl)

-- ---- what is found of the next line

pub next-ended : (n : ℕ) (bytes coming : List ℕ) → n ≡ prefix_len is_within_line bytes → n < length bytes →
    IsNextLine n bytes coming
next-ended n bytes coming e lt =
    let lt' : prefix_len is_within_line bytes < length bytes = omega (arith, e) in (
      [],
      lines_of (drop (n + 1) bytes ++ coming),
      rw (e, append-nil (take (prefix_len is_within_line bytes) bytes)) (first-ended bytes coming lt'),
      λ short. (refl, refl),
    )

next-long : (n : ℕ) (bytes coming : List ℕ) → n ≡ prefix_len is_within_line bytes → n ≡ length bytes →
    MOST_BYTES < n → IsNextLine n bytes coming
next-long n bytes coming e f lt = (
  before_line_feed coming,
  lines_of (behind_line_feed coming),
  rw (take_all n bytes (omega (arith, f))) (first-open bytes coming (omega (arith, f)) (sym e ∙ f)),
  λ short. absurd (omega arith),
)

-- a line feed stands there, or more bytes than a line has
pub next-found : (n : ℕ) (bytes coming : List ℕ) → n ≡ prefix_len is_within_line bytes → n ≤ length bytes →
    (n ≤ MOST_BYTES → n ≡ length bytes → ⊥) → IsNextLine n bytes coming
next-found n bytes coming e within some =
    elim (cases_lt n (length bytes)) [
      | inl lt ↦ next-ended n bytes coming e lt
      | inr ge ↦ let same : n ≡ length bytes = omega arith in
          elim (cases_lt MOST_BYTES n) [
            | inl long ↦ next-long n bytes coming e same long
            | inr short ↦ absurd (some short same)
          ]
    ]

-- at the end
pub next-last : (n : ℕ) (bytes coming : List ℕ) → n ≡ prefix_len is_within_line bytes → n ≡ length bytes →
    (n ≡ 0 → ⊥) → coming ≡ [] → IsNextLine n bytes coming
next-last n bytes coming e f some none =
    let rest : drop (n + 1) bytes ≡ [] = drop_all (n + 1) bytes (omega (arith, f)) in (
      [],
      lines_of [],
      rw (none, take_all n bytes (omega (arith, f))) (first-open bytes [] (omega (arith, f, some)) (sym e ∙ f)),
      λ short. (refl, rw (none, rest) refl),
    )

-- ---- bytes that are known

-- bytes that came stand behind those in front
pub both-more : (a b c : Option (List ℕ)) (x y z came : List ℕ) → Both a b (λ before after. x ++ before ≡ y ++ after) →
    Loses b c came → z ≡ y ++ came → Both a c (λ before after. x ++ before ≡ z ++ after)
both-more None b c x y z came p q e = tt
both-more (Some before) None c x y z came p q e = absurd p
both-more (Some before) (Some after) None x y z came p q e = absurd q
both-more (Some before) (Some after) (Some last) x y z came p q e =
    p ∙ ap (λ (w : List ℕ). y ++ w) q ∙ sym (append_assoc y came last) ∙ ap (λ (w : List ℕ). w ++ last) (sym e)

pub both-with : (a b : Option (List ℕ)) (P Q : List ℕ → List ℕ → Type 0) → Both a b P →
    ((before after : List ℕ) → P before after → Q before after) → Both a b Q
both-with None b P Q p f = tt
both-with (Some before) None P Q p f = absurd p
both-with (Some before) (Some after) P Q p f = f before after p

-- nothing came, at the end
pub none-left : (a b : Option (List ℕ)) (came : List ℕ) → came ≡ [] → Loses a b came → AtEnd a →
    IfSome a (λ known. AtEnd b)
none-left None b came e p h = tt
none-left (Some before) None came e p h = absurd p
none-left (Some before) (Some after) came e p h =
    let same : before ≡ after = p ∙ ap (λ (w : List ℕ). w ++ after) e in sym same ∙ h

pub both-last : (a b c : Option (List ℕ)) (x y z came : List ℕ) → Both a b (λ before after. x ++ before ≡ y ++ after) →
    Loses b c came → z ≡ y ++ came → IfSome b (λ known. AtEnd c) →
    Both a c (λ before after. (x ++ before ≡ z ++ after) × (after ≡ []))
both-last None b c x y z came p q e h = tt
both-last (Some before) None c x y z came p q e h = absurd p
both-last (Some before) (Some after) None x y z came p q e h = absurd q
both-last (Some before) (Some after) (Some last) x y z came p q e h =
    (both-more (Some before) (Some after) (Some last) x y z came p q e, h)

-- what stands is as it was, and the next line is found in it
pub found-after : (a b : Option (List ℕ)) (x y : List ℕ) (n : ℕ) →
    Both a b (λ before after. x ++ before ≡ y ++ after) →
    n ≡ prefix_len is_within_line y → n ≤ length y → (n ≤ MOST_BYTES → n ≡ length y → ⊥) →
    Both a b (λ before after. (x ++ before ≡ y ++ after) × IsNextLine n y after)
found-after a b x y n p e within some =
    both-with a b (λ before after. x ++ before ≡ y ++ after)
    (λ before after. (x ++ before ≡ y ++ after) × IsNextLine n y after) p
    (λ before after q. (q, next-found n y after e within some))

pub found-last : (a b : Option (List ℕ)) (x y : List ℕ) (n : ℕ) →
    Both a b (λ before after. (x ++ before ≡ y ++ after) × (after ≡ [])) →
    n ≡ prefix_len is_within_line y → n ≡ length y → (n ≡ 0 → ⊥) →
    Both a b (λ before after. (x ++ before ≡ y ++ after) × IsNextLine n y after)
found-last a b x y n p e all some =
    both-with a b (λ before after. (x ++ before ≡ y ++ after) × (after ≡ []))
    (λ before after. (x ++ before ≡ y ++ after) × IsNextLine n y after) p
    (λ before after q. (q.0, next-last n y after e all some q.1))
