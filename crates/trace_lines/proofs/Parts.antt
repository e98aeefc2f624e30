-- How the fields of a line begin.
use Rattle.std.proofs.Common.{◌≡◌, ℕ, ◌<◌, ◌==◌, true, false}
use Rattle.std.proofs.Common.{List, [], ◌∷◌, take, drop, length, get_or, refl, sym, ap, ◌∙◌, arith, inl, inr}
use Rattle.std.proofs.lemmas.Grind.{common_steps}
use Rattle.std.specs.Prelude.{not}
use Rattle.std.proofs.lemmas.Bool.{cases_Bool}
use Rattle.std.proofs.lemmas.Bool.Decides.{nat_tests}
use Rattle.std.proofs.lemmas.List.{nil_from_length}
use Rattle.std.specs.List.{prefix_len}
use Rattle.text_lines.proofs.Lemmas.{take-one_more, drop-one_more}
use Rattle.trace_lines.specs.Fields.{is_blank, before_comment, begins_inside_field, first_grown, parted, fields_of}
use Rattle.trace_lines.specs.Fields.{is_within, front_field, has_fields}

comment-later : (b : ℕ) (bytes : List ℕ) → (b == 35) ≡ false → before_comment (b ∷ bytes) ≡ b ∷ before_comment bytes
comment-later b bytes e = rw (e, take-one_more (prefix_len (λ c. not (c == 35)) bytes) b bytes) refl

no-comment : (b : ℕ) → is_blank b ≡ true → (b == 35) ≡ false
no-comment b e = grind (arith, nat_tests)

within-parts : (b : ℕ) → is_within b ≡ true → (is_blank b ≡ false) × ((b == 35) ≡ false)
within-parts b e = (grind (arith, nat_tests), grind (arith, nat_tests))

parted-blank : (b : ℕ) (bytes : List ℕ) → is_blank b ≡ true → parted (b ∷ bytes) ≡ parted bytes
unfolding parted
parted-blank b bytes e = rw e refl

parted-alone : (b : ℕ) (bytes : List ℕ) → is_blank b ≡ false → begins_inside_field bytes ≡ false →
    parted (b ∷ bytes) ≡ (b ∷ []) ∷ parted bytes
unfolding parted
parted-alone b bytes e f = rw (e, f) refl

parted-joined : (b : ℕ) (bytes : List ℕ) → is_blank b ≡ false → begins_inside_field bytes ≡ true →
    parted (b ∷ bytes) ≡ first_grown b (parted bytes)
unfolding parted
parted-joined b bytes e f = rw (e, f) refl

fields-blank : (b : ℕ) (bytes : List ℕ) → is_blank b ≡ true → fields_of (b ∷ bytes) ≡ fields_of bytes
fields-blank b bytes e = grind (arith, nat_tests, common_steps, comment-later, no-comment, parted-blank)

-- whether a field goes on
goes-on : (b : ℕ) (bytes : List ℕ) → begins_inside_field (before_comment (b ∷ bytes)) ≡ is_within b
unfolding begins_inside_field
goes-on b bytes = let q0 = cases_Bool (b == 35) in grind (arith, nat_tests, q0)

ends : begins_inside_field (before_comment []) ≡ false
unfolding begins_inside_field
ends = refl

-- a field in front goes as far as its bytes
field-first : (b : ℕ) (bytes : List ℕ) → is_within b ≡ true → fields_of (b ∷ bytes)
    ≡ (b ∷ take (prefix_len is_within bytes) bytes) ∷ fields_of (drop (prefix_len is_within bytes) bytes)
field-first b [] h = grind (arith, nat_tests, common_steps, comment-later, ends, parted-alone, within-parts)
field-first b (c ∷ bytes) h =
    let w = within-parts b h in
    let n : ℕ = prefix_len is_within bytes in
    elim (cases_Bool (is_within c)) [
      | inl e ↦ rw (e, drop-one_more n c bytes, take-one_more n c bytes, comment-later b (c ∷ bytes) w.1)
          (parted-joined b (before_comment (c ∷ bytes)) w.0 (goes-on c bytes ∙ e)
          ∙ ap (first_grown b) (field-first c bytes e))
      | inr e ↦ rw (e, comment-later b (c ∷ bytes) w.1)
          (parted-alone b (before_comment (c ∷ bytes)) w.0 (goes-on c bytes ∙ e))
    ]

fronted-none : front_field [] ≡ []
unfolding front_field
fronted-none = refl

fronted-first : (b : ℕ) (bytes : List ℕ) → is_blank b ≡ false → fields_of (b ∷ bytes) ≡ front_field (b ∷ bytes)
unfolding front_field parted
fronted-first b bytes e =
    let n : ℕ = prefix_len is_within bytes in
    elim (cases_Bool (is_within b)) [
      | inl h ↦ grind (arith, nat_tests, common_steps, drop-one_more, field-first, take-one_more)
      | inr h ↦ grind (arith, nat_tests)
    ]

-- behind the blanks in front
pub fronted : (line : List ℕ) → fields_of line ≡ front_field (drop (prefix_len is_blank line) line)
unfolding parted
fronted [] = sym fronted-none
fronted (b ∷ bytes) =
    let q0 = fronted bytes in
    grind (arith, nat_tests, common_steps, q0, cases_Bool, drop-one_more, fields-blank, fronted-first)

pub fronted-by : (line bytes : List ℕ) (n : ℕ) → n ≡ prefix_len is_blank line → bytes ≡ drop n line →
    fields_of line ≡ front_field bytes
fronted-by line bytes n e f = rw (f, e) (fronted line)

pub none-fronted : (bytes : List ℕ) → prefix_len is_within bytes ≡ 0 → front_field bytes ≡ []
unfolding front_field
none-fronted bytes e = rw e refl

pub one-fronted : (bytes : List ℕ) (n : ℕ) → n ≡ prefix_len is_within bytes → 0 < n →
    front_field bytes ≡ take n bytes ∷ fields_of (drop n bytes)
unfolding front_field
one-fronted bytes n e lt = let some : (n == 0) ≡ false = grind (arith, nat_tests) in rw (sym e, some) refl

has-none : has_fields (front_field []) ≡ false
unfolding front_field
has-none = refl

pub fronted-has_none : (bytes : List ℕ) → length bytes ≡ 0 → has_fields (front_field bytes) ≡ false
fronted-has_none bytes e = rw (nil_from_length bytes e) has-none

pub fronted-has : (bytes : List ℕ) → 0 < length bytes →
    has_fields (front_field bytes) ≡ is_within (get_or bytes 0 0)
unfolding front_field
fronted-has [] lt = absurd (omega arith)
fronted-has (b ∷ bytes) lt = let q0 = cases_Bool (is_within b) in grind (arith, nat_tests, q0)
