-- How far a text can be read: to its end, or to the line before its first byte that isn't allowed.
use Rattle.std.proofs.Common.{◌≡◌, ℕ, ◌+◌, ◌-◌, ◌≤◌, Bool, true, false, cond, eqb, List, ◌++◌, length}
use Rattle.std.proofs.Common.{take, drop, refl, sym, ap, ◌∙◌, inl, inr, arith}
use Rattle.std.specs.Prelude.{◌⊎◌}
use Rattle.std.specs.List.{list_all, prefix_len, suffix_len}
use Rattle.std.proofs.lemmas.Bool.{eqb-true, eq-eqb, and_parts, false_from_ne_true, both_ways}
use Rattle.std.proofs.lemmas.List.{take-append-drop, length-take}
use Rattle.std.proofs.lemmas.List.Folds.{list_all-append}
use Rattle.text_lines.specs.Lines.{is_within_line}
use Rattle.litmus_lexer.specs.declared.errors.Kind.TheVariants.{BadByte, CutShort}
use Rattle.litmus_lexer.specs.declared.errors.LitmusError.{LitmusError}
use Rattle.litmus_lexer.proofs.Lemmas.{front-all, whole-front, front-whole}
use Rattle.litmus_parser.specs.Extents.{is_allowed, line_feeds, inner_line_feeds, good, whole_lines, reach}
use Rattle.litmus_reader.specs.Faults.{good_lines}

all-taken : (p : ℕ → Bool) (n : ℕ) (xs : List ℕ) → list_all p xs ≡ true → list_all p (take n xs) ≡ true
all-taken p n xs h =
    let parts : list_all p (take n xs ++ drop n xs) ≡ true = ap (list_all p) (take-append-drop n xs) ∙ h in
    (and_parts (list_all p (take n xs)) (list_all p (drop n xs)) (sym (list_all-append p (take n xs) (drop n xs))
    ∙ parts)).0

not-all : (text : List ℕ) → eqb (prefix_len is_allowed text) (length text) ≡ false → list_all is_allowed text ≡ false
not-all text shorter = false_from_ne_true (list_all is_allowed text)
    (λ all. both_ways (eqb (prefix_len is_allowed text) (length text)) shorter
    (eq-eqb _ _ (front-whole is_allowed text all)))

-- either every byte is allowed, or the lines before the first that isn't are reached
abbrev pub Reaches : List ℕ → List ℕ × LitmusError → Type 0
Reaches text r =
    ((list_all is_allowed text ≡ true) × (r.0 ≡ text) ×
    (r.1 ≡ record { line = 1 + inner_line_feeds text; kind = CutShort }))
    ⊎ ((list_all is_allowed text ≡ false) × (r.0 ≡ whole_lines (good text)) ×
    (r.1 ≡ record { line = 1 + line_feeds (good text); kind = BadByte }))

reaches-if : (text : List ℕ) (b : Bool) → (b ≡ true → list_all is_allowed text ≡ true) →
    (b ≡ false → list_all is_allowed text ≡ false)
    → Reaches text (cond b (text, record { line = 1 + inner_line_feeds text; kind = CutShort })
    (whole_lines (good text), record { line = 1 + line_feeds (good text); kind = BadByte }))
reaches-if text true all some = inl (all refl, refl, refl)
reaches-if text false all some = inr (some refl, refl, refl)

pub reaches : (text : List ℕ) → Reaches text (reach text)
reaches text = reaches-if text (eqb (prefix_len is_allowed text) (length text)) (λ e. whole-front is_allowed text
    (eqb-true _ _ e)) (not-all text)

pub good-allowed : (text : List ℕ) → list_all is_allowed (good_lines text) ≡ true
good-allowed text =
    elim (reaches text) [
      | inl h ↦ ap (list_all is_allowed) h.1 ∙ h.0
      | inr h ↦ ap (list_all is_allowed) h.1 ∙ all-taken is_allowed
          (length (good text) - suffix_len is_within_line (good text)) (good text) (front-all is_allowed text)
    ]

pub good-within : (text : List ℕ) → length (good_lines text) ≤ length text
good-within text =
    elim (reaches text) [
      | inl h ↦ let same : length (good_lines text) ≡ length text = ap length h.1 in omega (arith, same)
      | inr h ↦ let same : length (good_lines text) ≡ length (whole_lines (good text)) = ap length h.1 in
          omega (
            arith,
            same,
            length-take (length (good text) - suffix_len is_within_line (good text)) (good text),
            length-take (prefix_len is_allowed text) text,
          )
    ]
