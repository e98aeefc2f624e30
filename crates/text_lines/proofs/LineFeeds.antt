-- Bytes before a line feed, by which of some are line feeds.
use Rattle.std.proofs.Common.{◌≡◌, ℕ, zero, suc, ◌+◌, ◌<◌, ◌≤◌, ◌==◌, Bool, List, [], ◌∷◌, length}
use Rattle.std.proofs.Common.{map, take, drop, refl, sym, ap, ◌∙◌, arith, inl, inr}
use Rattle.std.specs.List.{prefix_len}
use Rattle.std.proofs.lemmas.Bool.{cases_Bool}
use Rattle.std.proofs.lemmas.List.{length-take, length-drop, drop-drop}
use Rattle.std.proofs.lemmas.Simd.{trailing_mask_l}
use lib.Count.{count_trailing_zeros}
use lib.Lanes.{mask_l}
use Rattle.text_lines.specs.Lines.{is_within_line}

abbrev pub is_line_feed : ℕ → Bool
is_line_feed b = b == 10

-- one of n bytes is a line feed: those before it are the same of all
some-run : (n : ℕ) (bytes : List ℕ) → 0 < mask_l (map is_line_feed (take n bytes)) →
    prefix_len is_within_line (take n bytes) ≡ prefix_len is_within_line bytes
some-run zero bytes lt = absurd (omega arith)
some-run (suc n) [] lt = refl
some-run (suc n) (b ∷ bytes) lt =
    elim (cases_Bool (is_line_feed b)) [
      | inl e ↦ rw e refl
      | inr e ↦ let lt' = rw e at lt in
          let less : 0 < mask_l (map is_line_feed (take n bytes)) = omega (arith, lt') in
          rw (e, some-run n bytes less) refl
    ]

-- none of n bytes is
no-run : (n : ℕ) (bytes : List ℕ) → n ≤ length bytes → mask_l (map is_line_feed (take n bytes)) ≡ 0 →
    prefix_len is_within_line bytes ≡ n + prefix_len is_within_line (drop n bytes)
no-run zero bytes le none = omega arith
no-run (suc n) [] le none = absurd (omega arith)
no-run (suc n) (b ∷ bytes) le none =
    elim (cases_Bool (is_line_feed b)) [
      | inl e ↦ let none' = rw e at none in absurd (omega (arith, none'))
      | inr e ↦ let none' = rw e at none in
          let later : mask_l (map is_line_feed (take n bytes)) ≡ 0 = omega (arith, none') in
          let known = no-run n bytes (omega arith) later in
          rw e (omega (arith, known))
    ]

pub line-ends : (text : List ℕ) (at mask : ℕ) → mask ≡ mask_l (map is_line_feed (take 16 (drop at text))) →
    0 < mask → prefix_len is_within_line text ≡ at + prefix_len is_within_line (drop at text) →
    at + count_trailing_zeros 64 mask ≡ prefix_len is_within_line text
line-ends text at mask e lt known =
    let some : 0 < mask_l (map is_line_feed (take 16 (drop at text))) = omega (arith, e, lt) in
    let short : length (take 16 (drop at text)) ≤ 64 = grind (arith, length-take) in
    let here = trailing_mask_l is_line_feed 64 (take 16 (drop at text)) short some ∙ some-run 16 (drop at text) some in
    rw e (omega (arith, known, here))

pub line-goes-on : (text : List ℕ) (at mask : ℕ) → mask ≡ mask_l (map is_line_feed (take 16 (drop at text))) →
    mask ≡ 0 → at + 16 ≤ length text →
    prefix_len is_within_line text ≡ at + prefix_len is_within_line (drop at text) →
    prefix_len is_within_line text ≡ at + 16 + prefix_len is_within_line (drop (at + 16) text)
line-goes-on text at mask e none le known =
    let room : 16 ≤ length (drop at text) = grind (arith, length-drop) in
    let later = no-run 16 (drop at text) room (sym e ∙ none) in
    let there : prefix_len is_within_line (drop 16 (drop at text)) ≡ prefix_len is_within_line (drop (at + 16) text)
    = ap (prefix_len is_within_line) (drop-drop 16 at text) in
    omega (arith, known, later, there)
