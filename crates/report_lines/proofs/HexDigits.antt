-- Hexadecimal digits, the last one behind the others.
use Rattle.std.proofs.Common.{◌≡◌, ℕ, zero, suc, ◌-◌, ◌/◌, ◌%◌, ◌<◌, ◌≤◌, true, false, List, [], ◌∷◌, ◌++◌, drop, set}
use Rattle.std.proofs.Common.{length, refl, sym, ap, ◌∙◌, arith, append_assoc, ◌+◌}
use Rattle.std.specs.Prelude.{nat_lt}
use Rattle.std.proofs.lemmas.List.{drop-set}
use Rattle.std.proofs.lemmas.Bool.Decides.{nat_tests}
use Rattle.report_lines.specs.Hexadecimal.{hex_glyph, hex_digits}

pub hex-one : (places n : ℕ) → (places ≡ 0 → ⊥) → n < 16 → hex_digits places n ≡ hex_glyph n ∷ []
hex-one zero n some lt = absurd (some refl)
hex-one (suc places) n some lt = let small : nat_lt n 16 ≡ true = grind (arith, nat_tests) in rw small refl

pub hex-more : (places n : ℕ) → (places ≡ 0 → ⊥) → 16 ≤ n →
    hex_digits places n ≡ hex_digits (places - 1) (n / 16) ++ hex_glyph (n % 16) ∷ []
hex-more zero n some ge = absurd (some refl)
hex-more (suc places) n some ge =
    let large : nat_lt n 16 ≡ false = grind (arith, nat_tests) in
    let less : suc places - 1 ≡ places = omega arith in rw (large, less) refl

-- the last digit stands before the end
last-put : (bytes : List ℕ) (end glyph : ℕ) → 0 < end → end ≤ length bytes →
    drop (end - 1) (set bytes (end - 1) glyph) ≡ glyph ∷ drop end bytes
last-put bytes end glyph some le =
    let lt : end - 1 < length bytes = omega arith in
    let same : end - 1 + 1 ≡ end = omega arith in
    drop-set bytes (end - 1) glyph lt ∙ ap (λ k. glyph ∷ drop k bytes) same

pub hex-alone : (places n glyph end : ℕ) (bytes : List ℕ) → (places ≡ 0 → ⊥) → n < 16 → glyph ≡ hex_glyph (n % 16) →
    places ≤ end → end ≤ length bytes →
    drop (end - 1) (set bytes (end - 1) glyph) ≡ hex_digits places n ++ drop end bytes
hex-alone places n glyph end bytes some lt e room le =
    let whole : n % 16 ≡ n = omega arith in
    let begun : 0 < end = omega (arith, some) in
    rw (hex-one places n some lt, e, whole) (last-put bytes end (hex_glyph n) begun le)

-- the other digits stand before the last
pub hex-behind : (places n glyph end : ℕ) (bytes new : List ℕ) → (places ≡ 0 → ⊥) → 16 ≤ n →
    glyph ≡ hex_glyph (n % 16) → places ≤ end → end ≤ length bytes →
    new ≡ hex_digits (places - 1) (n / 16) ++ drop (end - 1) (set bytes (end - 1) glyph) →
    new ≡ hex_digits places n ++ drop end bytes
hex-behind places n glyph end bytes new some ge e room le h =
    let begun : 0 < end = omega (arith, some) in
    rw (h, last-put bytes end glyph begun le, e, hex-more places n some ge)
    (sym (append_assoc (hex_digits (places - 1) (n / 16)) (hex_glyph (n % 16) ∷ []) (drop end bytes)))
