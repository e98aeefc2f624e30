-- How many copies there are, and how many of them may leave.
use Rattle.std.proofs.Common.{◌≡◌, ◌≢◌, ℕ, zero, suc, ◌+◌, ◌%◌, true, false, not, cond, List, [], ◌∷◌, length}
use Rattle.std.proofs.Common.{filter, inl, inr, Option, Some, None, refl, sym, ap, ◌∙◌, arith}
use Rattle.std.specs.Option.{is_some}
use Rattle.std.proofs.lemmas.Bool.{cases_eq, eq-eqb, false_from_ne_true, ne_eqb}
use Rattle.std.proofs.lemmas.List.{length-append}
use Rattle.std.proofs.lemmas.List.Elements.{filter-append}
use Rattle.line_sets.specs.Order.{find, is_there, lines_passing, IsDistinct}
use Rattle.ranked_lines.specs.Rising.{all_but}
use Rattle.line_sets.specs.SetTable.{Sets, all_listed, set_at}
use Rattle.private_cache.specs.declared.line_copy.LineCopy.{LineCopy}
use Rattle.private_cache.specs.CopyTable.{copy_of, is_pinned}
use Rattle.private_cache.specs.FreeLines.{free_lines, has_pinned}
use Rattle.private_cache.specs.OwnSets.{IsSound}

-- the numbers but the pinned one
pub unpinned : (pinned : Option ℕ) (xs : List ℕ) → all_but pinned xs ≡ filter (λ x. not (is_pinned pinned x)) xs
unpinned None xs = refl
unpinned (Some line) xs = refl

pub all-free : (xs : List ℕ) → length (filter (λ x. not (is_pinned None x)) xs) ≡ length xs
all-free [] = refl
all-free (x ∷ xs) = ap suc (all-free xs)

-- the copies of one set, and of all
abbrev lines : List (ℕ × LineCopy) → List ℕ
lines ps = lines_passing (λ copy. true) ps

abbrev all_lines : List (List (ℕ × LineCopy)) → List ℕ
all_lines sets = all_listed (λ copy. true) sets

module _ (line : ℕ) where
  abbrev others : List ℕ → List ℕ
  others xs = filter (λ x. not (is_pinned (Some line) x)) xs

  -- 1 where the line is in a set
  abbrev here : List (ℕ × LineCopy) → ℕ
  here ps = cond (is_there ps line) 1 0

  in-set : (ps : List (ℕ × LineCopy)) → IsDistinct ps → length (others (lines ps)) + here ps ≡ length (lines ps)
  in-set [] once = refl
  in-set (p ∷ ps) once = elim (cases_eq p.0 line) [
    | inl e ↦
        let none : is_there ps line ≡ false = ap (λ j. is_there ps j) (sym e) ∙ once.0 in
        let zero_here : ◌≡◌ {A = ℕ} (here ps) 0 = ap (λ b. cond b 1 0) none in
        let later = in-set ps once.1 in
        ap (λ b. length (cond (not b) (p.0 ∷ others (lines ps)) (others (lines ps))) + here (p ∷ ps))
        (eq-eqb line p.0 (sym e))
        ∙ ap (λ b. length (others (lines ps)) + cond (is_some (cond b (Some p.1) (find ps line))) 1 0)
        (eq-eqb p.0 line e)
        ∙ omega (arith, later, zero_here)
    | inr ne ↦
        let later = in-set ps once.1 in
        ap (λ b. length (cond (not b) (p.0 ∷ others (lines ps)) (others (lines ps))) + here (p ∷ ps))
        (ne_eqb line p.0 (λ e. ne (sym e)))
        ∙ ap (λ b. suc (length (others (lines ps))) + cond (is_some (cond b (Some p.1) (find ps line))) 1 0)
        (ne_eqb p.0 line ne)
        ∙ omega (arith, later)
  ]

  set-first : (ps : List (ℕ × LineCopy)) (sets : List (List (ℕ × LineCopy))) →
      length (others (all_lines (ps ∷ sets))) ≡ length (others (lines ps)) + length (others (all_lines sets))
  set-first ps sets = ap length (filter-append (λ x. not (is_pinned (Some line) x)) (lines ps) (all_lines sets))
      ∙ length-append (others (lines ps)) (others (all_lines sets))

  nowhere : (sets : List (List (ℕ × LineCopy))) → ((i : ℕ) → is_there (set_at sets i) line ≡ false) →
      ((i : ℕ) → IsDistinct (set_at sets i)) → length (others (all_lines sets)) ≡ length (all_lines sets)
  nowhere [] none once = refl
  nowhere (ps ∷ sets) none once =
      let first = in-set ps (once 0) in let zero_here : ◌≡◌ {A = ℕ} (here ps) 0 = ap (λ b. cond b 1 0) (none 0) in
      let later = nowhere sets (λ i. none (suc i)) (λ i. once (suc i)) in let cut = set-first ps sets in
      let whole = length-append (lines ps) (all_lines sets) in omega (arith, first, zero_here, later, cut, whole)

  in-one : (sets : List (List (ℕ × LineCopy))) (k : ℕ) →
      ((i : ℕ) → i ≢ k → is_there (set_at sets i) line ≡ false) → ((i : ℕ) → IsDistinct (set_at sets i)) →
      length (others (all_lines sets)) + here (set_at sets k) ≡ length (all_lines sets)
  in-one [] k none once = refl
  in-one (ps ∷ sets) zero none once =
      let first = in-set ps (once 0) in
      let later = nowhere sets (λ i. none (suc i) (λ e. absurd (omega (arith, e)))) (λ i. once (suc i)) in
      let cut = set-first ps sets in let whole = length-append (lines ps) (all_lines sets) in
      omega (arith, first, later, cut, whole)
  in-one (ps ∷ sets) (suc k) none once =
      let first = in-set ps (once 0) in
      let zero_here : ◌≡◌ {A = ℕ} (here ps) 0 = ap (λ b. cond b 1 0) (none 0 (λ e. absurd (omega (arith, e)))) in
      let later = in-one sets k (λ i ne. none (suc i) (λ e. ne (omega (arith, e)))) (λ i. once (suc i)) in
      let cut = set-first ps sets in let whole = length-append (lines ps) (all_lines sets) in
      omega (arith, first, zero_here, later, cut, whole)

  -- a pinned line that has a copy has one of all copies
  pub pinned-counted : (cache : Sets LineCopy) → IsSound cache → ((i : ℕ) → IsDistinct (set_at cache.sets i)) →
      length (free_lines cache (Some line)) + cond (is_some (copy_of cache line)) 1 0
      ≡ length (all_listed (λ copy. true) cache.sets)
  pinned-counted cache sound once = in-one cache.sets (line % length cache.sets)
      (λ i ne. false_from_ne_true _ (λ there. ne (sym (sound.own_sets i line there)))) once

-- those that may leave and that of the pinned line, if there is one, are all copies
pub free-counted :
    (cache : Sets LineCopy) (pinned : Option ℕ) → IsSound cache → ((i : ℕ) → IsDistinct (set_at cache.sets i)) →
    length (free_lines cache pinned) + cond (has_pinned cache pinned) 1 0
    ≡ length (all_listed (λ copy. true) cache.sets)
free-counted cache None sound once = omega (arith, all-free (all_listed (λ copy. true) cache.sets))
free-counted cache (Some line) sound once = pinned-counted line cache sound once
