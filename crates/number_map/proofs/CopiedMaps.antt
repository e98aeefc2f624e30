-- A map that is filled from the back of a list of entries.
use Rattle.std.proofs.Common.{◌≡◌, ℕ, Bool, true, false, cond, List, [], ◌∷◌, ◌++◌, Option, Some, None, refl, sym, ap}
use Rattle.std.proofs.Common.{◌∙◌}
use Rattle.std.specs.Option.{option_or}
use Rattle.std.specs.Ordering.{nat_cmp, eq_by_cmp}
use Rattle.std.specs.Cmp.{nat_cmp_total}
use Rattle.std.specs.FinMap.{FinMap, empty, insert, entries, get, find, get-empty, get-entries, get-insert, same_map}
use Rattle.std.specs.FinMap.{nat_cmp-IsAntisymmetric}

module _ {X : Type 0} where
  or_none : (a : Option X) → option_or a None ≡ a
  or_none None = refl
  or_none (Some v) = refl

  or_cond : (b : Bool) (v : X) (a rest : Option X) → option_or (cond b (Some v) a) rest ≡ cond b
      (Some v) (option_or a rest)
  or_cond true v a rest = refl
  or_cond false v a rest = refl

  -- what the list has, and behind it what the copy has
  abbrev pub found : List (ℕ × X) → FinMap nat_cmp X → ℕ → Option X
  found es copy q = option_or (find nat_cmp q es) (get copy q)

  pub found-start : (m : FinMap nat_cmp X) (es : List (ℕ × X)) (q : ℕ) → es ≡ entries m → found es empty q ≡ get m q
  found-start m es q e =
      ap (option_or (find nat_cmp q es)) (get-empty nat_cmp q) ∙ or_none (find nat_cmp q es) ∙ ap (find nat_cmp q) e
      ∙ sym (get-entries m q)

  -- the last entry goes from the list into the copy
  found_push : (es : List (ℕ × X)) (e : ℕ × X) (rest : Option X) (q : ℕ) → option_or (find nat_cmp q es)
      (cond (eq_by_cmp nat_cmp q e.0) (Some e.1) rest) ≡ option_or (find nat_cmp q (es ++ e ∷ [])) rest
  found_push [] e rest q = sym (or_cond (eq_by_cmp nat_cmp q e.0) e.1 None rest)
  found_push (x ∷ es) e rest q =
      or_cond (eq_by_cmp nat_cmp q x.0) x.1 (find nat_cmp q es) (cond (eq_by_cmp nat_cmp q e.0) (Some e.1) rest)
      ∙ ap (cond (eq_by_cmp nat_cmp q x.0) (Some x.1)) (found_push es e rest q)
      ∙ sym (or_cond (eq_by_cmp nat_cmp q x.0) x.1 (find nat_cmp q (es ++ e ∷ [])) rest)

  pub found-insert : (es : List (ℕ × X)) (copy : FinMap nat_cmp X) (key : ℕ) (value : X) (q : ℕ) →
      found es (insert copy key value) q ≡ found (es ++ (key, value) ∷ []) copy q
  found-insert es copy key value q =
      ap (option_or (find nat_cmp q es)) (get-insert nat_cmp_total copy key value q)
      ∙ found_push es (key, value) (get copy q) q

  pub copied : (m copy : FinMap nat_cmp X) → ((q : ℕ) → found [] copy q ≡ get m q) → copy ≡ m
  copied m copy h = same_map nat_cmp_total nat_cmp-IsAntisymmetric copy m h
