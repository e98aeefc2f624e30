-- What the listed lines weigh together, before and after each change of a table: a list weighs what its numbers weigh,
-- and a number what one likes, as 1, or 1 where it is a certain one.
use Rattle.std.proofs.Common.{◌≡◌, ℕ, zero, suc, ◌+◌, ◌<◌, Bool, true, cond, List, [], ◌∷◌, ◌++◌, set, length}
use Rattle.std.proofs.Common.{Option, Some, None, arith}
use Rattle.line_sets.specs.Order.{find, is_there, lines_passing, put_in_place, put_last, without, IsDistinct}
use Rattle.line_sets.specs.SetTable.{all_listed, set_at}
use Rattle.line_sets.proofs.MissingLines.{missing-without}

-- what a line weighs if its value is listed
abbrev pub weigh : {X : Type 0} → (X → Bool) → (ℕ → ℕ) → ℕ → Option X → ℕ
weigh passes one line None = 0
weigh passes one line (Some x) = cond (passes x) (one line) 0

-- a list weighs what its numbers weigh
pub record IsSum (w : List ℕ → ℕ) (one : ℕ → ℕ) : Type 0 where
  pub none : w [] ≡ 0
  pub more : (x : ℕ) (xs : List ℕ) → w (x ∷ xs) ≡ one x + w xs

module _ {X : Type 0} (passes : X → Bool) (w : List ℕ → ℕ) (one : ℕ → ℕ) (sum : IsSum w one) where
  abbrev listed : List (ℕ × X) → ℕ
  listed ps = w (lines_passing passes ps)

  pub listed-more : (p : ℕ × X) (ps : List (ℕ × X)) → listed (p ∷ ps) ≡ weigh passes one p.0 (Some p.1) + listed ps
  listed-more p ps = let more = sum.more p.0 (lines_passing passes ps) in grind arith

  cut-first : (p : ℕ × X) (ps : List (ℕ × X)) (line : ℕ) →
      (p.0 ≡ line → without ps line ≡ ps) → listed (without ps line) + weigh passes one line (find ps line) ≡ listed
      ps →
      listed (without (p ∷ ps) line) + weigh passes one line (find (p ∷ ps) line) ≡ listed (p ∷ ps)
  cut-first p ps line gone rest =
      let after = listed-more p (without ps line) in let before = listed-more p ps in grind arith

  sum-without : (ps : List (ℕ × X)) (line : ℕ) → IsDistinct ps →
      listed (without ps line) + weigh passes one line (find ps line) ≡ listed ps
  sum-without [] line once = omega arith
  sum-without (p ∷ ps) line once =
      cut-first p ps line (λ e. missing-without ps line (rw (← e) once.0)) (sum-without ps line once.1)

  sum-push : (ps : List (ℕ × X)) (line : ℕ) (x : X) →
      listed (ps ++ (line, x) ∷ []) ≡ listed ps + weigh passes one line (Some x)
  sum-push [] line x = let first = listed-more (line, x) [] in omega (arith, first)
  sum-push (p ∷ ps) line x =
      let after = listed-more p (ps ++ (line, x) ∷ []) in let before = listed-more p ps in
      let later = sum-push ps line x in omega (arith, after, before, later)

  sum-put_last : (ps : List (ℕ × X)) (line : ℕ) (x : X) → IsDistinct ps →
      listed (put_last ps line x) + weigh passes one line (find ps line) ≡ listed ps + weigh passes one line (Some x)
  sum-put_last ps line x once =
      let cut = sum-without ps line once in let after = sum-push (without ps line) line x in omega (arith, cut, after)

  put-first : (p : ℕ × X) (ps : List (ℕ × X)) (line : ℕ) (x : X) → (is_there ps line ≡ true →
      listed (put_in_place ps line x) + weigh passes one line (find ps line) ≡ listed ps + weigh passes one line
      (Some x))
      → is_there (p ∷ ps) line ≡ true → listed (put_in_place (p ∷ ps) line x) + weigh passes one line
      (find (p ∷ ps) line) ≡ listed (p ∷ ps) + weigh passes one line (Some x)
  put-first p ps line x rest there =
      let new = listed-more (line, x) ps in let kept = listed-more p (put_in_place ps line x) in
      let before = listed-more p ps in grind arith

  sum-put_in_place : (ps : List (ℕ × X)) (line : ℕ) (x : X) → is_there ps line ≡ true →
      listed (put_in_place ps line x) + weigh passes one line (find ps line) ≡ listed ps + weigh passes one line
      (Some x)
  sum-put_in_place [] line x there = cc
  sum-put_in_place (p ∷ ps) line x there = put-first p ps line x (sum-put_in_place ps line x) there

  sum-append : (xs ys : List ℕ) → w (xs ++ ys) ≡ w xs + w ys
  sum-append [] ys = omega arith
  sum-append (x ∷ xs) ys =
      let whole = sum.more x (xs ++ ys) in let first = sum.more x xs in let later = sum-append xs ys in
      omega (arith, whole, first, later)

  -- one set is another now
  pub sum-set : (sets : List (List (ℕ × X))) (i : ℕ) (ps : List (ℕ × X)) → i < length sets →
      w (all_listed passes (set sets i ps)) + listed (set_at sets i) ≡ w (all_listed passes sets) + listed ps
  sum-set [] i ps h = absurd (omega (arith, h))
  sum-set (qs ∷ sets) zero ps h = omega (arith, sum-append)
  sum-set (qs ∷ sets) (suc i) ps h = let later = sum-set sets i ps (omega (arith, h)) in omega
      (arith, later, sum-append)

-- A set became another: what a line of it weighed went, and what is kept of the line now came.
pub record IsSwap {X : Type 0} (old new : List (ℕ × X)) (line : ℕ) (now : Option X) : Type 0 where
  pub weighs : (passes : X → Bool) (w : List ℕ → ℕ) (one : ℕ → ℕ) → IsSum w one →
      w (lines_passing passes new) + weigh passes one line (find old line)
      ≡ w (lines_passing passes old) + weigh passes one line now

module _ {X : Type 0} (ps : List (ℕ × X)) (line : ℕ) where
  pub swap-put_last : (x : X) → IsDistinct ps → IsSwap ps (put_last ps line x) line (Some x)
  swap-put_last x once = record { weighs = λ passes w one sum. sum-put_last passes w one sum ps line x once }

  pub swap-put_in_place : (x : X) → is_there ps line ≡ true → IsSwap ps (put_in_place ps line x) line (Some x)
  swap-put_in_place x there = record { weighs = λ passes w one sum. sum-put_in_place passes w one sum ps line x there }

  pub swap-without : IsDistinct ps → IsSwap ps (without ps line) line None
  swap-without once = record {
    weighs = λ passes w one sum. let cut = sum-without passes w one sum ps line once in omega (arith, cut);
  }
