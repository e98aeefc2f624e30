-- A run of a trace has no more records than the trace's text has lines.
use Rattle.std.proofs.Common.{◌≡◌, ℕ, zero, suc, ◌+◌, ◌<◌, ◌≤◌, ◌==◌, max, Bool, true, false, List, [], ◌∷◌, map}
use Rattle.std.proofs.Common.{length, Some, refl, ap, ◌∙◌, arith, inl, inr}
use Rattle.std.proofs.lemmas.Bool.{cases_Bool, cases_lt, eq-eqb, ne_eqb, cases_eq}
use Rattle.std.proofs.lemmas.List.{length-map}
use Rattle.std.proofs.lemmas.List.Sorted.{length_permutation}
use Rattle.std.specs.Prelude.{slice_get}
use Rattle.std.specs.FinMap.{empty}
use Rattle.physiological_order.specs.declared.operation.Op.{Op}
use Rattle.physiological_order.specs.declared.operation.Record.{Record}
use Rattle.physiological_order.specs.Order.{Follows, Legal, flat, of_core}
use Rattle.trace_lines.specs.declared.steps.Form.{Form}
use Rattle.trace_lines.specs.declared.steps.Form.TheVariants.{One, Two}
use Rattle.programs.specs.declared.steps.Step.{Step}
use Rattle.programs.specs.declared.steps.Step.TheVariants as step
use Rattle.trace_lines.specs.Fields.{fields_of}
use Rattle.trace_reader.specs.declared.limits.TheConstants.{MOST_LINES}
use Rattle.trace_reader.specs.Grammar.{IsTrace, TellSteps, TellTrace}
use Rattle.text_lines.specs.Lines.{lines_of}
use Rattle.trace_reader.specs.Lines.{with_fields, worded}
use Rattle.trace_reader.specs.Steps.{lane, ops_of, steps_of, trace_ops}
use Rattle.report.proofs.InTrace.{issued_is}

-- ---- a list of which each number stands as often in another one is no longer than that

counted : Bool → ℕ
counted true = 1
counted false = 0

-- how many of these numbers are this one, and how many are below it
is_one : ℕ → List ℕ → ℕ
is_one n [] = 0
is_one n (x ∷ xs) = counted (x == n) + is_one n xs

is_below : ℕ → List ℕ → ℕ
is_below zero xs = 0
is_below (suc n) xs = is_below n xs + is_one n xs

-- one more than the greatest
top : List ℕ → ℕ
top [] = 0
top (x ∷ xs) = max (suc x) (top xs)

none_below : (n : ℕ) → is_below n [] ≡ 0
unfolding is_below is_one
none_below zero = refl
none_below (suc n) = let h = none_below n in omega (arith, h)

-- one more number counts once below each number past it
past_it : (n x : ℕ) (xs : List ℕ) → (n ≤ x → is_below n (x ∷ xs) ≡ is_below n xs)
    × (x < n → is_below n (x ∷ xs) ≡ suc (is_below n xs))
unfolding counted is_below is_one
past_it zero x xs = (λ le. refl, λ lt. absurd (omega (arith, lt)))
past_it (suc n) x xs = elim (cases_eq x n) [
  | inl same ↦ (
    λ le. absurd (omega (arith, le, same)),
    λ lt.
        let before = (past_it n x xs).0 (omega (arith, same)) in
        let once : counted (x == n) ≡ 1 = ap counted (eq-eqb x n same) in
        omega (arith, before, once),
  )
  | inr other ↦
      let never : counted (x == n) ≡ 0 = ap counted (ne_eqb x n other) in (
        λ le. let before = (past_it n x xs).0 (omega (arith, le)) in omega (arith, before, never),
        λ lt. elim (cases_lt x n) [
          | inl less ↦ let before = (past_it n x xs).1 less in omega (arith, before, never)
          | inr more ↦ absurd (other (omega (arith, lt, more)))
        ],
      )
]

all_below : (n : ℕ) (xs : List ℕ) → top xs ≤ n → is_below n xs ≡ length xs
unfolding top
all_below n [] le = none_below n
all_below n (x ∷ xs) le =
    let here : x < n = omega (arith, le) in
    let later : top xs ≤ n = omega (arith, le) in
    (past_it n x xs).1 here ∙ ap suc (all_below n xs later)

some_below : (n : ℕ) (xs : List ℕ) → is_below n xs ≤ length xs
some_below n [] = let h = none_below n in omega (arith, h)
some_below n (x ∷ xs) =
    let h = some_below n xs in elim (cases_lt x n) [
      | inl less ↦ let one = (past_it n x xs).1 less in omega (arith, h, one)
      | inr more ↦ let one = (past_it n x xs).0 more in omega (arith, h, one)
    ]

below_too : (xs ys : List ℕ) → ((k : ℕ) → is_one k xs ≤ is_one k ys) → (n : ℕ) → is_below n xs ≤ is_below n ys
unfolding is_below
below_too xs ys each zero = omega arith
below_too xs ys each (suc n) = let h = below_too xs ys each n in let k = each n in omega (arith, h, k)

no_longer : (xs ys : List ℕ) → ((k : ℕ) → is_one k xs ≤ is_one k ys) → length xs ≤ length ys
no_longer xs ys each =
    let all = all_below (top xs) xs (omega arith) in
    let few = below_too xs ys each (top xs) in
    let some = some_below (top xs) ys in
    omega (arith, all, few, some)

-- ---- records of a core and steps of a core

of_core_count : (core : ℕ) (rs : List Record) → length (of_core core rs) ≡ is_one core (map (λ r. r.core) rs)
unfolding counted is_one
of_core_count core [] = refl
of_core_count core (r ∷ rs) = elim (cases_Bool (r.core == core)) [
  | inl e ↦ let h = of_core_count core rs in rw e (omega (arith, h))
  | inr e ↦ let h = of_core_count core rs in rw e (omega (arith, h))
]

steps_count : (core : ℕ) (told : List (ℕ × Step)) → length (steps_of core told) ≡ is_one core (map (λ t. t.0) told)
unfolding counted is_one
steps_count core [] = refl
steps_count core (t ∷ told) = elim (cases_Bool (t.0 == core)) [
  | inl e ↦ let h = steps_count core told in rw e (omega (arith, h))
  | inr e ↦ let h = steps_count core told in rw e (omega (arith, h))
]

few_ops : (steps : List Step) → length (ops_of steps) ≤ length steps
unfolding ops_of
few_ops [] = omega arith
few_ops (step.Op op ∷ steps) = let h = few_ops steps in omega (arith, h)
few_ops (step.Advance ∷ steps) = let h = few_ops steps in omega (arith, h)

found_below : {X : Type 0} (xs : List X) (k : ℕ) (x : X) → slice_get xs k ≡ Some x → k < length xs
found_below [] k x is = absurd cc
found_below (y ∷ ys) zero x is = omega arith
found_below (y ∷ ys) (suc k) x is = let h = found_below ys k x is in omega (arith, h)

few_follow : (k : ℕ) (ops : List Op) (rs : List Record) → k ≤ length ops → Follows k ops rs →
    k + length rs ≤ length ops
few_follow k ops [] below follows = omega (arith, below)
few_follow k ops (r ∷ rs) below follows =
    let here = found_below ops k r.op follows.1 in
    let later = few_follow (k + 1) ops rs (omega (arith, here)) follows.2 in
    omega (arith, later)

-- ---- steps and lines

with_fields_count : (fields : List (List ℕ)) (lines : List (List (List ℕ))) →
    length (with_fields fields lines) ≤ suc (length lines)
with_fields_count [] lines = omega arith
with_fields_count (field ∷ fields) lines = omega arith

worded_count : (lines : List (List ℕ)) → length (worded lines) ≤ length lines
unfolding worded
worded_count [] = omega arith
worded_count (line ∷ lines) =
    let h = worded_count lines in let k = with_fields_count (fields_of line) (worded lines) in omega (arith, h, k)

told_count : (form : Form) (lines : List (List (List ℕ))) (told : List (ℕ × Step)) → TellSteps form lines told →
    length told ≡ length lines
unfolding TellSteps
told_count form [] [] is = refl
told_count form (fields ∷ lines) (t ∷ told) is = ap suc (told_count form lines told is.1)
told_count form [] (t ∷ told) is = absurd is
told_count form (fields ∷ lines) [] is = absurd is

trace_count : (lines : List (List (List ℕ))) (told : List (ℕ × Step)) → TellTrace lines told →
    length told ≤ length lines
trace_count [] told is = let none = ap length is in omega (arith, none)
trace_count (first ∷ lines) told (inl is) =
    let same = told_count One (first ∷ lines) told is.1 in omega (arith, same)
trace_count (first ∷ lines) told (inr is) =
    let same = told_count Two lines told is.1 in omega (arith, same)

pub few_records : (bytes : List ℕ) (lanes : List (List Step)) (records : List Record) → IsTrace bytes lanes →
    Legal (flat empty) (trace_ops lanes) records → length records ≤ MOST_LINES
few_records bytes lanes records is legal =
    let told = is.1.0 in
    let arranged = legal.arranged in
    let few = is.0.0 in
    let lines = worded_count (lines_of bytes) in
    let steps = trace_count (worded (lines_of bytes)) told is.1.1 in
    let same = length_permutation records arranged legal.arrangement.same_members in
    let cores = length-map arranged (λ (r : Record). r.core) in
    let whose = length-map told (λ (t : ℕ × Step). t.0) in
    let each = no_longer (map (λ (r : Record). r.core) arranged) (map (λ (t : ℕ × Step). t.0) told) (λ core.
    let own = of_core_count core arranged in
    let given = steps_count core told in
    let kept = few_follow 0 (trace_ops lanes core) (of_core core arranged) (omega arith) (legal.program_order core) in
    let ops = ap length (issued_is lanes core) in
    let most = few_ops (lane lanes core) in
    let lane_is = ap length (is.1.2.1 core) in
    omega (arith, own, given, kept, ops, most, lane_is)) in
    omega (arith, few, lines, steps, same, cores, whose, each)
