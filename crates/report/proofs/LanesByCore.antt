-- Steps by core: the lists that there are, the programs that they give, and the words that they name.
use Rattle.std.proofs.Common.{◌≡◌, ◌≤◌, ◌<◌, ◌||◌, ℕ, zero, suc, Bool, true, false, cond, List, [], ◌∷◌, ◌++◌}
use Rattle.std.proofs.Common.{map, Option, Some, None, refl, sym, ap, ◌∙◌, arith, inl, inr}
use Rattle.std.proofs.lemmas.Bool.{cases_lt, eq-eqb, ne_eqb}
use Rattle.std.proofs.lemmas.List.{get_or_past}
use Rattle.std.proofs.Math.Bool.{or-false, or_assoc}
use Rattle.std.specs.Cmp.{nat_cmp_total}
use Rattle.std.specs.FinMap.{FinMap, empty, insert, get, get-empty, get-insert, same_map, nat_cmp-IsAntisymmetric}
use Rattle.std.specs.List.{list_any}
use Rattle.std.specs.Ordering.{nat_cmp, eq_by_cmp}
use Rattle.physiological_order.specs.declared.operation.Op.{Op}
use Rattle.physiological_order.specs.Order.{address}
use Rattle.programs.specs.declared.steps.Step.{Step}
use Rattle.programs.specs.declared.steps.Step.TheVariants as step
use Rattle.trace_reader.specs.Steps.{IsByCore, cores_of, lane, ops_of, steps_of, with_words}
use Rattle.streamed_runs.specs.StreamStates.{lanes_for}
use Rattle.streamed_runs.proofs.Lemmas.{lane_of, lanes_count}
use Rattle.report.specs.Runs.{programs_below, words_below}

-- ---- lists by core

-- no steps of a core past the greatest
none_past : (told : List (ℕ × Step)) (core : ℕ) → cores_of told ≤ core → steps_of core told ≡ []
none_past [] core past = refl
none_past (t ∷ told) core past =
    let other : t.0 ≡ core → ⊥ = λ same. omega (arith, same, past) in
    ap (λ (b : Bool). cond b (t.1 ∷ steps_of core told) (steps_of core told)) (ne_eqb t.0 core other)
    ∙ none_past told core (omega (arith, past))

-- any steps stand by core
pub by_core : (told : List (ℕ × Step)) → IsByCore told (lanes_for (cores_of told) told)
by_core told = (
  lanes_count (cores_of told) told,
  λ core. elim (cases_lt core (cores_of told)) [
    | inl below ↦ lane_of (cores_of told) told core below
    | inr past ↦
        get_or_past (lanes_for (cores_of told) told) core [] (omega (arith, past, lanes_count (cores_of told) told))
        ∙ sym (none_past told core past)
  ],
)

pub same_lanes : (told : List (ℕ × Step)) (lanes : List (List Step)) → IsByCore told lanes → (n : ℕ) →
    lanes_for n told ≡ programs_below lanes n
same_lanes told lanes is zero = refl
same_lanes told lanes is (suc n) =
    ap (λ (ls : List (List Step)). ls ++ steps_of n told ∷ []) (same_lanes told lanes is n)
    ∙ ap (λ (steps : List Step). programs_below lanes n ++ steps ∷ []) (sym (is.1 n))

-- ---- words

abbrev names : ℕ → Op → Bool
names word op = eq_by_cmp nat_cmp word (address op)

-- whether a word is named
abbrev found : Bool → Option ℕ → Option ℕ
found named other = cond named (Some 0) other

found_twice : (a b : Bool) (other : Option ℕ) → found a (found b other) ≡ found (b || a) other
found_twice true true other = refl
found_twice true false other = refl
found_twice false true other = refl
found_twice false false other = refl

in_words : (words : FinMap nat_cmp ℕ) (ops : List Op) (word : ℕ) →
    get (with_words words ops) word ≡ found (list_any (names word) ops) (get words word)
in_words words [] word = refl
in_words words (op ∷ ops) word =
    in_words (insert words (address op) 0) ops word
    ∙ ap (found (list_any (names word) ops)) (get-insert nat_cmp_total words (address op) 0 word)
    ∙ found_twice (list_any (names word) ops) (names word op) (get words word)

-- whether the steps of cores below a number name a word
abbrev named_below : List (ℕ × Step) → ℕ → ℕ → Bool
named_below told word zero = false
named_below told word (suc core) =
    named_below told word core || list_any (names word) (ops_of (steps_of core told))

in_lanes : (told : List (ℕ × Step)) (lanes : List (List Step)) → IsByCore told lanes → (n word : ℕ) →
    get (words_below lanes n) word ≡ found (named_below told word n) None
in_lanes told lanes is zero word = get-empty nat_cmp word
in_lanes told lanes is (suc n) word =
    in_words (words_below lanes n) (ops_of (lane lanes n)) word
    ∙ ap (λ (steps : List Step). found (list_any (names word) (ops_of steps)) (get (words_below lanes n) word)) (is.1 n)
    ∙ ap (found (list_any (names word) (ops_of (steps_of n told)))) (in_lanes told lanes is n word)
    ∙ found_twice (list_any (names word) (ops_of (steps_of n told))) (named_below told word n) None

-- one step more in front
abbrev any_names : ℕ → List Step → Bool
any_names word steps = list_any (names word) (ops_of steps)

none_names : (word : ℕ) → any_names word [] ≡ false
unfolding ops_of
none_names word = refl

first_names : (word : ℕ) (s : Step) (steps : List Step) →
    any_names word (s ∷ steps) ≡ (any_names word (s ∷ []) || any_names word steps)
unfolding ops_of
first_names word (step.Op op) steps = ap (λ b. b || any_names word steps) (sym (or-false (names word op)))
first_names word step.Advance steps = refl

moved : (a b c : Bool) → (b || (a || c)) ≡ (a || (b || c))
moved true true c = refl
moved true false c = refl
moved false b c = refl

-- no core below a number has the first step, or one has
above : (t : ℕ × Step) (told : List (ℕ × Step)) (word n : ℕ) → n ≤ t.0 →
    named_below (t ∷ told) word n ≡ named_below told word n
above t told word zero past = refl
above t told word (suc n) past =
    let other : t.0 ≡ n → ⊥ = λ same. omega (arith, same, past) in
    ap (λ b. b || any_names word (steps_of n (t ∷ told))) (above t told word n (omega (arith, past)))
    ∙ ap (λ b. named_below told word n || any_names word (cond b (t.1 ∷ steps_of n told) (steps_of n told)))
    (ne_eqb t.0 n other)

below : (t : ℕ × Step) (told : List (ℕ × Step)) (word n : ℕ) → t.0 < n →
    named_below (t ∷ told) word n ≡ (any_names word (t.1 ∷ []) || named_below told word n)
below t told word zero among = absurd (omega (arith, among))
below t told word (suc n) among = elim (cases_lt t.0 n) [
  | inl before ↦
      let other : t.0 ≡ n → ⊥ = λ same. omega (arith, same, before) in
      ap (λ b. b || any_names word (steps_of n (t ∷ told))) (below t told word n before)
      ∙ ap (λ b. (any_names word (t.1 ∷ []) || named_below told word n)
      || any_names word (cond b (t.1 ∷ steps_of n told) (steps_of n told))) (ne_eqb t.0 n other)
      ∙ or_assoc (any_names word (t.1 ∷ [])) (named_below told word n) (any_names word (steps_of n told))
  | inr behind ↦
      let same : t.0 ≡ n = omega (arith, among, behind) in
      ap (λ b. b || any_names word (steps_of n (t ∷ told))) (above t told word n (omega (arith, behind)))
      ∙ ap (λ b. named_below told word n || any_names word (cond b (t.1 ∷ steps_of n told) (steps_of n told)))
      (eq-eqb t.0 n same)
      ∙ ap (λ b. named_below told word n || b) (first_names word t.1 (steps_of n told))
      ∙ moved (any_names word (t.1 ∷ [])) (named_below told word n) (any_names word (steps_of n told))
]

none_below : (word n : ℕ) → named_below [] word n ≡ false
none_below word zero = refl
none_below word (suc n) = rw (none_below word n, none_names word) refl

named : (told : List (ℕ × Step)) (word n : ℕ) → cores_of told ≤ n →
    any_names word (map (λ t. t.1) told) ≡ named_below told word n
named [] word n most = none_names word ∙ sym (none_below word n)
named (t ∷ told) word n most =
    first_names word t.1 (map (λ t. t.1) told)
    ∙ ap (λ b. any_names word (t.1 ∷ []) || b) (named told word n (omega (arith, most)))
    ∙ sym (below t told word n (omega (arith, most)))

-- the words that steps name in the order of the text are those that their cores name
pub same_words : (told : List (ℕ × Step)) (lanes : List (List Step)) → IsByCore told lanes → (n : ℕ) →
    cores_of told ≤ n → with_words empty (ops_of (map (λ t. t.1) told)) ≡ words_below lanes n
same_words told lanes is n most = same_map nat_cmp_total nat_cmp-IsAntisymmetric _ _ (λ word.
    in_words empty (ops_of (map (λ t. t.1) told)) word
    ∙ ap (found (any_names word (map (λ t. t.1) told))) (get-empty nat_cmp word)
    ∙ ap (λ b. found b None) (named told word n most) ∙ sym (in_lanes told lanes is n word))
