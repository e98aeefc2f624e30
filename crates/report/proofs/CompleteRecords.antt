-- Of legal records, a core has those of its first operations: as many as there are records of it.
use Rattle.std.proofs.Common.{◌≡◌, ℕ, zero, suc, ◌+◌, ◌<◌, ◌≤◌, ◌==◌, Bool, true, false, cond, List, [], ◌∷◌, Contains}
use Rattle.std.proofs.Common.{filter, length, Some, slice_get, get_or, refl, sym, ap, subst, ◌∙◌, ⊎_elim, arith}
use Rattle.std.proofs.lemmas.Bool.{cases_eq, eqb-true, eq-eqb}
use Rattle.std.proofs.lemmas.List.Elements.{All-contains, All-contains_itself, All-filter, filter_passes}
use Rattle.std.proofs.lemmas.List.Sorted.{All-permutation, Contains-permutation, sum_by-IsPermutation}
use Rattle.std.proofs.lemmas.List.Sums.{length-filter}
use Rattle.std.proofs.lemmas.Option.{same_Some, slice_get-get_or, slice_get_within}
use Rattle.physiological_order.specs.declared.operation.Op.{Op}
use Rattle.physiological_order.specs.declared.operation.Op.TheVariants.{Load}
use Rattle.physiological_order.specs.declared.operation.Record.{Record}
use Rattle.physiological_order.specs.Order.{Follows, Legal, Memory, of_core}
use Rattle.report.specs.Complete.{HasRecord, count_of_core}

-- ---- records that follow a list of operations

-- the record of each place
at_place : (j place : ℕ) (ops : List Op) (op : Op) (rs : List Record) → Follows j ops rs →
    slice_get ops place ≡ Some op → j ≤ place → place < j + length rs →
    (r : Record) × Contains rs r × (r.place ≡ place) × (r.op ≡ op)
at_place j place ops op [] follows at low high = absurd (omega (arith, low, high))
at_place j place ops op (r ∷ rs) follows at low high = ⊎_elim
    (λ (here : j ≡ place). (
      r,
      (0, omega arith, refl),
      follows.0 ∙ here,
      same_Some r.op op (sym follows.1 ∙ ap (slice_get ops) here ∙ at),
    ))
    (λ (later : j ≡ place → ⊥).
    let found = at_place (j + 1) place ops op rs follows.2 at (omega (arith, low, later)) (omega (arith, high)) in
    let within = found.1.1 in
    (found.0, (suc found.1.0, omega (arith, within), found.1.2), found.2, found.3))
    (cases_eq j place)

-- no record has a later place
below : (j : ℕ) (ops : List Op) (rs : List Record) → Follows j ops rs → (r : Record) → Contains rs r →
    r.place < j + length rs
below j ops [] follows r (k, within, is) = absurd (omega (arith, within))
below j ops (s ∷ rs) follows r (zero, within, is) =
    let here : s.place ≡ r.place = ap (λ (x : Record). x.place) is in
    let first = follows.0 in
    omega (arith, here, first)
below j ops (s ∷ rs) follows r (suc k, within, is) =
    let later = below (j + 1) ops rs follows.2 r (k, omega (arith, within), is) in omega (arith, later)

-- they aren't more than the operations
no_more : (j : ℕ) (ops : List Op) (rs : List Record) → Follows j ops rs → j ≤ length ops → j + length rs ≤ length ops
no_more j ops [] follows from = omega (arith, from)
no_more j ops (r ∷ rs) follows from =
    let within = slice_get_within ops j r.op follows.1 in
    let rest = no_more (j + 1) ops rs follows.2 (omega (arith, within)) in
    omega (arith, rest)

-- what passes a test is kept
kept : {X : Type 0} (test : X → Bool) (xs : List X) (x : X) → Contains xs x → test x ≡ true →
    Contains (filter test xs) x
kept test [] x (k, within, is) passes = absurd (omega (arith, within))
kept test (y ∷ ys) x (zero, within, is) passes =
    subst (λ (b : Bool). Contains (cond b (y ∷ filter test ys) (filter test ys)) x)
    (sym (ap test is ∙ passes)) (0, omega arith, is)
kept {X} test (y ∷ ys) x (suc k, within, is) passes =
    behind (test y) (filter test ys) (kept test ys x (k, omega (arith, within), is) passes)
  where
    behind : (b : Bool) (us : List X) → Contains us x → Contains (cond b (y ∷ us) us) x
    behind true us (i, low, at) = (suc i, omega (arith, low), at)
    behind false us has = has

-- ---- legal records

module _ (opening : Memory) (issued : ℕ → List Op) (records : List Record) (legal : Legal opening issued records)
    (core : ℕ) where
  abbrev own : Record → Bool
  own r = r.core == core

  count : length (of_core core legal.arranged) ≡ count_of_core core records
  count = length-filter own legal.arranged
      ∙ sum_by-IsPermutation (λ (r : Record). cond (own r) 1 0) records legal.arranged legal.arrangement.same_members

  of_records : (r : Record) → Contains (of_core core legal.arranged) r → Contains records r
  of_records r has = All-contains (Contains records) (of_core core legal.arranged) r
      (All-filter own (Contains records) legal.arranged
      (All-permutation (Contains records) records legal.arranged legal.arrangement.same_members
      (All-contains_itself records))) has

  of_its_core : (r : Record) → Contains (of_core core legal.arranged) r → r.core ≡ core
  of_its_core r has = eqb-true r.core core
      (All-contains (λ (x : Record). own x ≡ true) (of_core core legal.arranged) r (filter_passes own legal.arranged)
      has)

  pub record_at : (place : ℕ) (op : Op) → place < count_of_core core records →
      slice_get (issued core) place ≡ Some op → HasRecord records core place op
  record_at place op below at =
      let long = count in
      let found = at_place 0 place (issued core) op (of_core core legal.arranged) (legal.program_order core) at
      (omega arith) (omega (arith, long, below)) in
      (found.0, of_records found.0 found.1, of_its_core found.0 found.1, found.2, found.3)

  pub places_below : (r : Record) → Contains records r → r.core ≡ core → r.place < count_of_core core records
  places_below r has is =
      let arranged = Contains-permutation records legal.arranged r legal.arrangement.same_members has in
      let its = kept own legal.arranged r arranged (eq-eqb r.core core is) in
      let place = below 0 (issued core) (of_core core legal.arranged) (legal.program_order core) r its in
      let long = count in
      omega (arith, place, long)

  pub at_most_all : count_of_core core records ≤ length (issued core)
  at_most_all =
      let all = no_more 0 (issued core) (of_core core legal.arranged) (legal.program_order core) (omega arith) in
      let long = count in
      omega (arith, all, long)

pub operation_at : (ops : List Op) (place : ℕ) → place < length ops → (op : Op) × (slice_get ops place ≡ Some op)
operation_at ops place within = (get_or ops place (Load 0), slice_get-get_or ops place (Load 0) within)
