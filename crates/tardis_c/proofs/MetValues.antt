-- What a record meets in its word: what the last write before it wrote, or the opening memory's value.
use Rattle.std.proofs.Common.{◌≡◌, ℕ, zero, suc, ◌⊎◌, Bool, true, false, cond, List, [], ◌∷◌, ◌++◌, map, Contains}
use Rattle.std.proofs.Common.{Option, Some, None, IfSome, refl, sym, ap, subst, ◌∙◌, inl, inr, arith, true≢false}
use Rattle.std.proofs.Common.{All, Any}
use Rattle.std.specs.List.{AllByRecursion as Each}
use Rattle.std.proofs.lemmas.List.Elements.{All-contains, All-from_recursion, recursion_from_All, Contains-append_cases}
use Rattle.std.proofs.lemmas.List.Elements.{Contains-append_right}
use Rattle.std.proofs.lemmas.List.Sorted.{All-permutation, Contains-permutation, IsPermutation-sym}
use Rattle.physiological_order.specs.declared.operation.Op.{Op}
use Rattle.physiological_order.specs.declared.operation.Op.TheVariants.{Load, Store, Swap}
use Rattle.physiological_order.specs.declared.operation.Record.{Record}
use Rattle.physiological_order.specs.declared.verdict.Verdict.TheVariants.{WrongValue}
use Rattle.physiological_order.specs.Faults.{IsVerdict}
use Rattle.physiological_order.specs.Order.{Arrangement, Before, Memory, NotAfter, Rises, address, flat_after}
use Rattle.physiological_order.specs.Order.{replay_end}
use Rattle.physiological_order.proofs.Lemmas.{each_weaker}
use Rattle.tardis_c.specs.declared.expected.Found.{Found}
use Rattle.tardis_c.specs.Histories.{IsFound, writer_after, wrong_value}
use Rattle.tardis_c.specs.Writes.{IsEarlier, IsLastWrite, writes, written}

-- ---- one operation

untouched : (m : Memory) (word : ℕ) (op : Op) → writes word op ≡ false → flat_after m op word ≡ m word
untouched m word (Load a) e = refl
untouched m word (Store a v) e = rw e refl
untouched m word (Swap a v) e = rw e refl

touched : (m : Memory) (word : ℕ) (op : Op) → writes word op ≡ true → flat_after m op word ≡ written op
touched m word (Load a) e = absurd (true≢false (sym e))
touched m word (Store a v) e = rw e refl
touched m word (Swap a v) e = rw e refl

-- ---- records that rise

Before-trans : (r s t : Record) → Before r s → Before s t → Before r t
Before-trans r s t h k = grind arith

Before-asym : (r s : Record) → Before r s → Before s r → ⊥
Before-asym r s h k = grind arith

Before-not_after : (r s : Record) → Before r s → NotAfter s r → ⊥
Before-not_after r s h k = grind arith

after : (r : Record) (rs : List Record) → Rises (r ∷ rs) → Each (λ s. Before r s) rs
after r [] h = tt
after r (s ∷ rs) h = (h.0, each_weaker (λ t b. Before-trans r s t h.0 b) rs (after s rs h.1))

Rises-rest : (r : Record) (rs : List Record) → Rises (r ∷ rs) → Rises rs
Rises-rest r [] h = tt
Rises-rest r (s ∷ rs) h = h.1

Rises-front : (xs ys : List Record) → Rises (xs ++ ys) → Rises xs
Rises-front [] ys h = tt
Rises-front (x ∷ []) ys h = tt
Rises-front (x ∷ y ∷ xs) ys h = (h.0, Rises-front (y ∷ xs) ys h.1)

Rises-back : (xs ys : List Record) → Rises (xs ++ ys) → Rises ys
Rises-back [] ys h = h
Rises-back (x ∷ xs) ys h = Rises-back xs ys (Rises-rest x (xs ++ ys) h)

each_front : (P : Record → Type 0) (xs ys : List Record) → Each P (xs ++ ys) → Each P xs
each_front P [] ys h = tt
each_front P (x ∷ xs) ys h = (h.0, each_front P xs ys h.1)

each_middle : (P : Record → Type 0) (xs : List Record) (f : Record) (ys : List Record) → Each P (xs ++ f ∷ ys) → P f
each_middle P [] f ys h = h.0
each_middle P (x ∷ xs) f ys h = each_middle P xs f ys h.1

each_both : (P Q R : Record → Type 0) → ((x : Record) → P x → Q x → R x) → (xs : List Record) → Each P xs →
    Each Q xs → Each R xs
each_both P Q R both [] p q = tt
each_both P Q R both (x ∷ xs) p q = (both x p.0 q.0, each_both P Q R both xs p.1 q.1)

all_before : (xs : List Record) (f : Record) (ys : List Record) → Rises (xs ++ f ∷ ys) → Each (λ x. Before x f) xs
all_before [] f ys h = tt
all_before (x ∷ xs) f ys h = (
  each_middle (λ s. Before x s) xs f ys (after x (xs ++ f ∷ ys) h),
  all_before xs f ys (Rises-rest x (xs ++ f ∷ ys) h),
)

-- ---- members

head_or_tail : (x y : Record) (xs : List Record) → Contains (x ∷ xs) y → (x ≡ y) ⊎ Contains xs y
head_or_tail x y xs (zero, lt, e) = inl e
head_or_tail x y xs (suc k, lt, e) = inr (k, omega arith, e)

split_at : (xs : List Record) (y : Record) → Contains xs y →
    (before : List Record) × (behind : List Record) × (xs ≡ before ++ y ∷ behind)
split_at [] y (k, lt, e) = absurd (omega arith)
split_at (x ∷ xs) y (zero, lt, e) = ([], xs, ap (λ r. r ∷ xs) e)
split_at (x ∷ xs) y (suc k, lt, e) =
    let s = split_at xs y (k, omega arith, e) in (x ∷ s.0, s.1, ap (λ rs. x ∷ rs) s.2)

stands_before : (xs : List Record) (f : Record) (ys : List Record) (w : Record) → Rises (xs ++ f ∷ ys) →
    Contains (xs ++ f ∷ ys) w → Before w f → Contains xs w
stands_before xs f ys w rises here before = elim (Contains-append_cases xs (f ∷ ys) w here) [
  | inl there ↦ there
  | inr behind ↦ absurd (elim (head_or_tail f w ys behind) [
    | inl e ↦ (let b = subst (λ r. Before r f) (sym e) before in Before-asym f f b b)
    | inr there ↦ Before-asym w f before (All-contains (λ s. Before f s) ys w
        (All-from_recursion (λ s. Before f s) ys (after f ys (Rises-back xs (f ∷ ys) rises))) there)
  ])
]

-- ---- what is met

none_written : (m : Memory) (writer : Option ℕ) (word : ℕ) (rs : List Record) →
    Each (λ r. writes word r.op ≡ false) rs →
    (replay_end m (map (λ r. r.op) rs) word ≡ m word) × (writer_after writer word rs ≡ writer)
none_written m writer word [] h = (refl, refl)
none_written m writer word (r ∷ rs) h =
    let rest = none_written (flat_after m r.op) writer word rs h.1 in
    (rest.0 ∙ untouched m word r.op h.0, rw h.0 rest.1)

not_true : (b : Bool) → (b ≡ true → ⊥) → b ≡ false
not_true true h = absurd (h refl)
not_true false h = refl

last_written : (m : Memory) (writer : Option ℕ) (word : ℕ) (w : Record) (rs : List Record) → Rises rs →
    Contains rs w → writes word w.op ≡ true → Each (λ r. writes word r.op ≡ true → NotAfter r w) rs →
    (replay_end m (map (λ r. r.op) rs) word ≡ written w.op) × (writer_after writer word rs ≡ Some w.number)
last_written m writer word w [] rises (k, lt, e) does latest = absurd (omega arith)
last_written m writer word w (r ∷ rs) rises (suc k, lt, e) does latest =
    last_written (flat_after m r.op) (cond (writes word r.op) (Some r.number) writer) word w rs
    (Rises-rest r rs rises) (k, omega arith, e) does latest.1
last_written m writer word w (r ∷ rs) rises (zero, lt, e) does latest =
    let r_does = subst (λ (s : Record). writes word s.op ≡ true) (sym e) does in
    let others = each_both (λ s. Before r s) (λ s. writes word s.op ≡ true → NotAfter s w)
    (λ s. writes word s.op ≡ false)
    (λ s later le. not_true (writes word s.op)
    (λ is. Before-not_after r s later (subst (λ v. NotAfter s v) (sym e) (le is)))) rs (after r rs rises) latest.1 in
    let rest = none_written (flat_after m r.op) (cond (writes word r.op) (Some r.number) writer) word rs others in (
      rest.0 ∙ touched m word r.op r_does ∙ ap (λ (s : Record). written s.op) e,
      rest.1 ∙ ap (λ b. cond b (Some r.number) writer) r_does ∙ ap (λ (s : Record). Some s.number) e,
    )

each_arranged : (P : Record → Type 0) (records arranged : List Record) → Arrangement records arranged →
    All P records → Each P arranged
each_arranged P records arranged a h =
    recursion_from_All P arranged (All-permutation P records arranged a.same_members h)

pub found : (m : Memory) (records arranged : List Record) (number : ℕ) (faulty : Record) (last : Option Record)
    (f : Found) → Arrangement records arranged → Contains records faulty → faulty.number ≡ number →
    IsLastWrite faulty records last →
    (last ≡ None → f ≡ wrong_value number (m (address faulty.op)) None) →
    IfSome last (λ w. f ≡ wrong_value number (written w.op) (Some w.number)) → IsFound m records (WrongValue number) f
found m records arranged number faulty None f a here named is none some =
    let s = split_at arranged faulty (Contains-permutation records arranged faulty a.same_members here) in
    let rises = subst Rises s.2 a.rises in
    let word = address faulty.op in
    let out = each_front (λ r. IsEarlier faulty r → ⊥) s.0 (faulty ∷ s.1)
    (subst (Each (λ r. IsEarlier faulty r → ⊥)) s.2
    (each_arranged (λ r. IsEarlier faulty r → ⊥) records arranged a is)) in
    let met = none_written m None word s.0
    (each_both (λ r. Before r faulty) (λ r. IsEarlier faulty r → ⊥) (λ r. writes word r.op ≡ false)
    (λ r before isnt. not_true (writes word r.op) (λ does. isnt (record { writes = does; before = before })))
    s.0 (all_before s.0 faulty s.1 rises) out) in (
      m word,
      None,
      record {
        arranged = arranged;
        arrangement = a;
        before = s.0;
        faulty = faulty;
        behind = s.1;
        split = s.2;
        named = named;
        value_is = sym met.0;
        writer_is = sym met.1;
      },
      none refl,
    )
found m records arranged number faulty (Some w) f a here named is none some =
    let s = split_at arranged faulty (Contains-permutation records arranged faulty a.same_members here) in
    let rises = subst Rises s.2 a.rises in
    let word = address faulty.op in
    let latest = each_front (λ r. IsEarlier faulty r → NotAfter r w) s.0 (faulty ∷ s.1)
    (subst (Each (λ r. IsEarlier faulty r → NotAfter r w)) s.2
    (each_arranged (λ r. IsEarlier faulty r → NotAfter r w) records arranged a is.2)) in
    let there = stands_before s.0 faulty s.1 w rises
    (subst (λ rs. Contains rs w) s.2 (Contains-permutation records arranged w a.same_members is.0)) is.1.before in
    let met = last_written m None word w s.0 (Rises-front s.0 (faulty ∷ s.1) rises) there is.1.writes
    (each_both (λ r. Before r faulty) (λ r. IsEarlier faulty r → NotAfter r w)
    (λ r. writes word r.op ≡ true → NotAfter r w)
    (λ r before le does. le (record { writes = does; before = before })) s.0 (all_before s.0 faulty s.1 rises)
    latest) in (
      written w.op,
      Some w.number,
      record {
        arranged = arranged;
        arrangement = a;
        before = s.0;
        faulty = faulty;
        behind = s.1;
        split = s.2;
        named = named;
        value_is = sym met.0;
        writer_is = sym met.1;
      },
      some,
    )

-- a record with a wrong value is one of them
pub carried : (m : Memory) (issued : ℕ → List Op) (records : List Record) (number : ℕ) →
    IsVerdict m issued records (WrongValue number) → Any (λ r. r.number ≡ number) records
carried m issued records number is =
    let upto = is.walked.upto in
    let there = subst (λ rs. Contains rs upto.faulty) (sym upto.split)
    (Contains-append_right upto.before (upto.faulty ∷ upto.behind) upto.faulty (0, omega arith, refl)) in
    let here = Contains-permutation is.arranged records upto.faulty
    (IsPermutation-sym records is.arranged is.arrangement.same_members) there in
    (here.0, upto.faulty, here.1, here.2, upto.named)
