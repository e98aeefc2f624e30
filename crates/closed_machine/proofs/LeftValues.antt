-- The last write of a word, and what a replay leaves there.
use Rattle.std.proofs.Common.{◌≡◌, ◌⊎◌, inl, inr, ℕ, Bool, true, false, List, [], ◌∷◌, ◌++◌, Option, Some, None}
use Rattle.std.proofs.Common.{map, refl, sym, subst, ◌∙◌, arith}
use Rattle.std.specs.Prelude.{◌==◌, if◌then◌else◌}
use Rattle.std.specs.List.{AllByRecursion as Each}
use Rattle.std.specs.List.Sorted.{IsPermutation}
use Rattle.std.proofs.lemmas.List.Sorted.{All-permutation, IsPermutation-sym}
use Rattle.std.proofs.lemmas.List.Elements.{All-from_recursion, recursion_from_All}
use Rattle.physiological_order.specs.declared.operation.Op.{Op}
use Rattle.physiological_order.specs.declared.operation.Op.TheVariants.{Load, Store, Swap}
use Rattle.physiological_order.specs.declared.operation.Record.{Record}
use Rattle.physiological_order.specs.Order.{Memory, Before, Rises, Arrangement, flat_after, replay_end}
use Rattle.physiological_order.proofs.Lemmas.{each_weaker, each_push}
use Rattle.closed_machine.specs.declared.values.Write.{Write}
use Rattle.closed_machine.specs.LastWrites.{written, IsSooner, IsWrite, Includes, IsLast}

none_some : {A B : Type 0} {y : A} → None ≡ Some y → B
none_some e = cc

-- what an operation leaves in a word
kept : (t : Bool) (v x : ℕ) → (if t then Some v else None) ≡ None → (if t then v else x) ≡ x
kept true v x e = none_some (sym e)
kept false v x e = refl

put : (t : Bool) (v x u : ℕ) → (if t then Some v else None) ≡ Some u → (if t then v else x) ≡ u
put true v x u e = some_is e
  where
    some_is : {A : Type 0} {x y : A} → Some x ≡ Some y → x ≡ y
    some_is f = cc
put false v x u e = none_some e

unwritten : (m : Memory) (a : ℕ) (op : Op) → written op a ≡ None → flat_after m op a ≡ m a
unwritten m a (Load b) e = refl
unwritten m a (Store b v) e = kept (a == b) v (m a) e
unwritten m a (Swap b v) e = kept (a == b) v (m a) e

wrote : (m : Memory) (a : ℕ) (op : Op) (u : ℕ) → written op a ≡ Some u → flat_after m op a ≡ u
wrote m a (Load b) u e = none_some e
wrote m a (Store b v) u e = put (a == b) v (m a) u e
wrote m a (Swap b v) u e = put (a == b) v (m a) u e

-- what a list of records leaves there
none_left : (m : Memory) (a : ℕ) (rs : List Record) → Each (λ r. written r.op a ≡ None) rs →
    replay_end m (map (λ (r : Record). r.op) rs) a ≡ m a
none_left m a [] h = refl
none_left m a (r ∷ rs) h = none_left (flat_after m r.op) a rs h.1 ∙ unwritten m a r.op h.0

abbrev NotLater : ℕ → Write → Record → Type 0
NotLater a w r = (v : ℕ) → written r.op a ≡ Some v → IsSooner r.ts r.number w.ts w.number

apart : (r s : Record) (w : Write) → r.ts ≡ w.ts → r.number ≡ w.number → Before r s →
    IsSooner s.ts s.number w.ts w.number → ⊥
apart r s w t n (inl h) (inl k) = omega arith
apart r s w t n (inl h) (inr k) = omega arith
apart r s w t n (inr h) (inl k) = omega arith
apart r s w t n (inr h) (inr k) = omega arith

never : (o : Option ℕ) → ((v : ℕ) → o ≡ Some v → ⊥) → o ≡ None
never None f = refl
never (Some v) f = absurd (f v refl)

no_more : (a : ℕ) (r : Record) (w : Write) (rs : List Record) → r.ts ≡ w.ts → r.number ≡ w.number →
    Each (λ s. Before r s) rs → Each (NotLater a w) rs → Each (λ s. written s.op a ≡ None) rs
no_more a r w [] t n before late = tt
no_more a r w (s ∷ rs) t n before late = (
  never (written s.op a) (λ v e. apart r s w t n before.0 (late.0 v e)),
  no_more a r w rs t n before.1 late.1,
)

-- the first of records that rise comes before all others
further : (r s t : Record) → Before r s → Before s t → Before r t
further r s t (inl h) (inl k) = inl (omega arith)
further r s t (inl h) (inr k) = inl (omega arith)
further r s t (inr h) (inl k) = inl (omega arith)
further r s t (inr h) (inr k) = inr (h.0 ∙ k.0, omega arith)

before_all : (r : Record) (rs : List Record) → Rises (r ∷ rs) → Each (λ s. Before r s) rs
before_all r [] h = tt
before_all r (s ∷ rs) h = (h.0, each_weaker (λ t b. further r s t h.0 b) rs (before_all s rs h.1))

others_rise : (r : Record) (rs : List Record) → Rises (r ∷ rs) → Rises rs
others_rise r [] h = tt
others_rise r (s ∷ rs) h = h.1

last_left : (m : Memory) (a : ℕ) (w : Write) (rs : List Record) → Rises rs → Includes (IsWrite a w) rs →
    Each (NotLater a w) rs → replay_end m (map (λ (r : Record). r.op) rs) a ≡ w.value
last_left m a w [] rises there late = absurd there
last_left m a w (r ∷ rs) rises (inl is) late =
    none_left (flat_after m r.op) a rs (no_more a r w rs is.1 is.2 (before_all r rs rises) late.1)
    ∙ wrote m a r.op w.value is.0
last_left m a w (r ∷ rs) rises (inr there) late =
    last_left (flat_after m r.op) a w rs (others_rise r rs rises) there late.1

-- the same of the records in another order
each_permuted : (P : Record → Type 0) (xs ys : List Record) → IsPermutation xs ys → Each P xs → Each P ys
each_permuted P xs ys h e = recursion_from_All P ys (All-permutation P xs ys h (All-from_recursion P xs e))

each_includes : (P : Record → Type 0) (xs : List Record) → Each (λ x. P x → Includes P xs) xs
each_includes P [] = tt
each_includes P (x ∷ xs) = (λ p. inl p, each_weaker (λ y f. λ p. inr (f p)) xs (each_includes P xs))

found : (P : Record → Type 0) (G : Type 0) (xs : List Record) → Each (λ x. P x → G) xs → Includes P xs → G
found P G [] each there = absurd there
found P G (x ∷ xs) each (inl p) = each.0 p
found P G (x ∷ xs) each (inr there) = found P G xs each.1 there

includes_permuted : (P : Record → Type 0) (xs ys : List Record) → IsPermutation xs ys → Includes P xs → Includes P ys
includes_permuted P xs ys h there =
    found P (Includes P ys) xs
    (each_permuted (λ x. P x → Includes P ys) ys xs (IsPermutation-sym xs ys h) (each_includes P ys)) there

pub nothing_left : (m : Memory) (a : ℕ) (rs arranged : List Record) → IsLast a rs None → Arrangement rs arranged →
    replay_end m (map (λ (r : Record). r.op) arranged) a ≡ m a
nothing_left m a rs arranged none is =
    none_left m a arranged (each_permuted (λ r. written r.op a ≡ None) rs arranged is.same_members none)

pub value_is_left : (m : Memory) (a : ℕ) (w : Write) (rs arranged : List Record) → IsLast a rs (Some w) →
    Arrangement rs arranged → replay_end m (map (λ (r : Record). r.op) arranged) a ≡ w.value
value_is_left m a w rs arranged last is =
    last_left m a w arranged is.rises
    (includes_permuted (IsWrite a w) rs arranged is.same_members last.0)
    (each_permuted (NotLater a w) rs arranged is.same_members last.1)

-- one record more
still_includes : (P : Record → Type 0) (rs : List Record) (r : Record) → Includes P rs → Includes P (rs ++ r ∷ [])
still_includes P [] r there = absurd there
still_includes P (s ∷ rs) r (inl p) = inl p
still_includes P (s ∷ rs) r (inr there) = inr (still_includes P rs r there)

includes_last : (P : Record → Type 0) (rs : List Record) (r : Record) → P r → Includes P (rs ++ r ∷ [])
includes_last P [] r p = inl p
includes_last P (s ∷ rs) r p = inr (includes_last P rs r p)

-- it writes something else
pub other_word : (a : ℕ) (rs : List Record) (r : Record) (o : Option Write) → written r.op a ≡ None →
    IsLast a rs o → IsLast a (rs ++ r ∷ []) o
other_word a rs r None e last = each_push (λ s. written s.op a ≡ None) rs r last e
other_word a rs r (Some w) e last = (
  still_includes (IsWrite a w) rs r last.0,
  each_push (NotLater a w) rs r last.1
      (λ v f. none_some (sym e ∙ f)),
)

-- it is the first that writes the word
first_write : (a : ℕ) (rs : List Record) (r : Record) (w : Write) → IsWrite a w r → IsLast a rs None →
    IsLast a (rs ++ r ∷ []) (Some w)
first_write a rs r w is none = (
  includes_last (IsWrite a w) rs r is,
  each_push (NotLater a w) rs r (each_weaker (λ s e. λ v f. none_some (sym e ∙ f)) rs none)
      (λ v f. inr (is.1, omega (arith, is.2))),
)

sooner_still : (t n : ℕ) (w u : Write) → IsSooner t n w.ts w.number → IsSooner w.ts w.number u.ts u.number →
    IsSooner t n u.ts u.number
sooner_still t n w u (inl h) (inl k) = inl (omega arith)
sooner_still t n w u (inl h) (inr k) = inl (omega arith)
sooner_still t n w u (inr h) (inl k) = inl (omega arith)
sooner_still t n w u (inr h) (inr k) = inr (h.0 ∙ k.0, omega arith)

same_sooner : (t n : ℕ) (w u : Write) → t ≡ w.ts → n ≡ w.number → IsSooner w.ts w.number u.ts u.number →
    IsSooner t n u.ts u.number
same_sooner t n w u a b (inl h) = inl (omega arith)
same_sooner t n w u a b (inr h) = inr (a ∙ h.0, omega arith)

-- it writes the word, and the later one of it and the last before is the last
next_write : (a : ℕ) (rs : List Record) (r : Record) (w new last : Write) → IsWrite a new r →
    IsSooner w.ts w.number last.ts last.number → IsSooner new.ts new.number last.ts last.number →
    (last ≡ w) ⊎ (last ≡ new) → IsLast a rs (Some w) → IsLast a (rs ++ r ∷ []) (Some last)
next_write a rs r w new last is after behind one before = (
  includes_one one,
  each_push (NotLater a last) rs r
      (each_weaker (λ s f. λ v e. sooner_still s.ts s.number w last (f v e) after) rs before.1)
      (λ v e. same_sooner r.ts r.number new last is.1 is.2 behind),
)
  where
    includes_one : (last ≡ w) ⊎ (last ≡ new) → Includes (IsWrite a last) (rs ++ r ∷ [])
    includes_one (inl same) =
        subst (λ (u : Write). Includes (IsWrite a u) (rs ++ r ∷ [])) (sym same)
        (still_includes (IsWrite a w) rs r before.0)
    includes_one (inr same) =
        subst (λ (u : Write). Includes (IsWrite a u) (rs ++ r ∷ [])) (sym same)
        (includes_last (IsWrite a new) rs r is)

pub new_write : (a : ℕ) (rs : List Record) (r : Record) (o : Option Write) (new last : Write) → IsWrite a new r →
    (o ≡ None → last ≡ new) →
    ((w : Write) → o ≡ Some w →
    IsSooner w.ts w.number last.ts last.number × IsSooner new.ts new.number last.ts last.number ×
    ((last ≡ w) ⊎ (last ≡ new))) → IsLast a rs o → IsLast a (rs ++ r ∷ []) (Some last)
new_write a rs r None new last is first after none =
    subst (λ (w : Write). IsLast a (rs ++ r ∷ []) (Some w)) (sym (first refl)) (first_write a rs r new is none)
new_write a rs r (Some w) new last is first after before =
    let k = after w refl in next_write a rs r w new last is k.0 k.1 k.2 before
