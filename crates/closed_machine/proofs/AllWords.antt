-- The last writes of all words, with one record more, and the values that they leave.
use Rattle.std.proofs.Common.{◌≡◌, ◌⊎◌, ℕ, Bool, true, false, cond, eqb, List, [], ◌∷◌, ◌++◌, Option, Some, None}
use Rattle.std.proofs.Common.{map, refl, sym, ap, ap₂, subst, ◌∙◌, arith}
use Rattle.std.proofs.lemmas.Bool.Decides.{nat_tests}
use Rattle.std.specs.Prelude.{◌==◌, if◌then◌else◌}
use Rattle.std.specs.Ordering.{nat_cmp, eq_by_cmp}
use Rattle.std.specs.Cmp.{nat_cmp_total}
use Rattle.std.specs.FinMap.{FinMap, empty, insert, get, get-empty, get-insert}
use Rattle.physiological_order.specs.declared.operation.Op.{Op}
use Rattle.physiological_order.specs.declared.operation.Op.TheVariants.{Load, Store, Swap}
use Rattle.physiological_order.specs.declared.operation.Record.{Record}
use Rattle.physiological_order.specs.Order.{Memory, Arrangement, address, replay_end}
use Rattle.closed_machine.specs.declared.values.Write.{Write}
use Rattle.closed_machine.specs.LastWrites.{AreLast, IsLast, IsSooner, IsWrite, value_in, written, written_or}
use Rattle.closed_machine.specs.ValuesLeft.{ValuesLeft}
use Rattle.closed_machine.proofs.LeftValues.{new_write, nothing_left, other_word, value_is_left}

none_some : {A B : Type 0} {y : A} → None ≡ Some y → B
none_some e = cc

same_test : (a b : ℕ) → eq_by_cmp nat_cmp a b ≡ eqb a b
same_test a b = grind (arith, nat_tests)

same_word : (a b : ℕ) → eqb a b ≡ true → a ≡ b
same_word a b e = grind (arith, nat_tests)

own_word : (b : ℕ) → eqb b b ≡ true
own_word b = grind (arith, nat_tests)

here : (b v : ℕ) → (if b == b then Some v else None) ≡ Some v
here b v = ap (λ t. if t then Some v else None) (own_word b)

-- an operation that writes nothing to its own word writes nothing to any
nowhere : (op : Op) → written op (address op) ≡ None → (a : ℕ) → written op a ≡ None
nowhere (Load b) e a = refl
nowhere (Store b v) e a = none_some (sym e ∙ here b v)
nowhere (Swap b v) e a = none_some (sym e ∙ here b v)

-- and none writes to another word
elsewhere : (op : Op) (a : ℕ) → eqb a (address op) ≡ false → written op a ≡ None
elsewhere (Load b) a e = refl
elsewhere (Store b v) a e = ap (λ t. if t then Some v else None) e
elsewhere (Swap b v) a e = ap (λ t. if t then Some v else None) e

pub none_yet : (lasts : FinMap nat_cmp Write) → lasts ≡ empty → AreLast [] lasts
none_yet lasts is a = subst (IsLast a []) (sym (ap (λ m. get m a) is ∙ get-empty nat_cmp a)) tt

module _ (lasts : FinMap nat_cmp Write) (rs : List Record) (r : Record) (last_so_far : AreLast rs lasts) where
  pub none_more : written r.op (address r.op) ≡ None → AreLast (rs ++ r ∷ []) lasts
  none_more e a = other_word a rs r (get lasts a) (nowhere r.op e a) (last_so_far a)

  one_put : (b : ℕ) (last : Write) → b ≡ address r.op → IsLast b (rs ++ r ∷ []) (Some last) → (a : ℕ) (t : Bool) →
      eqb a b ≡ t → IsLast a (rs ++ r ∷ []) (cond t (Some last) (get lasts a))
  one_put b last own is a true e = subst (λ k. IsLast k (rs ++ r ∷ []) (Some last)) (sym (same_word a b e)) is
  one_put b last own is a false e =
      other_word a rs r (get lasts a) (elsewhere r.op a (ap (eqb a) (sym own) ∙ e)) (last_so_far a)

  -- the record's write, or the last one before it, stands in the map
  pub one_more : (b : ℕ) (new last : Write) (found : Option Write) (m : FinMap nat_cmp Write) → b ≡ address r.op →
      IsWrite b new r → found ≡ get lasts b → (found ≡ None → last ≡ new) →
      ((w : Write) → found ≡ Some w →
      IsSooner w.ts w.number last.ts last.number × IsSooner new.ts new.number last.ts last.number ×
      ((last ≡ w) ⊎ (last ≡ new))) → m ≡ insert lasts b last → AreLast (rs ++ r ∷ []) m
  one_more b new last found m own is there first after put a =
      subst (IsLast a (rs ++ r ∷ []))
      (sym (ap (λ k. get k a) put ∙ get-insert nat_cmp_total lasts b last a
      ∙ ap (λ t. cond t (Some last) (get lasts a)) (same_test a b)))
      (one_put b last own
      (new_write b rs r found new last is first after (subst (IsLast b rs) (sym there) (last_so_far b)))
      a (eqb a b) refl)

-- what the last write of a word leaves is what a replay leaves there
left_at : (m : Memory) (a : ℕ) (rs arranged : List Record) → Arrangement rs arranged → (o : Option Write) →
    IsLast a rs o → written_or o (m a) ≡ replay_end m (map (λ (r : Record). r.op) arranged) a
left_at m a rs arranged is None last = sym (nothing_left m a rs arranged last is)
left_at m a rs arranged is (Some w) last = sym (value_is_left m a w rs arranged last is)

same_map : (f g : ℕ → ℕ) → ((a : ℕ) → f a ≡ g a) → (xs : List ℕ) → map f xs ≡ map g xs
same_map f g each [] = refl
same_map f g each (x ∷ xs) = ap₂ (λ y ys. y ∷ ys) (each x) (same_map f g each xs)

pub values_are_left : (m : Memory) (rs : List Record) (lasts : FinMap nat_cmp Write) (words values : List ℕ) →
    AreLast rs lasts → values ≡ map (value_in m lasts) words → ValuesLeft m rs words values
values_are_left m rs lasts words values last is arranged arrangement =
    is
    ∙ same_map (value_in m lasts) (replay_end m (map (λ (r : Record). r.op) arranged))
    (λ a. left_at m a rs arranged arrangement (get lasts a) (last a)) words
