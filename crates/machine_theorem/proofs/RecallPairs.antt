-- What rounds keep of the recalls and returns of a line that go to and come from one core.
use Rattle.std.proofs.Common.{◌≡◌, ◌≢◌, ℕ, ◌+◌, ◌≤◌, Option, Some, inl, inr, ◌⊎◌, sym, ◌∙◌, ⊎_elim, arith, rules}
use Rattle.physiological_order.specs.declared.operation.Op.{Op}
use Rattle.physiological_order.specs.Order.{address}
use Rattle.protocol.specs.Machine.{Config, Entry, Exclusive, Recalling, Line, line_of, tally}
use Rattle.protocol.specs.Recalls.{recall_to, return_of, OwnsOrWill}

-- an operation is open on the line, or on another
abbrev pub IsHere : Config → ℕ → Option Op → Type 0
IsHere f l o = (op : Op) × (o ≡ Some op) × (line_of f (address op) ≡ l)

abbrev pub IsElsewhere : Config → ℕ → Option Op → Type 0
IsElsewhere f l o = (op : Op) × (o ≡ Some op) × (line_of f (address op) ≢ l)

pub not_both : (f : Config) (l : ℕ) (o : Option Op) → IsHere f l o → IsElsewhere f l o → ⊥
not_both f l o here there = grind arith

-- how many recalls of the line to the core are in flight, and how many returns from it
abbrev pub recalls : ℕ → Line → ℕ
recalls c x = tally (recall_to c) x.messages

abbrev pub returns : ℕ → Line → ℕ
returns c x = tally (return_of c) x.messages

module _ (f : Config) (l c : ℕ) where
  -- of a core, by its open operation, and a line
  pub record Sound (x : Line) (o : Option Op) : Type 0 where
    -- a recall that the core holds finds it as the owner, now or after its grant
    pub held : 1 ≤ recalls c x → IsHere f l o → OwnsOrWill c x
    -- an owner that isn't recalled has no recall on its way, and one that is has one at most
    pub unasked : x.entry ≡ Exclusive c → recalls c x ≡ 0
    pub asked : x.entry ≡ Recalling c → recalls c x ≤ 1
    -- who returns a line unasked has an operation open on another
    pub returning : 1 ≤ returns c x → x.entry ≡ Exclusive c → IsElsewhere f l o

  -- of the recalls and returns, with those that are still to be delivered in this round
  pub record Listed (x : Line) (o : Option Op) (recalled returned : ℕ) : Type 0 where
    pub recalls_listed : (recalls c x ≤ recalled) ⊎ (OwnsOrWill c x ⊎ IsElsewhere f l o)
    pub returns_listed : x.entry ≡ Exclusive c → returns c x ≤ returned

  pub listed_by : (x : Line) (o : Option Op) (qr qb pr pb : ℕ) → (recalls c x ≤ qr → recalls c x ≤ pr) →
      (returns c x ≤ qb → returns c x ≤ pb) → Listed x o qr qb → Listed x o pr pb
  listed_by x o qr qb pr pb r b s = search rules

  -- the entry is another, and doesn't name the core
  abbrev pub IsOther : Entry → Type 0
  IsOther e = (e ≢ Exclusive c) × (e ≢ Recalling c)

  -- nothing new is on the way
  pub record Eased (x y : Line) : Type 0 where
    pub entry : (y.entry ≡ x.entry) ⊎ IsOther y.entry
    pub recalled : recalls c y ≤ recalls c x
    pub returned : returns c y ≤ returns c x
    pub owned : OwnsOrWill c x → OwnsOrWill c y

  still_exclusive : (x y : Line) → Eased x y → y.entry ≡ Exclusive c → x.entry ≡ Exclusive c
  still_exclusive x y e is = grind arith

  pub eased : (x y : Line) (o : Option Op) → Eased x y → Sound x o → Sound y o
  eased x y o e s = record {
    held = λ some here. e.owned (s.held (let z = e.recalled in omega (arith, some, z)) here);
    unasked = λ is. let z = s.unasked (still_exclusive x y e is) in let r = e.recalled in omega (arith, z, r);
    asked = λ is. let r = e.recalled in grind arith;
    returning = λ some is. s.returning (let r = e.returned in omega (arith, some, r)) (still_exclusive x y e is);
  }

  pub eased_list : (x y : Line) (o : Option Op) (qr qb pr pb : ℕ) → Eased x y →
      (recalls c x ≤ qr → recalls c y ≤ pr) → (returns c x ≤ qb → returns c y ≤ pb) → Listed x o qr qb →
      Listed y o pr pb
  eased_list x y o qr qb pr pb e r b s = search (rules, still_exclusive)

  -- nothing is left to be delivered
  abbrev pub Settled : Line → Option Op → Type 0
  Settled y o = Sound y o × Listed y o 0 0

  -- the core gives the line back, as it is asked
  pub served : (x y : Line) (o : Option Op) → y.entry ≡ x.entry →
      ((x.entry ≡ Exclusive c) ⊎ (x.entry ≡ Recalling c)) → recalls c y + 1 ≡ recalls c x → Sound x o → Settled y o
  served x y o same named one s = (
    record {
      held = λ some here. absurd (let z = gone in omega (arith, some, z));
      unasked = λ is. gone;
      asked = λ is. let z = gone in omega (arith, z);
      returning = λ some is. absurd (clash is);
    },
    record { recalls_listed = inl (let z = gone in omega (arith, z)); returns_listed = λ is. absurd (clash is) },
  )
    where
      is_recalled : x.entry ≡ Recalling c
      is_recalled = grind arith

      gone : recalls c y ≡ 0
      gone = let z = s.asked is_recalled in omega (arith, z, one)

      clash : y.entry ≡ Exclusive c → ⊥
      clash is = let z : Exclusive c ≡ Recalling c = sym is ∙ same ∙ is_recalled in cc

  -- the bank recalls the line
  pub recalled : (x y : Line) (o : Option Op) → x.entry ≡ Exclusive c → y.entry ≡ Recalling c →
      recalls c y ≡ recalls c x + 1 → (OwnsOrWill c x → OwnsOrWill c y) →
      (1 ≤ returns c x) ⊎ OwnsOrWill c x → Sound x o → Settled y o
  recalled x y o was is more owned answers s = (
    record {
      held = λ some here. ⊎_elim
          (λ (back : 1 ≤ returns c x). absurd (not_both f l o here (s.returning back was)))
          (λ (own : OwnsOrWill c x). owned own) answers;
      unasked = λ e. absurd (clash e);
      asked = λ e. let z = s.unasked was in omega (arith, z, more);
      returning = λ some e. absurd (clash e);
    },
    record {
      recalls_listed = inr (⊎_elim (λ (back : 1 ≤ returns c x). inr (s.returning back was))
          (λ (own : OwnsOrWill c x). inl (owned own)) answers);
      returns_listed = λ e. absurd (clash e);
    },
  )
    where
      clash : y.entry ≡ Exclusive c → ⊥
      clash e = let z : Exclusive c ≡ Recalling c = sym e ∙ is in cc

  -- the bank grants the line to the core, which asks for it
  pub granted : (x y : Line) (o : Option Op) → (OwnsOrWill c x → ⊥) → y.entry ≡ Exclusive c →
      recalls c y ≤ recalls c x → returns c y ≡ 0 → OwnsOrWill c y → IsHere f l o → Sound x o → Settled y o
  granted x y o unowned is fewer none own here s = (
    record {
      held = λ some at. own;
      unasked = λ e. ⊎_elim (λ (z : recalls c x ≡ 0). omega (arith, z, fewer))
          (λ (some : 1 ≤ recalls c x). absurd (unowned (s.held some here))) (none_or_some (recalls c x));
      asked = λ e. absurd (let z : Exclusive c ≡ Recalling c = sym is ∙ e in cc);
      returning = λ some e. absurd (omega (arith, none, some));
    },
    record { recalls_listed = inr (inl own); returns_listed = λ e. omega (arith, none) },
  )
    where
      none_or_some : (n : ℕ) → (n ≡ 0) ⊎ (1 ≤ n)
      none_or_some n = grind arith
