-- A verdict on records is the only one.
use Rattle.std.proofs.Common.{◌≡◌, ℕ, ◌+◌, List, [], ◌∷◌, ◌++◌, map, refl, sym, ap, ap₂, subst, ◌∙◌, arith}
use Rattle.std.proofs.Common.{append_assoc, ◌⊎◌, inl, inr, eqb, ◌↔◌}
use Rattle.std.proofs.lemmas.List.Elements.{filter-append}
use Rattle.physiological_order.specs.declared.operation.Op.{Op}
use Rattle.physiological_order.specs.declared.operation.Record.{Record}
use Rattle.physiological_order.specs.declared.verdict.Verdict.{Verdict}
use Rattle.physiological_order.specs.declared.verdict.Verdict.TheVariants.{Legal as LegalVerdict, BadNumber}
use Rattle.physiological_order.specs.declared.verdict.Verdict.TheVariants.{OutOfProgramOrder, WrongValue}
use Rattle.physiological_order.specs.Order.{Memory, Follows, of_core, KeepsProgramOrder, ReceivesAsReplayed}
use Rattle.physiological_order.specs.Order.{NumberedOnce, Arrangement, Legal, replay, flat_received, flat_after}
use Rattle.physiological_order.specs.Faults.{LeastMissing, UpTo, OrderFault, ValueFault, WalksTo, IsWalked, IsVerdict}
use Rattle.physiological_order.proofs.RecordNumbers.{numbers_apart}
use Rattle.physiological_order.proofs.Unique.{one_arrangement}

-- a beginning of a list in order is in order
Follows-front : (k : ℕ) (ops : List Op) (xs ys : List Record) → Follows k ops (xs ++ ys) → Follows k ops xs
Follows-front k ops [] ys h = tt
Follows-front k ops (x ∷ xs) ys h = (h.0, h.1, Follows-front (k + 1) ops xs ys h.2)

pub order-front : (issued : ℕ → List Op) (xs ys : List Record) → KeepsProgramOrder issued (xs ++ ys) →
    KeepsProgramOrder issued xs
order-front issued xs ys h core =
    Follows-front 0 (issued core) (of_core core xs) (of_core core ys)
    (rw (filter-append (λ (r : Record). eqb r.core core) xs ys) at (h core))

tail_same : {A : Type 0} (x y : A) (xs ys : List A) → x ∷ xs ≡ y ∷ ys → xs ≡ ys
tail_same x y xs ys h = cc

head_same : {A : Type 0} (x y : A) (xs ys : List A) → x ∷ xs ≡ y ∷ ys → x ≡ y
head_same x y xs ys h = cc

pub values-front : (m : Memory) (xs ys : List Record) → ReceivesAsReplayed m (xs ++ ys) → ReceivesAsReplayed m xs
values-front m [] ys h = refl
values-front m (x ∷ xs) ys h =
    let first : flat_received m x.op ≡ x.received = head_same (flat_received m x.op) x.received
    (replay (flat_after m x.op) (map (λ r. r.op) (xs ++ ys))) (map (λ r. r.received) (xs ++ ys)) h in
    let rest = values-front (flat_after m x.op) xs ys (tail_same (flat_received m x.op) x.received
    (replay (flat_after m x.op) (map (λ r. r.op) (xs ++ ys))) (map (λ r. r.received) (xs ++ ys)) h) in
    ap (λ v. v ∷ replay (flat_after m x.op) (map (λ r. r.op) xs)) first ∙ ap (λ vs. x.received ∷ vs) rest

one_more : (xs : List Record) (y : Record) (ys : List Record) → xs ++ y ∷ ys ≡ (xs ++ y ∷ []) ++ ys
one_more xs y ys = sym (append_assoc xs (y ∷ []) ys)

-- where a list is split twice, the splits are one, or one lies in front of the other
abbrev Splits : List Record → List Record → Record → Record → Type 0
Splits xs ys x y = ((xs ≡ ys) × (x ≡ y)) ⊎ (((rest : List Record) × (ys ≡ xs ++ x ∷ rest)) ⊎
    ((rest : List Record) × (xs ≡ ys ++ y ∷ rest)))

splits_on : (u v : Record) (xs ys : List Record) (x y : Record) → u ≡ v → Splits xs ys x y →
    Splits (u ∷ xs) (v ∷ ys) x y
splits_on u v xs ys x y k (inl h) = inl (ap₂ (λ a zs. a ∷ zs) k h.0, h.1)
splits_on u v xs ys x y k (inr (inl h)) = inr (inl (h.0, ap₂ (λ a zs. a ∷ zs) (sym k) h.1))
splits_on u v xs ys x y k (inr (inr h)) = inr (inr (h.0, ap₂ (λ a zs. a ∷ zs) k h.1))

splits : (xs ys : List Record) (x y : Record) (behind behind' : List Record) → xs ++ x ∷ behind ≡ ys
    ++ y ∷ behind' → Splits xs ys x y
splits [] [] x y behind behind' h = inl (refl, head_same x y behind behind' h)
splits [] (v ∷ ys) x y behind behind' h =
    inr (inl (ys, ap (λ z. z ∷ ys) (sym (head_same x v behind (ys ++ y ∷ behind') h))))
splits (u ∷ xs) [] x y behind behind' h =
    inr (inr (xs, ap (λ z. z ∷ xs) (head_same u y (xs ++ x ∷ behind) behind' h)))
splits (u ∷ xs) (v ∷ ys) x y behind behind' h =
    splits_on u v xs ys x y (head_same u v (xs ++ x ∷ behind) (ys ++ y ∷ behind') h) (splits xs ys x y behind behind'
    (tail_same u v (xs ++ x ∷ behind) (ys ++ y ∷ behind') h))

module _ (opening : Memory) (issued : ℕ → List Op) where
  -- the records up to a faulty one, and that it is faulty
  record Stop (arranged : List Record) (number : ℕ) : Type 0 where
    upto : UpTo opening issued arranged number
    stops : KeepsProgramOrder issued (upto.before ++ upto.faulty ∷ []) → ReceivesAsReplayed opening (upto.before
        ++ upto.faulty ∷ []) → ⊥

  -- a faulty record stands in no beginning that is in order and has its values
  too_far : (arranged : List Record) (number : ℕ) (s : Stop arranged number) (before rest : List Record) →
      KeepsProgramOrder issued before → ReceivesAsReplayed opening before → before ≡ s.upto.before
      ++ s.upto.faulty ∷ rest → ⊥
  too_far arranged number s before rest order values e =
      let apart = e ∙ one_more s.upto.before s.upto.faulty rest in
      s.stops (order-front issued (s.upto.before ++ s.upto.faulty ∷ []) rest (rw apart at order))
      (values-front opening (s.upto.before ++ s.upto.faulty ∷ []) rest (rw apart at values))

  one_stop : (arranged : List Record) (m n : ℕ) (s : Stop arranged m) (t : Stop arranged n) →
      (s.upto.before ≡ t.upto.before) × (s.upto.faulty ≡ t.upto.faulty)
  one_stop arranged m n s t =
      go (splits s.upto.before t.upto.before s.upto.faulty t.upto.faulty s.upto.behind t.upto.behind
      (sym s.upto.split ∙ t.upto.split))
    where
      go : Splits s.upto.before t.upto.before s.upto.faulty t.upto.faulty → (s.upto.before ≡ t.upto.before) ×
          (s.upto.faulty ≡ t.upto.faulty)
      go (inl h) = h
      go (inr (inl h)) = absurd (too_far arranged m s t.upto.before h.0 t.upto.order_before t.upto.values_before h.1)
      go (inr (inr h)) = absurd (too_far arranged n t s.upto.before h.0 s.upto.order_before s.upto.values_before h.1)

  abbrev order_stop : (arranged : List Record) (number : ℕ) → OrderFault opening issued arranged number →
      Stop arranged number
  order_stop arranged number f = record { upto = f.upto; stops = λ order values. f.fault order }

  abbrev value_stop : (arranged : List Record) (number : ℕ) → ValueFault opening issued arranged number →
      Stop arranged number
  value_stop arranged number f = record { upto = f.upto; stops = λ order values. f.fault values }

  one_number : (arranged : List Record) (m n : ℕ) → Stop arranged m → Stop arranged n → m ≡ n
  one_number arranged m n s t = sym s.upto.named ∙ ap (λ r. r.number) (one_stop arranged m n s t).1 ∙ t.upto.named

  apart_faults : (arranged : List Record) (m n : ℕ) → OrderFault opening issued arranged m →
      ValueFault opening issued arranged n → ⊥
  apart_faults arranged m n f g =
      let same = one_stop arranged m n (order_stop arranged m f) (value_stop arranged n g) in
      f.fault (subst (KeepsProgramOrder issued) (sym (ap₂ (λ xs x. xs ++ x ∷ []) same.0 same.1)) g.in_order)

  legal_apart : (arranged : List Record) (number : ℕ) → KeepsProgramOrder issued arranged → ReceivesAsReplayed opening
      arranged → Stop arranged number → ⊥
  legal_apart arranged number order values s =
      too_far arranged number s arranged s.upto.behind order values s.upto.split

  one_least : (records : List Record) (j k : ℕ) → LeastMissing records j → LeastMissing records k → j ≡ k
  one_least records j k a b = let fewer = a.least k in let more = b.least j in let none = a.missing in
      let missing = b.missing in grind arith

  -- the walk of one arrangement is that of the other
  along : (records : List Record) (v : Verdict) (w : IsWalked opening issued records v) (arranged : List Record) →
      Arrangement records arranged → WalksTo opening issued arranged v
  along records v w arranged a = subst (λ (rs : List Record). WalksTo opening issued rs v)
      (one_arrangement records w.arranged arranged w.arrangement a) w.walked

  -- records have one verdict
  pub one_verdict : (records : List Record) (v w : Verdict) → IsVerdict opening issued records v →
      IsVerdict opening issued records w → v ≡ w
  one_verdict records LegalVerdict LegalVerdict a b = refl
  one_verdict records LegalVerdict (BadNumber k) a b = absurd (numbers_apart records k a.numbers b)
  one_verdict records LegalVerdict (OutOfProgramOrder n) a b =
      absurd (legal_apart a.arranged n a.program_order a.values
      (order_stop a.arranged n (along records (OutOfProgramOrder n) b a.arranged a.arrangement)))
  one_verdict records LegalVerdict (WrongValue n) a b =
      absurd (legal_apart a.arranged n a.program_order a.values
      (value_stop a.arranged n (along records (WrongValue n) b a.arranged a.arrangement)))
  one_verdict records (BadNumber j) LegalVerdict a b = absurd (numbers_apart records j b.numbers a)
  one_verdict records (BadNumber j) (BadNumber k) a b = ap BadNumber (one_least records j k a b)
  one_verdict records (BadNumber j) (OutOfProgramOrder n) a b = absurd (numbers_apart records j b.numbers a)
  one_verdict records (BadNumber j) (WrongValue n) a b = absurd (numbers_apart records j b.numbers a)
  one_verdict records (OutOfProgramOrder m) LegalVerdict a b =
      absurd (legal_apart b.arranged m b.program_order b.values
      (order_stop b.arranged m (along records (OutOfProgramOrder m) a b.arranged b.arrangement)))
  one_verdict records (OutOfProgramOrder m) (BadNumber k) a b = absurd (numbers_apart records k a.numbers b)
  one_verdict records (OutOfProgramOrder m) (OutOfProgramOrder n) a b =
      ap OutOfProgramOrder (one_number a.arranged m n (order_stop a.arranged m a.walked)
      (order_stop a.arranged n (along records (OutOfProgramOrder n) b a.arranged a.arrangement)))
  one_verdict records (OutOfProgramOrder m) (WrongValue n) a b =
      absurd (apart_faults a.arranged m n a.walked (along records (WrongValue n) b a.arranged a.arrangement))
  one_verdict records (WrongValue m) LegalVerdict a b =
      absurd (legal_apart b.arranged m b.program_order b.values
      (value_stop b.arranged m (along records (WrongValue m) a b.arranged b.arrangement)))
  one_verdict records (WrongValue m) (BadNumber k) a b = absurd (numbers_apart records k a.numbers b)
  one_verdict records (WrongValue m) (OutOfProgramOrder n) a b =
      absurd (apart_faults a.arranged n m (along records (OutOfProgramOrder n) b a.arranged a.arrangement) a.walked)
  one_verdict records (WrongValue m) (WrongValue n) a b =
      ap WrongValue (one_number a.arranged m n (value_stop a.arranged m a.walked)
      (value_stop a.arranged n (along records (WrongValue n) b a.arranged a.arrangement)))

  pub legal_exactly : (records : List Record) (v : Verdict) → IsVerdict opening issued records v →
      (v ≡ LegalVerdict) ↔ Legal opening issued records
  legal_exactly records v h =
      (λ e. subst (IsVerdict opening issued records) e h, λ legal. one_verdict records v LegalVerdict h legal)

  pub verdict_from : (records arranged : List Record) (v : Verdict) → NumberedOnce records →
      Arrangement records arranged → WalksTo opening issued arranged v → IsVerdict opening issued records v
  verdict_from records arranged LegalVerdict once a w =
      record { numbers = once; arranged = arranged; arrangement = a; program_order = w.0; values = w.1 }
  verdict_from records arranged (BadNumber k) once a w = absurd w
  verdict_from records arranged (OutOfProgramOrder n) once a w =
      record { numbers = once; arranged = arranged; arrangement = a; walked = w }
  verdict_from records arranged (WrongValue n) once a w =
      record { numbers = once; arranged = arranged; arrangement = a; walked = w }
