-- A walk one record further.
use Rattle.std.proofs.Common.{◌≡◌, ℕ, ◌+◌, ◌<◌, true, false, eqb, List, [], ◌∷◌, ◌++◌, length, map, get_or, set, inl}
use Rattle.std.proofs.Common.{inr, take, drop, suc, Some, refl, sym, ap, ap₂, subst, ◌∙◌, arith, length-append}
use Rattle.std.proofs.Common.{get_or-set_same, get_or-set_other, drop-cons, slice_get, Option, not}
use Rattle.std.specs.Option.{option_eq}
use Rattle.std.proofs.lemmas.Bool.{cases_eq, cases_lt}
use Rattle.std.proofs.lemmas.Bool.Decides.{nat_tests}
use Rattle.std.proofs.lemmas.List.{append-nil, map_push, take_more, get_or_past, length-map, take-append-drop}
use Rattle.std.proofs.lemmas.List.Elements.{filter-append}
use Rattle.std.proofs.lemmas.Option.{slice_get_within}
use Rattle.std.proofs.lemmas.List as lists
use Rattle.physiological_order.specs.declared.operation.Op.{Op}
use Rattle.physiological_order.specs.declared.operation.Record.{Record}
use Rattle.physiological_order.specs.Order.{Memory, Follows, of_core, KeepsProgramOrder, ReceivesAsReplayed}
use Rattle.physiological_order.specs.Order.{flat_received, flat_after, replay, replay_end}
use Rattle.physiological_order.specs.Faults.{IssuedLists, issued_by}
use Rattle.physiological_order.specs.Walking.{IsNext}
use Rattle.physiological_order.proofs.ArrangedRecords.{Follows-push}
use Rattle.physiological_order.proofs.ReplaySteps.{replay-push, replay_end-push}

-- a core's records with one more
pub of_core-push_own : (core : ℕ) (rs : List Record) (r : Record) → r.core ≡ core → of_core core (rs ++ r ∷ []) ≡
    of_core core rs ++ r ∷ []
of_core-push_own core rs r e =
    let all = filter-append (λ (s : Record). eqb s.core core) rs (r ∷ []) in grind (arith, nat_tests)

pub of_core-push_other : (core : ℕ) (rs : List Record) (r : Record) → (r.core ≡ core → ⊥) →
    of_core core (rs ++ r ∷ []) ≡ of_core core rs
of_core-push_other core rs r ne = let all = filter-append (λ (s : Record). eqb s.core core) rs (r ∷ []) in
    let same = append-nil (of_core core rs) in grind (arith, nat_tests)

-- the next record of its core's program order keeps all cores in order
pub order-push : (issued : ℕ → List Op) (rs : List Record) (r : Record) → KeepsProgramOrder issued rs →
    r.place ≡ length (of_core r.core rs) → slice_get (issued r.core) r.place ≡ Some r.op →
    KeepsProgramOrder issued (rs ++ r ∷ [])
order-push issued rs r h place there core = elim (cases_eq r.core core) [
  | inl e ↦ (let next : r.place ≡ 0 + length (of_core r.core rs) = omega arith in
      rw (← e, of_core-push_own r.core rs r refl)
      (Follows-push 0 (issued r.core) (of_core r.core rs) r (h r.core) next (rw next at there)))
  | inr ne ↦ rw (of_core-push_other core rs r ne) (h core)
]

-- the last record of a core in order has the place behind the others, and the operation issued there
Follows-last : (k : ℕ) (ops : List Op) (rs : List Record) (r : Record) → Follows k ops (rs ++ r ∷ []) →
    (r.place ≡ k + length rs) × (slice_get ops (k + length rs) ≡ Some r.op)
Follows-last k ops [] r h = let none : k + 0 ≡ k = omega arith in rw none (h.0, h.1)
Follows-last k ops (s ∷ ss) r h =
    let i = Follows-last (k + 1) ops ss r h.2 in
    let same : (k + 1) + length ss ≡ k + length (s ∷ ss) = omega arith in rw same at i

pub order-last : (issued : ℕ → List Op) (rs : List Record) (r : Record) → KeepsProgramOrder issued (rs ++ r ∷ []) →
    (r.place ≡ length (of_core r.core rs)) × (slice_get (issued r.core) r.place ≡ Some r.op)
order-last issued rs r h =
    let f = Follows-last 0 (issued r.core) (of_core r.core rs) r
    (rw (of_core-push_own r.core rs r refl) at (h r.core)) in (omega (arith, f.0), rw (← f.0) at f.1)

-- the memory that the operations of records leave
abbrev pub left_by : Memory → List Record → Memory
left_by m rs = replay_end m (map (λ r. r.op) rs)

received_push : (m : Memory) (rs : List Record) (r : Record) → replay m (map (λ s. s.op) (rs ++ r ∷ [])) ≡ replay m
    (map (λ s. s.op) rs) ++ flat_received (left_by m rs) r.op ∷ []
received_push m rs r = ap (replay m) (map_push (λ s. s.op) rs r) ∙ replay-push m (map (λ s. s.op) rs) r.op

pub values-push : (m : Memory) (rs : List Record) (r : Record) → ReceivesAsReplayed m rs →
    flat_received (left_by m rs) r.op ≡ r.received → ReceivesAsReplayed m (rs ++ r ∷ [])
values-push m rs r h e = received_push m rs r ∙ ap₂ (λ xs x. xs ++ x ∷ []) h e ∙ sym (map_push (λ s. s.received) rs r)

-- lists of one length with the same last element behind
last_same : {A : Type 0} (xs ys : List A) (x y : A) → xs ≡ ys → xs ++ x ∷ [] ≡ ys ++ y ∷ [] → x ≡ y
last_same xs ys x y e h = same_last ys x y (subst (λ (zs : List _). zs ++ x ∷ [] ≡ ys ++ y ∷ []) e h)
  where
    same_last : {A : Type 0} (zs : List A) (x y : A) → zs ++ x ∷ [] ≡ zs ++ y ∷ [] → x ≡ y
    same_last [] x y h = cc
    same_last (z ∷ zs) x y h = let t : zs ++ x ∷ [] ≡ zs ++ y ∷ [] = cc in same_last zs x y t

pub values-last : (m : Memory) (rs : List Record) (r : Record) → ReceivesAsReplayed m rs →
    ReceivesAsReplayed m (rs ++ r ∷ []) → flat_received (left_by m rs) r.op ≡ r.received
values-last m rs r h k =
    last_same (replay m (map (λ s. s.op) rs)) (map (λ s. s.received) rs) (flat_received (left_by m rs) r.op)
    r.received h (sym (received_push m rs r) ∙ k ∙ map_push (λ s. s.received) rs r)

-- how many records of each core went by
abbrev pub Counted : List ℕ → List Record → Type 0
Counted places rs = (core : ℕ) → core < length places → get_or places core 0 ≡ length (of_core core rs)

pub Counted-push : (places : List ℕ) (rs : List Record) (r : Record) (more : ℕ) → r.core < length places →
    more ≡ get_or places r.core 0 + 1 → Counted places rs → Counted (set places r.core more) (rs ++ r ∷ [])
Counted-push places rs r more lt one h core within = elim (cases_eq r.core core) [
  | inl e ↦ (let own = ap (length {A = Record}) (of_core-push_own r.core rs r refl) in
      let was = h r.core lt in rw (← e, get_or-set_same places r.core more 0 lt)
      (omega (arith, own, was, length-append (of_core r.core rs) (r ∷ []))))
  | inr ne ↦ rw (get_or-set_other places r.core core more 0 (λ e. ne (sym e)), of_core-push_other core rs r ne)
      (h core (omega (arith, lists.length-set places r.core more)))
]

-- the record at an index of a list
pub take-next : (rs : List Record) (i : ℕ) (r : Record) → i < length rs → r ≡ get_or rs i r →
    take (i + 1) rs ≡ take i rs ++ r ∷ []
take-next rs i r lt is = take_more rs i r lt ∙ ap (λ s. take i rs ++ s ∷ []) (sym is)

pub split_at : (rs : List Record) (i : ℕ) (r : Record) → i < length rs → r ≡ get_or rs i r → rs ≡ take i rs
    ++ r ∷ drop (suc i) rs
split_at rs i r lt is =
    sym (take-append-drop i rs) ∙ ap (λ xs. take i rs ++ xs) (drop-cons rs i r lt
    ∙ ap (λ s. s ∷ drop (suc i) rs) (sym is))

-- past the lists nothing was issued
issued_within : (issued : IssuedLists) (core k : ℕ) (op : Op) → slice_get (issued_by issued core) k ≡ Some op →
    core < length issued
issued_within issued core k op h = elim (cases_lt core (length issued)) [
  | inl lt ↦ lt
  | inr le ↦ (let past = get_or_past (map (λ ops. ops.items) issued) core []
      (omega (arith, le, length-map issued (λ ops. ops.items))) in
      let within = slice_get_within (issued_by issued core) k op h in
      let none = ap (length {A = Op}) past in absurd (omega (arith, within, none)))
]

-- a record that may stand next in the program order is the next of its core's list
pub next_from : (issued : IssuedLists) (places : List ℕ) (rs : List Record) (r : Record) → length places
    ≡ length issued →
    Counted places rs → KeepsProgramOrder (issued_by issued) (rs ++ r ∷ []) → IsNext issued places r
next_from issued places rs r long counted h =
    let last = order-last (issued_by issued) rs r h in
    let there = issued_within issued r.core r.place r.op last.1 in
    record { core_there = there; place = counted r.core (omega arith) ∙ sym last.0; operation = last.1 }

pub order_with : (issued : IssuedLists) (places : List ℕ) (rs : List Record) (r : Record) → length places
    ≡ length issued →
    Counted places rs → KeepsProgramOrder (issued_by issued) rs → IsNext issued places r →
    KeepsProgramOrder (issued_by issued) (rs ++ r ∷ [])
order_with issued places rs r long counted h next =
    let within : r.core < length places = (let there = next.core_there in omega arith) in
    order-push (issued_by issued) rs r h (sym next.place ∙ counted r.core within) next.operation

pub left_by-push : (m : Memory) (rs : List Record) (r : Record) → left_by m (rs ++ r ∷ []) ≡ flat_after
    (left_by m rs) r.op
left_by-push m rs r = ap (replay_end m) (map_push (λ s. s.op) rs r) ∙ replay_end-push m (map (λ s. s.op) rs) r.op

-- the test of two received values
pub received_same : (a b : Option ℕ) → false ≡ not (option_eq eqb a b) → a ≡ b
received_same a b e = grind (arith, nat_tests)

pub received_other : (a b : Option ℕ) → true ≡ not (option_eq eqb a b) → a ≡ b → ⊥
received_other a b e h = grind (arith, nat_tests)
