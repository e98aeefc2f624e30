use Rattle.std.proofs.Common.{◌%◌, ◌≡◌, ◌≢◌, ℕ, ◌+◌, ◌<◌, ◌≤◌, Bool, true, false, cond, eqb, List, [], ◌∷◌, Option, ◌⊎◌}
use Rattle.std.proofs.Common.{Some, None, inl, inr, refl, sym, ap, ◌∙◌, subst, arith, le_trans, ⊎_elim, rules}
use Rattle.std.proofs.lemmas.Bool.Decides.{nat_tests}
use Rattle.std.proofs.lemmas.Grind.{common_steps}
use Rattle.std.specs.List.Sorted.{IsPermutation}
use Rattle.std.proofs.lemmas.Bool.{cases_eq, cond-true, cond-false, eq-eqb, ne_eqb}
use Rattle.physiological_order.specs.declared.operation.Op.{Op}
use Rattle.physiological_order.specs.declared.operation.Record.{Record}
use Rattle.physiological_order.specs.Order.{Memory, address}
use Rattle.protocol.specs.Machine.{Exclusive, LineTransition, evict_shared, evict_exclusive, written_back, flush_starts}
use Rattle.protocol.specs.Machine.{Recalling, UpgradeRep, wb_dropped, dram_loads, dram_stores, Transition, line_changes}
use Rattle.protocol.specs.Machine.{RenewRep, FlushReq, FlushRep, upgraded, wb_starts, exclusive, Reachable, Copy}
use Rattle.protocol.specs.Machine.{shuffled, NotOwned, to_write, complete, Message, with_at, dropped, flushed, granted}
use Rattle.protocol.specs.Machine.{Answers, to_read, at_first, IsPinned, Config, Timed, Shared, shared, renews, Machine}
use Rattle.protocol.specs.Machine.{advance, answer, goes_on, line_of, Entry, ShRep, ExRep, WbReq, WbRep, Line, tally}
use Rattle.protocol.specs.Machine.{owns, upgrades, Asks, Uses, issue, ask}
use Rattle.protocol.specs.Recalls.{recall_to, grant_to, return_of, OwnsOrWill, OwnerAnswers}
use Rattle.protocol.proofs.Bags.{tally-taken}
use Rattle.protocol.proofs.Lines.{one_at_most, Holder, Bank, At, flying, right, about, one_if, EntryOk, LineOk}
use Rattle.protocol.proofs.Lines.{with_at_same, with_at_cases}
use Rattle.protocol.proofs.LineChanges.{Goes, At_injective, at_most_one, ok_shuffled}
use Rattle.protocol.proofs.Headline.{MachineOk, reachable_ok, waits_unpinned, busy}
use Rattle.protocol.proofs.Completions.{values}

-- a bag by what its members weigh at most
pub tally_le : {X : Type 0} (u w : X → ℕ) → ((x : X) → u x ≤ w x) → (xs : List X) → tally u xs ≤ tally w xs
tally_le u w le [] = omega arith
tally_le u w le (x ∷ xs) = let a = le x in let b = tally_le u w le xs in omega arith

tally_both : {X : Type 0} (u v w : X → ℕ) → ((x : X) → u x + v x ≤ w x) → (xs : List X) →
    tally u xs + tally v xs ≤ tally w xs
tally_both u v w le [] = omega arith
tally_both u v w le (x ∷ xs) = let a = le x in let b = tally_both u v w le xs in omega arith

-- grants and returns of one core have the right; a grant answers a request of its core
rights : (c o : ℕ) (m : Message) → grant_to c m + return_of o m ≤ right m
rights c o (ExRep d x) = let z = one_at_most (eqb d c) in omega arith
rights c o (UpgradeRep d r) = let z = one_at_most (eqb d c) in omega arith
rights c o (FlushRep d x) = let z = one_at_most (eqb d o) in omega arith
rights c o (WbRep d x) = let z = one_at_most (eqb d o) in omega arith
rights c o _ = omega arith

-- a grant is one core's alone
one_of : (c o d : ℕ) → o ≢ c → cond (eqb d c) 1 0 + cond (eqb d o) 1 0 ≤ 1
one_of c o d ne = grind (arith, nat_tests)

apart : (c o : ℕ) → o ≢ c → (m : Message) → grant_to c m + grant_to o m ≤ right m
apart c o ne (ExRep d x) = one_of c o d ne
apart c o ne (UpgradeRep d r) = one_of c o d ne
apart c o ne _ = omega arith

one_if_cond : (b : Bool) → one_if b ≡ cond b 1 0
one_if_cond true = refl
one_if_cond false = refl

granted_asks : (c : ℕ) (m : Message) → grant_to c m ≤ about c m
granted_asks c (ExRep d x) = let z = one_if_cond (eqb d c) in omega arith
granted_asks c (UpgradeRep d r) = let z = one_if_cond (eqb d c) in omega arith
granted_asks c _ = omega arith

own : (c : ℕ) → ◌≡◌ {A = ℕ} (cond (eqb c c) 1 0) 1
own c = cond-true (eqb c c) 1 0 (eq-eqb c c refl)

pub owns_some : (y : Option Copy) → owns y ≡ 1 → (copy : Copy) × (y ≡ Some copy) × (copy.exclusive ≡ true)
owns_some None e = absurd (omega arith)
owns_some (Some copy) e = grind (arith, nat_tests)

owns_not : (y : Option Copy) → NotOwned y → owns y ≡ 0
owns_not None free = refl
owns_not (Some copy) free = cond-false copy.exclusive 1 0 (free copy refl)

-- a copy that takes another's place and has the right exactly if that one had
owns_same : (copies : ℕ → Option Copy) (c : ℕ) (y : Option Copy) → owns y ≡ owns (copies c) → (d : ℕ) →
    owns (with_at copies c y d) ≡ owns (copies d)
owns_same copies c y e d = grind (arith, nat_tests)

-- nothing that an owner's answer rests on goes
record Stays (x y : Line) : Type 0 where
  owners : (c : ℕ) → owns (y.copies c) ≡ owns (x.copies c)
  grants : (c : ℕ) → tally (grant_to c) x.messages ≤ tally (grant_to c) y.messages
  returns : (c : ℕ) → tally (return_of c) x.messages ≤ tally (return_of c) y.messages
  recalls : (c : ℕ) → tally (recall_to c) x.messages ≤ tally (recall_to c) y.messages

owns_or_will : (x y : Line) → Stays x y → (c : ℕ) → OwnsOrWill c x → OwnsOrWill c y
owns_or_will x y s c (inl o) = inl (s.owners c ∙ o)
owns_or_will x y s c (inr g) = inr (le_trans g (s.grants c))

answers_stay : (x y : Line) → Stays x y → (e : Entry) → OwnerAnswers x e → OwnerAnswers y e
answers_stay x y s (Exclusive c) (inl r) = inl (le_trans r (s.returns c))
answers_stay x y s (Exclusive c) (inr o) = inr (owns_or_will x y s c o)
answers_stay x y s (Recalling c) (inl r) = inl (le_trans r (s.returns c))
answers_stay x y s (Recalling c) (inr o) = inr (le_trans o.0 (s.recalls c), owns_or_will x y s c o.1)
answers_stay x y s _ k = tt

recall_other : (c d : ℕ) → d ≢ c → ◌≡◌ {A = ℕ} (cond (eqb c d) 1 0) 0
recall_other c d n = cond-false (eqb c d) 1 0 (ne_eqb c d (λ e. n (sym e)))

module _ (f : Config) (h : ℕ → Memory) (l : ℕ) (records : List Record) (busy : ℕ → ℕ) (t : ℕ) (x : Line) (s : Timed)
    (b : Holder) (ok : LineOk f h l records busy t x s b) where
  all_rights : (c : ℕ) → tally (grant_to c) x.messages + tally (return_of c) x.messages ≤ flying b
  all_rights c = search (rules, tally_both, right, rights)

  -- the owner is the one that the entry names
  owner_at : (c o : ℕ) (copy : Copy) → x.copies c ≡ Some copy → copy.exclusive ≡ true → OwnsOrWill o x → o ≡ c
  owner_at c o copy is ex (inl owns_it) =
      let there = owns_some (x.copies o) owns_it in
      At_injective o c (sym ((ok.copies o there.0 there.1).0 there.2).0 ∙ ((ok.copies c copy is).0 ex).0)
  owner_at c o copy is ex (inr grants) =
      absurd (let z = all_rights o in let e = ap flying ((ok.copies c copy is).0 ex).0 in omega arith)

  none_returns : (c o : ℕ) (copy : Copy) → x.copies c ≡ Some copy → copy.exclusive ≡ true →
      tally (return_of o) x.messages ≡ 0
  none_returns c o copy is ex = let z = all_rights o in let e = ap flying ((ok.copies c copy is).0 ex).0 in omega arith

  -- where an owner is, it is the core that the entry names
  named : (c : ℕ) (copy : Copy) → x.copies c ≡ Some copy → copy.exclusive ≡ true → (e : Entry) → OwnerAnswers x e →
      (y : Line) → 1 ≤ tally (return_of c) y.messages → OwnerAnswers y e
  named c copy is ex (Exclusive o) (inl r) y back = absurd (let z = none_returns c o copy is ex in omega arith)
  named c copy is ex (Exclusive o) (inr w) y back =
      inl (subst (λ (i : ℕ). 1 ≤ tally (return_of i) y.messages) (sym (owner_at c o copy is ex w)) back)
  named c copy is ex (Recalling o) (inl r) y back = absurd (let z = none_returns c o copy is ex in omega arith)
  named c copy is ex (Recalling o) (inr w) y back =
      inl (subst (λ (i : ℕ). 1 ≤ tally (return_of i) y.messages) (sym (owner_at c o copy is ex w.1)) back)
  named c copy is ex _ q y back = tt

  -- a core without a right, and without a reply to come, is no owner and won't be
  no_owner : (c : ℕ) → busy c ≡ 0 → NotOwned (x.copies c) → OwnsOrWill c x → ⊥
  no_owner c free not (inl o) = let z = owns_not (x.copies c) not in omega arith
  no_owner c free not (inr g) = search (rules, tally_le, about, granted_asks)

  -- a bag with one message more, and with one exchanged for another
  more : (m : Message) (e : Entry) → Stays x (record x { entry = e; messages = m ∷ x.messages })
  more m e = grind (arith, nat_tests)

  exchanged : (m n : Message) (rest : List Message) (d : List ℕ) → IsPermutation x.messages (m ∷ rest) →
      ((c : ℕ) → grant_to c m ≡ 0) → ((c : ℕ) → return_of c m ≡ 0) → ((c : ℕ) → recall_to c m ≡ 0) →
      Stays x (record x { messages = n ∷ rest; dram = d })
  exchanged m n rest d p g r a = record {
    owners = λ c. refl;
    grants = λ c. let e = tally-taken (grant_to c) x.messages (m ∷ rest) p in let z = g c in omega arith;
    returns = λ c. let e = tally-taken (return_of c) x.messages (m ∷ rest) p in let z = r c in omega arith;
    recalls = λ c. let e = tally-taken (recall_to c) x.messages (m ∷ rest) p in let z = a c in omega arith;
  }

  -- a stale recall may go
  without : (c : ℕ) (m : Message) (rest : List Message) → IsPermutation x.messages (m ∷ rest) →
      ((d : ℕ) → grant_to d m ≡ 0) → ((d : ℕ) → return_of d m ≡ 0) → ((d : ℕ) → d ≢ c → recall_to d m ≡ 0) →
      (OwnsOrWill c x → ⊥) → (e : Entry) → OwnerAnswers x e → OwnerAnswers (record x { messages = rest }) e
  without c m rest p g r a never e q = by_entry e q
    where
      back : (o : ℕ) → 1 ≤ tally (return_of o) x.messages → 1 ≤ tally (return_of o) rest
      back o z = let i = tally-taken (return_of o) x.messages (m ∷ rest) p in let j = r o in omega arith

      will : (o : ℕ) → OwnsOrWill o x → OwnsOrWill o (record x { messages = rest })
      will o (inl owns_it) = inl owns_it
      will o (inr z) = inr (let i = tally-taken (grant_to o) x.messages (m ∷ rest) p in let j = g o in omega arith)

      by_entry : (e : Entry) → OwnerAnswers x e → OwnerAnswers (record x { messages = rest }) e
      by_entry (Exclusive o) (inl z) = inl (back o z)
      by_entry (Exclusive o) (inr z) = inr (will o z)
      by_entry (Recalling o) (inl z) = inl (back o z)
      by_entry (Recalling o) (inr z) =
          ⊎_elim
          (λ (i : o ≡ c). absurd (never (subst (λ (d : ℕ). OwnsOrWill d x) i z.1)))
          (λ (n : o ≡ c → ⊥). inr (
            let i = tally-taken (recall_to o) x.messages (m ∷ rest) p in let j = a o n in omega arith,
            will o z.1,
          ))
          (cases_eq o c)
      by_entry _ z = tt

  -- a recall starts
  recalled : (owner : ℕ) (m : Message) → x.entry ≡ Exclusive owner → recall_to owner m ≡ 1 → OwnerAnswers x x.entry →
      OwnerAnswers (record x { entry = Recalling owner; messages = m ∷ x.messages }) (Recalling owner)
  recalled owner m is one q = let q0 = more m (Recalling owner) in grind (arith, nat_tests, q0)

  module _ (q : OwnerAnswers x x.entry) where
    -- every move of one line keeps what the entry says of the owner
    pub moves_answer : {lease : ℕ} {pinned : ℕ → Type 0} → ((c : ℕ) → (pinned c → ⊥) → busy c ≡ 0) →
        {u : ℕ} {y : Line} → LineTransition lease false pinned t x u y → OwnerAnswers y y.entry
    moves_answer free {y = y} (evict_shared c copy un is sh) = grind (arith, nat_tests)
    moves_answer free {y = y} (evict_exclusive c copy un is ex) = grind (arith, nat_tests)
    moves_answer free (dropped c rest p may) =
        without c (FlushReq c) rest p (λ d. refl) (λ d. refl) (recall_other c) (no_owner c (free c may.0) may.1)
        x.entry q
    moves_answer free (wb_dropped c until rest p may) =
        without c (WbReq c until) rest p (λ d. refl) (λ d. refl) (recall_other c) (no_owner c (free c may.0) may.1)
        x.entry q
    moves_answer free {y = y} (flushed c rest copy p un is ex) = search (rules, named, own)
    moves_answer free {y = y} (written_back c until rest copy p un is ex) = search (rules, named, own)
    moves_answer free (upgraded c dirty line rest is p) = inr (inr (let i = own c in omega arith))
    moves_answer free (granted c version dirty line rest is p) = inr (inr (let i = own c in omega arith))
    moves_answer free (wb_starts owner until is) = recalled owner (WbReq owner until) is (own owner) q
    moves_answer free (flush_starts owner is) = recalled owner (FlushReq owner) is (own owner) q
    moves_answer free {y = y} (shuffled ms p) = grind (arith, nat_tests, common_steps, answers_stay, tally-taken)
    moves_answer free {y = y} (dram_loads rest p) = search (rules, answers_stay, exchanged)
    moves_answer free {y = y} (dram_stores words rest p) = search (rules, answers_stay, exchanged)
    moves_answer free _ = tt

    -- a request is no recall, grant or return
    pub asks_answer : (c pts : ℕ) (op : Op) (y : Line) → Asks c pts op x y → OwnerAnswers y y.entry
    asks_answer c pts op y (to_read a w) = answers_stay x y (more _ x.entry) x.entry q
    asks_answer c pts op y (to_write w) = answers_stay x y (more _ x.entry) x.entry q

    -- a reply that gives no right
    replied : (c : ℕ) (m : Message) (rest : List Message) (new : Copy) → IsPermutation x.messages (m ∷ rest) →
        ((d : ℕ) → grant_to d m ≡ 0) → ((d : ℕ) → return_of d m ≡ 0) → ((d : ℕ) → recall_to d m ≡ 0) →
        owns (Some new) ≡ owns (x.copies c) →
        Stays x (record x { copies = with_at x.copies c (Some new); messages = rest })
    replied c m rest new p g r a same = record {
      owners = owns_same x.copies c (Some new) same;
      grants = λ d. let e = tally-taken (grant_to d) x.messages (m ∷ rest) p in let z = g d in omega arith;
      returns = λ d. let e = tally-taken (return_of d) x.messages (m ∷ rest) p in let z = r d in omega arith;
      recalls = λ d. let e = tally-taken (recall_to d) x.messages (m ∷ rest) p in let z = a d in omega arith;
    }

    -- a grant that comes makes the core that the entry names the owner
    became_owner : (c : ℕ) (m : Message) (rest : List Message) (new : Copy) → IsPermutation x.messages (m ∷ rest) →
        right m ≡ 1 → ((d : ℕ) → d ≢ c → grant_to d m ≡ 0) → ((d : ℕ) → return_of d m ≡ 0) →
        ((d : ℕ) → recall_to d m ≡ 0) → owns (Some new) ≡ 1 → (e : Entry) → OwnerAnswers x e →
        OwnerAnswers (record x { copies = with_at x.copies c (Some new); messages = rest }) e
    became_owner c m rest new p one others none calm has e z = by_entry e z
      where
        y : Line
        y = record x { copies = with_at x.copies c (Some new); messages = rest }

        alone : tally right rest ≡ 0
        alone = let i = tally-taken right x.messages (m ∷ rest) p in let j = ok.owner_count in
            let k = at_most_one b in omega arith

        no_return : (o : ℕ) → 1 ≤ tally (return_of o) x.messages → ⊥
        no_return o i = let j = tally-taken (return_of o) x.messages (m ∷ rest) p in let k = none o in
            let n = tally_both (grant_to o) (return_of o) right (rights o o) rest in let a = alone in omega arith

        is_named : (o : ℕ) → OwnsOrWill o x → o ≡ c
        is_named o (inl i) =
            let there = owns_some (x.copies o) i in
            absurd (let a = ap flying ((ok.copies o there.0 there.1).0 there.2).0 in
            let j = tally-taken right x.messages (m ∷ rest) p in let k = ok.owner_count in omega arith)
        is_named o (inr i) =
            ⊎_elim (λ (e : o ≡ c). e)
            (λ (n : o ≡ c → ⊥). absurd (let j = tally-taken (grant_to o) x.messages (m ∷ rest) p in
            let k = others o n in
            let b = tally_both (grant_to o) (return_of o) right (rights o o) rest in let a = alone in omega arith))
            (cases_eq o c)

        owns_now : (o : ℕ) → o ≡ c → OwnsOrWill o y
        owns_now o i = inl (search (rules, with_at_same))

        by_entry : (e : Entry) → OwnerAnswers x e → OwnerAnswers y e
        by_entry (Exclusive o) (inl i) = absurd (no_return o i)
        by_entry (Exclusive o) (inr i) = inr (owns_now o (is_named o i))
        by_entry (Recalling o) (inl i) = absurd (no_return o i)
        by_entry (Recalling o) (inr i) = inr (
          let j = tally-taken (recall_to o) x.messages (m ∷ rest) p in let k = calm o in let a = i.0 in omega arith,
          owns_now o (is_named o i.1),
        )
        by_entry _ i = tt

    pub replies_answer : (c : ℕ) (y : Line) → Answers c x y → OwnerAnswers y y.entry
    replies_answer c y (shared line rest p) =
        let k = ok_shuffled f h l records busy x (ShRep c line ∷ rest) p ok in
        answers_stay x y (search (rules, replied, owns_not)) x.entry q
    replies_answer c y (renews rts copy rest p is) =
        answers_stay x y (replied c (RenewRep c rts) rest (record copy { line = record (copy.line) { rts = rts } }) p
        (λ d. refl) (λ d. refl) (λ d. refl) (ap owns (sym is))) x.entry q
    replies_answer c y (exclusive line rest p) = search (rules, became_owner, recall_other)
    replies_answer c y (upgrades rts copy rest p is) = search (rules, became_owner, recall_other)

    pub uses_answer : (pts ts c : ℕ) (copy new : Copy) (op : Op) (received : Option ℕ) → x.copies c ≡ Some copy →
        Uses f pts copy op received ts new →
        OwnerAnswers (record x { copies = with_at x.copies c (Some new) }) x.entry
    uses_answer pts ts c copy new op received is used = grind (arith, nat_tests)

-- a machine whose line answers
abbrev Answer : Machine → Type 0
Answer m = (l : ℕ) → OwnerAnswers (m.lines l) (m.lines l).entry

change_answers : (f : Config) → f.loses_recalls ≡ false → (m n : Machine) → MachineOk f m → Answer m →
    Transition f m n → Answer n
change_answers f strict m n ok so_far change = by_change n change
  where
    at : (here : ℕ) (y : Line) → OwnerAnswers y y.entry → (i : ℕ) →
        OwnerAnswers (with_at m.lines here y i) (with_at m.lines here y i).entry
    at here y z = with_at_cases (λ i x. OwnerAnswers x x.entry) m.lines here y z (λ i ne. so_far i)

    by_change : (n : Machine) → Transition f m n → Answer n
    by_change n (issue c op none) = so_far
    by_change n (advance c) = so_far
    by_change n (ask c op y opens quiet a) =
        let here = line_of f (address op) in
        at here y (asks_answer f _ here m.records _ _ (m.lines here) _ _ (ok.lines here).2 (so_far here) c _ op y a)
    by_change n (answer c here y a) =
        at here y (replies_answer f _ here m.records _ _ (m.lines here) _ _ (ok.lines here).2 (so_far here) c y a)
    by_change n (complete c op copy new received ts opens quiet is used) =
        let here = line_of f (address op) in
        at here _ (uses_answer f _ here m.records _ _ (m.lines here) _ _ (ok.lines here).2 (so_far here) _ ts c copy
        new op received is used)
    by_change n (line_changes here u y mv) =
        at here y (moves_answer f _ here m.records _ _ (m.lines here) _ _ (ok.lines here).2 (so_far here)
        (λ c un. waits_unpinned f here (m.cores c).out (m.cores c).open_op un)
        (subst (λ b. LineTransition f.lease b (IsPinned f m.cores here) (m.mts (here % f.banks)) (m.lines here) u y)
        strict mv))

-- so in every reached machine, if no recall may be lost
pub owners_answer : (f : Config) → 0 < f.line_words → f.loses_recalls ≡ false → (m : Machine) → Reachable f m → Answer m
owners_answer f good strict m (at_first pts mts drams at opens) = λ l. tt
owners_answer f good strict m (goes_on {m = before} r change) =
    change_answers f strict before m (reachable_ok f good before r) (owners_answer f good strict before r) change

-- in every reached machine the entry names the owner of its line, and no core owns a line that its bank has
module _ (f : Config) (good : 0 < f.line_words) (strict : f.loses_recalls ≡ false) (m : Machine) (r : Reachable f m)
    (l : ℕ) where
  abbrev x : Line
  x = m.lines l

  -- it, and no return is on the way
  abbrev pub IsNamed : ℕ → Type 0
  IsNamed c = ((x.entry ≡ Exclusive c) ⊎ (x.entry ≡ Recalling c)) × (tally (return_of c) x.messages ≡ 0)

  pub owner_named : (c : ℕ) → OwnsOrWill c x → IsNamed c
  owner_named c has = by_entry x.entry refl k.2.entry (owners_answer f good strict m r l)
    where
      k : Goes f (values f m.records) l m.records (busy f m.cores l) (m.mts (l % f.banks)) x
      k = (reachable_ok f good m r).lines l

      no_bank : k.1 ≡ Bank → ⊥
      no_bank e = go has
        where
          go : OwnsOrWill c x → ⊥
          go (inl is) = let there = owns_some (x.copies c) is in
              absurd (let z : At c ≡ Bank = sym ((k.2.copies c there.0 there.1).0 there.2).0 ∙ e in cc)
          go (inr grant) = let z = all_rights f _ l m.records _ _ x _ _ k.2 c in let y = ap flying e in
              absurd (omega (arith, z, y, grant))

      no_return : (o : ℕ) → tally (return_of o) x.messages ≡ 0
      no_return o = go has
        where
          go : OwnsOrWill c x → tally (return_of o) x.messages ≡ 0
          go (inl is) = let there = owns_some (x.copies c) is in
              none_returns f _ l m.records _ _ x _ _ k.2 c o there.0 there.1 there.2
          go (inr grant) = let z = tally_both (grant_to c) (return_of o) right (rights c o) x.messages in
              let y = k.2.owner_count in let w = at_most_one k.1 in omega (arith, z, y, w, grant)

      same : (o : ℕ) → OwnsOrWill o x → o ≡ c
      same o other = go has other
        where
          go : OwnsOrWill c x → OwnsOrWill o x → o ≡ c
          go (inl is) other = let there = owns_some (x.copies c) is in
              owner_at f _ l m.records _ _ x _ _ k.2 c o there.0 there.1 there.2 other
          go (inr grant) (inl is) = let there = owns_some (x.copies o) is in
              absurd (let z = all_rights f _ l m.records _ _ x _ _ k.2 c in
              let y = ap flying ((k.2.copies o there.0 there.1).0 there.2).0 in omega (arith, z, y, grant))
          go (inr grant) (inr too) = ⊎_elim (λ (e : o ≡ c). e)
              (λ (ne : o ≡ c → ⊥). absurd (
              let z = tally_both (grant_to c) (grant_to o) right (apart c o ne) x.messages in
              let y = k.2.owner_count in let w = at_most_one k.1 in omega (arith, z, y, w, grant, too)))
              (cases_eq o c)

      by_entry : (e : Entry) → x.entry ≡ e → EntryOk k.0 k.1 (m.mts (l % f.banks)) x.dram e → OwnerAnswers x e →
          IsNamed c
      by_entry (Exclusive o) e ok (inl back) = absurd (let z = no_return o in omega (arith, z, back))
      by_entry (Exclusive o) e ok (inr own) = (inl (e ∙ ap Exclusive (same o own)), no_return c)
      by_entry (Recalling o) e ok (inl back) = absurd (let z = no_return o in omega (arith, z, back))
      by_entry (Recalling o) e ok (inr own) = (inr (e ∙ ap Recalling (same o own.1)), no_return c)
      by_entry _ e ok q = absurd (no_bank ok.0)

  pub unowned : (dirty : Bool) (line : Timed) → x.entry ≡ Shared dirty line → (c : ℕ) →
      (OwnsOrWill c x → ⊥) × (tally (return_of c) x.messages ≡ 0)
  unowned dirty line is c = (never, let z = all in omega (arith, z))
    where
      k : Goes f (values f m.records) l m.records (busy f m.cores l) (m.mts (l % f.banks)) x
      k = (reachable_ok f good m r).lines l

      at : k.1 ≡ Bank
      at = (subst (EntryOk k.0 k.1 (m.mts (l % f.banks)) x.dram) is k.2.entry).0

      all : tally (grant_to c) x.messages + tally (return_of c) x.messages ≤ 0
      all = let z = all_rights f _ l m.records _ _ x _ _ k.2 c in let e = ap flying at in omega (arith, z, e)

      never : OwnsOrWill c x → ⊥
      never (inl owns_it) =
          let there = owns_some (x.copies c) owns_it in
          absurd (let z : At c ≡ Bank = sym ((k.2.copies c there.0 there.1).0 there.2).0 ∙ at in cc)
      never (inr grant) = let z = all in absurd (omega (arith, z, grant))
