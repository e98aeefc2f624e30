-- Deliveries and banks' evictions keep what rounds keep of recalls, line by line and core by core.
use Rattle.std.proofs.lemmas.Bool.Decides.{nat_tests}
use Rattle.std.proofs.Common.{Bool, true, false, cond, List, Option, subst, ⊎_elim, arith, IsPermutation, sum_by, rules}
use Rattle.std.proofs.Common.{◌≡◌, ◌≢◌, ℕ, ◌+◌, ◌≤◌, eqb, [], ◌∷◌, Some, None, inl, inr, ◌⊎◌, refl, sym, ap, ◌∙◌, ◌<◌}
use Rattle.std.proofs.lemmas.Bool.{cases_eq, cond-true, cond-false, eqb-true, eq-eqb, ne_eqb}
use Rattle.std.proofs.lemmas.List.Sums.{sum_by-cons}
use Rattle.std.proofs.lemmas.List.Sorted.{sum_by-IsPermutation}
use Rattle.physiological_order.specs.declared.operation.Op.{Op}
use Rattle.physiological_order.specs.Order.{address}
use Rattle.protocol.specs.Machine.{Config, Timed, Copy, Entry, Loading, Absent, Shared, Exclusive, Recalling, Storing}
use Rattle.protocol.specs.Machine.{Message, ExReq, FlushReq, WbReq, DramLd, DramLdRep, DramSt, DramStRep, Line, Core}
use Rattle.protocol.specs.Machine.{Machine, owns, tally, with_at, line_of, waits, IsPinned, Reachable, LineTransition}
use Rattle.protocol.specs.Machine.{evict_shared, evict_exclusive, dropped, wb_dropped, flushed, written_back}
use Rattle.protocol.specs.Machine.{load_starts, renewed, leased, upgraded, granted, wb_starts, flush_starts}
use Rattle.protocol.specs.Machine.{flush_returns, wb_returns, loaded, stored, evict_clean, evict_dirty, shuffled}
use Rattle.protocol.specs.Machine.{dram_loads, dram_stores, Answers, shared, exclusive, renews, upgrades, Transition}
use Rattle.protocol.specs.Machine.{issue, advance, ask, answer, complete, line_changes}
use Rattle.protocol.specs.Recalls.{recall_to, grant_to, return_of, OwnsOrWill, OwnerAnswers}
use Rattle.protocol.proofs.Lemmas.{about, one_if, owner_named, owners_answer, unowned, reachable_ok, with_at_cases}
use Rattle.machine_theorem.proofs.RecallPairs as pairs
use Rattle.machine_theorem.proofs.RecallPairs.{IsHere, Sound, Listed, Settled, Eased, IsOther, recalls, returns, eased}
use Rattle.machine_theorem.proofs.RecallPairs.{eased_list, listed_by}
use Rattle.machine_theorem.proofs.Turns.{issuing, attempting, advancing, delivering, leaves_at, kind_at, kind_of, Leads}

-- what the members of a bag weigh, in any order
tally_taken : (w : Message → ℕ) (xs ys : List Message) → IsPermutation xs ys → tally w xs ≡ tally w ys
tally_taken w xs ys h = sums xs ∙ sym (sum_by-IsPermutation w xs ys h) ∙ sym (sums ys)
  where
    sums : (zs : List Message) → tally w zs ≡ sum_by w zs
    sums [] = refl
    sums (z ∷ zs) = ap (λ n. w z + n) (sums zs) ∙ sym (sum_by-cons w z zs)

pub one_at : (c d : ℕ) → c ≡ d → ◌≡◌ {A = ℕ} (cond (eqb d c) 1 0) 1
one_at c d e = cond-true (eqb d c) 1 0 (eq-eqb d c (sym e))

pub none_at : (c d : ℕ) → c ≢ d → ◌≡◌ {A = ℕ} (cond (eqb d c) 1 0) 0
none_at c d ne = cond-false (eqb d c) 1 0 (ne_eqb d c (λ e. ne (sym e)))

module _ (f : Config) where
  -- of each line and core; of messages that weigh so much it is still to be delivered in this round
  abbrev pub Good : (ℕ → (Message → ℕ) → ℕ) → Machine → Type 0
  Good p m = (l c : ℕ) → Sound f l c (m.lines l) ((m.cores c).open_op)
      × Listed f l c (m.lines l) ((m.cores c).open_op) (p l (recall_to c)) (p l (return_of c))

  -- machines with the same entries, copies and open operations, whose messages weigh the same
  pub record Alike (m n : Machine) : Type 0 where
    pub entry : (l : ℕ) → (n.lines l).entry ≡ (m.lines l).entry
    pub copies : (l c : ℕ) → (n.lines l).copies c ≡ (m.lines l).copies c
    pub weighs : (l : ℕ) (w : Message → ℕ) → tally w (n.lines l).messages ≡ tally w (m.lines l).messages
    pub opens : (c : ℕ) → (n.cores c).open_op ≡ (m.cores c).open_op

  pub owned_alike : (m n : Machine) → Alike m n → (l c : ℕ) → OwnsOrWill c (m.lines l) → OwnsOrWill c (n.lines l)
  owned_alike m n k l c (inl own) = inl (ap owns (k.copies l c) ∙ own)
  owned_alike m n k l c (inr grant) = inr (let z = k.weighs l (grant_to c) in omega (arith, z, grant))

  pub eased_alike : (m n : Machine) → Alike m n → (l c : ℕ) → Eased f l c (m.lines l) (n.lines l)
  eased_alike m n k l c = search (rules, owned_alike)

  pub good_alike : (p : ℕ → (Message → ℕ) → ℕ) (m n : Machine) → Alike m n → Good p m → Good p n
  good_alike p m n k good l c = let e = eased_alike m n k l c in grind (arith, nat_tests)

module _ (f : Config) (good : 0 < f.line_words) (strict : f.loses_recalls ≡ false) where
  module _ (m : Machine) (r : Reachable f m) (l c : ℕ) where
    abbrev x : Line
    x = m.lines l

    abbrev o : Option Op
    o = (m.cores c).open_op

    -- nothing new is on the way, or nothing is left to be delivered
    abbrev Kept : Line → Type 0
    Kept y = Eased f l c x y ⊎ (Sound f l c x o → Settled f l c y o)

    abbrev Answered : Line → Type 0
    Answered y = OwnerAnswers y y.entry

    -- the entry stays, and with it the owner
    stays : (y : Line) → Answered y → y.entry ≡ x.entry → recalls c y ≤ recalls c x → returns c y ≤ returns c x → Kept y
    stays y after same recalled returned = inl (record {
      entry = inl same;
      recalled = recalled;
      returned = returned;
      owned = λ has. let named = owner_named f good strict m r l c has in ⊎_elim
          (λ (e : x.entry ≡ Exclusive c). by_exclusive named.1 (subst (OwnerAnswers y) (same ∙ e) after))
          (λ (e : x.entry ≡ Recalling c). by_recalling named.1 (subst (OwnerAnswers y) (same ∙ e) after)) named.0;
    })
      where
        by_exclusive : returns c x ≡ 0 → OwnerAnswers y (Exclusive c) → OwnsOrWill c y
        by_exclusive none (inl back) = absurd (omega (arith, back, returned, none))
        by_exclusive none (inr own) = own

        by_recalling : returns c x ≡ 0 → OwnerAnswers y (Recalling c) → OwnsOrWill c y
        by_recalling none (inl back) = absurd (omega (arith, back, returned, none))
        by_recalling none (inr own) = own.1

    -- what messages weigh less and more after a step
    record Fewer (ms : List Message) : Type 0 where
      recalled : tally (recall_to c) ms ≤ recalls c x
      returned : tally (return_of c) ms ≤ returns c x
      granted : tally (grant_to c) x.messages ≤ tally (grant_to c) ms

    takes : {first : Message} {rest : List Message} (w : Message → ℕ) → IsPermutation x.messages (first ∷ rest) →
        tally w x.messages ≡ w first + tally w rest
    takes w p = tally_taken w x.messages _ p

    less : {first : Message} {rest : List Message} (w : Message → ℕ) → IsPermutation x.messages (first ∷ rest) →
        tally w rest ≤ tally w x.messages
    less w p = let z = takes w p in omega (arith, z)

    by_taking : {first : Message} {rest : List Message} → IsPermutation x.messages (first ∷ rest) →
        grant_to c first ≡ 0 → Fewer rest
    by_taking p no_grant = record {
      recalled = less (recall_to c) p;
      returned = less (return_of c) p;
      granted = let z = takes (grant_to c) p in omega (arith, z, no_grant);
    }

    by_sending : (sent : Message) → recall_to c sent ≡ 0 → return_of c sent ≡ 0 → Fewer (sent ∷ x.messages)
    by_sending sent no_recall no_return = search rules

    by_swapping : {first : Message} {rest : List Message} (sent : Message) →
        IsPermutation x.messages (first ∷ rest) → recall_to c sent ≡ 0 → return_of c sent ≡ 0 →
        grant_to c first ≡ 0 → Fewer (sent ∷ rest)
    by_swapping sent p no_recall no_return no_grant = let k = by_taking p no_grant in grind (arith, nat_tests)

    -- the entry becomes another one
    leaves : (e : Entry) (ms : List Message) → IsOther f l c e → Fewer ms → Kept (record x { entry = e; messages = ms })
    leaves e ms other k = search (rules, other)

    -- one that names no owner, or another than this core
    abbrev IsUnowned : Entry → Type 0
    IsUnowned (Exclusive d) = c ≢ d
    IsUnowned (Recalling d) = c ≢ d
    IsUnowned _ = Unit {0}

    other : (e : Entry) → IsUnowned e → IsOther f l c e
    other (Exclusive d) ne = (λ e. ne (let z : d ≡ c = cc in sym z), λ e. absurd (cc))
    other (Recalling d) ne = (λ e. absurd (cc), λ e. ne (let z : d ≡ c = cc in sym z))
    other _ is = (λ e. absurd (cc), λ e. absurd (cc))

    -- a core gives the line back
    gives_back : {first : Message} {rest : List Message} (d : ℕ) (sent : Message) (copies : ℕ → Option Copy)
        (copy : Copy) → IsPermutation x.messages (first ∷ rest) → recall_to c first ≡ cond (eqb d c) 1 0 →
        recall_to c sent ≡ 0 → return_of c sent ≡ cond (eqb d c) 1 0 → x.copies d ≡ Some copy →
        copy.exclusive ≡ true → Answered (record x { copies = copies; messages = sent ∷ rest }) →
        Kept (record x { copies = copies; messages = sent ∷ rest })
    gives_back d sent copies copy p recall no_recall back is ex after = ⊎_elim
        (λ (e : c ≡ d). inr (pairs.served f l c x _ o refl
        (owner_named f good strict m r l c (inl (rw e (ap owns is ∙ cond-true copy.exclusive 1 0 ex)))).0
        (let z = takes (recall_to c) p in let y = one_at c d e in omega (arith, z, y, recall, no_recall))))
        (λ (ne : c ≡ d → ⊥). let y = none_at c d ne in stays _ after refl
        (let z = less (recall_to c) p in omega (arith, z, no_recall))
        (let z = less (return_of c) p in omega (arith, z, back, y))) (cases_eq c d)

    -- a bank recalls the line
    starts : (d : ℕ) (sent : Message) → recall_to c sent ≡ cond (eqb d c) 1 0 → return_of c sent ≡ 0 →
        x.entry ≡ Exclusive d → Kept (record x { entry = Recalling d; messages = sent ∷ x.messages })
    starts d sent recall no_return is = ⊎_elim
        (λ (e : c ≡ d). let was : x.entry ≡ Exclusive c = is ∙ ap Exclusive (sym e) in
        inr (pairs.recalled f l c x _ o was (ap Recalling (sym e))
        (let y = one_at c d e in omega (arith, recall, y))
        (λ has. ⊎_elim (λ (own : owns (x.copies c) ≡ 1). inl own)
        (λ (grant : 1 ≤ tally (grant_to c) x.messages). inr (omega (arith, grant))) has)
        (subst (OwnerAnswers x) was (owners_answer f good strict m r l))))
        (λ (ne : c ≡ d → ⊥). let y = none_at c d ne in leaves _ _ (other (Recalling d) ne)
        (by_sending sent (recall ∙ y) no_return)) (cases_eq c d)

    -- the core that asks has its operation open on the line
    asks_here : 1 ≤ tally (about c) x.messages → IsHere f l o
    asks_here some = go ((m.cores c).out) o refl
        (let z = ((reachable_ok f good m r).lines l).2.asks c in omega (arith, some, z))
      where
        go : (out : Bool) (i : Option Op) → o ≡ i → 1 ≤ waits f l out i → IsHere f l o
        go true (Some op) opens some = (op, opens, at (eqb (line_of f (address op)) l) refl some)
          where
            at : (b : Bool) → eqb (line_of f (address op)) l ≡ b → 1 ≤ cond b 1 0 → line_of f (address op) ≡ l
            at true is some = eqb-true _ _ is
            at false is some = absurd (omega (arith, some))
        go true None opens some = absurd (omega (arith, some))
        go false i opens some = absurd (omega (arith, some))

    -- a bank grants it
    grants : {version : Option ℕ} {rest : List Message} (d : ℕ) (sent : Message) (dirty : Bool) (line : Timed) →
        x.entry ≡ Shared dirty line → IsPermutation x.messages (ExReq d version ∷ rest) → recall_to c sent ≡ 0 →
        return_of c sent ≡ 0 → grant_to c sent ≡ cond (eqb d c) 1 0 →
        Kept (record x { entry = Exclusive d; messages = sent ∷ rest })
    grants d sent dirty line is p no_recall no_return grant =
        let k = by_swapping sent p no_recall no_return refl in ⊎_elim
        (λ (e : c ≡ d). let free = unowned f good strict m r l dirty line is c in inr (pairs.granted f l c x _ o free.0
        (ap Exclusive (sym e)) k.recalled (let z = k.returned in let y = free.1 in omega (arith, z, y))
        (inr (let y = one_at c d e in omega (arith, grant, y)))
        (asks_here (let z = takes (about c) p in let y = ap one_if (eq-eqb d c (sym e)) in omega (arith, z, y)))))
        (λ (ne : c ≡ d → ⊥). leaves _ _ (other (Exclusive d) ne) k) (cases_eq c d)

    moved : {t u : ℕ} {y : Line} (move : LineTransition f.lease f.loses_recalls (IsPinned f m.cores l) t x u y) →
        leaves_at move ≡ None → Answered y → Kept y
    moved (evict_shared d copy un is sh) none after = absurd (let z : Some d ≡ None = none in cc)
    moved (evict_exclusive d copy un is ex) none after = absurd (let z : Some d ≡ None = none in cc)
    moved (dropped d rest p may) none after = stays _ after refl (less (recall_to c) p) (less (return_of c) p)
    moved (wb_dropped d until rest p may) none after = stays _ after refl (less (recall_to c) p) (less (return_of c) p)
    moved (flushed d rest copy p un is ex) none after = gives_back d _ _ copy p refl refl refl is ex after
    moved (written_back d until rest copy p un is ex) none after = gives_back d _ _ copy p refl refl refl is ex after
    moved (load_starts absent) none after = leaves _ _ (other Loading tt) (by_sending DramLd refl refl)
    moved (renewed d pts dirty line rest is p) none after = leaves _ _ (other (Shared _ _) tt)
        (by_swapping _ p refl refl refl)
    moved (leased d pts version dirty line rest is p) none after =
        leaves _ _ (other (Shared _ _) tt) (by_swapping _ p refl refl refl)
    moved (upgraded d dirty line rest is p) none after = grants d _ dirty line is p refl refl refl
    moved (granted d version dirty line rest is p) none after = grants d _ dirty line is p refl refl refl
    moved (wb_starts d until is) none after = starts d (WbReq d until) refl refl is
    moved (flush_starts d is) none after = starts d (FlushReq d) refl refl is
    moved (flush_returns d line rest p) none after = leaves _ _ (other (Shared true line) tt) (by_taking p refl)
    moved (wb_returns d line rest p) none after = leaves _ _ (other (Shared true line) tt) (by_taking p refl)
    moved (loaded words rest p) none after = leaves _ _ (other (Shared _ _) tt) (by_taking p refl)
    moved (stored rest p) none after = leaves _ _ (other Absent tt) (by_taking p refl)
    moved (evict_clean line is) none after = leaves _ _ (other Absent tt)
        (record { recalled = omega arith; returned = omega arith; granted = omega arith })
    moved (evict_dirty line is) none after = leaves _ _ (other Storing tt) (by_sending (DramSt line.words) refl refl)
    moved (shuffled ms p) none after = stays _ after refl
        (let z = tally_taken (recall_to c) x.messages ms p in omega (arith, z))
        (let z = tally_taken (return_of c) x.messages ms p in omega (arith, z))
    moved (dram_loads rest p) none after = grind (arith, by_swapping (DramLdRep x.dram) p refl refl refl)
    moved (dram_stores words rest p) none after = let k = by_swapping DramStRep p refl refl refl in
        stays _ after refl k.recalled k.returned

    answered : {d : ℕ} {y : Line} → Answers d x y → Answered y → Kept y
    answered (shared line rest p) after = stays _ after refl (less (recall_to c) p) (less (return_of c) p)
    answered (exclusive line rest p) after = stays _ after refl (less (recall_to c) p) (less (return_of c) p)
    answered (renews rts copy rest p is) after = stays _ after refl (less (recall_to c) p) (less (return_of c) p)
    answered (upgrades rts copy rest p is) after = stays _ after refl (less (recall_to c) p) (less (return_of c) p)

  quiet : (l : ℕ) (o : Option ℕ) → kind_at l o ≡ delivering → o ≡ None
  quiet l None is = refl
  quiet l (Some c) is = absurd (cc)

  module _ (m : Machine) (r : Reachable f m) where
    -- one line changes, and so may a core
    changed : (k : ℕ) (y : Line) (c : ℕ) → (Answered m r k c y → Kept m r k c y) → (l : ℕ) →
        Answered m r l c (with_at m.lines k y l) → Kept m r l c (with_at m.lines k y l)
    changed k y c here = with_at_cases (λ l (z : Line). Answered m r l c z → Kept m r l c z) m.lines k y here
        (λ l ne after. stays m r l c _ after refl (omega arith) (omega arith))

    delivered : {n : Machine} (turn : Transition f m n) → kind_of turn ≡ delivering → Reachable f n → (l c : ℕ) →
        Kept m r l c (n.lines l) × ((n.cores c).open_op ≡ (m.cores c).open_op)
    delivered (issue d op none) is s l c = absurd (let z : issuing d ≡ delivering = is in cc)
    delivered (advance d) is s l c = absurd (let z : advancing ≡ delivering = is in cc)
    delivered (ask d op y opens out asks) is s l c = absurd (let z : attempting d ≡ delivering = is in cc)
    delivered (complete d op copy new received ts opens out is_there uses) is s l c = grind (arith, delivering)
    delivered (answer d k y answers) is s l c = (
      changed k y c (answered m r k c answers) l (owners_answer f good strict _ s l),
      with_at_cases (λ j (z : Core). z.open_op ≡ (m.cores j).open_op) m.cores d _ refl (λ j ne. refl) c,
    )
    delivered (line_changes k t y move) is s l c =
        (changed k y c (moved m r k c move (quiet k (leaves_at move) is)) l (owners_answer f good strict _ s l), refl)

    -- what is still to be delivered, before and after
    abbrev pub Settles : (p q : ℕ → (Message → ℕ) → ℕ) → Machine → (Message → ℕ) → Type 0
    Settles p q n w = (l : ℕ) → tally w (n.lines l).messages ≤ tally w (m.lines l).messages →
        tally w (m.lines l).messages ≤ p l w → tally w (n.lines l).messages ≤ q l w

    pub delivery_keeps : (n : Machine) → Reachable f n → Leads f delivering m n → (p q : ℕ → (Message → ℕ) → ℕ) →
        ((c : ℕ) → Settles p q n (recall_to c)) → ((c : ℕ) → Settles p q n (return_of c)) → Good f p m → Good f q n
    delivery_keeps n s t p q recall back so l c =
        let k = delivered t.turn t.is s l c in rw k.1 (⊎_elim
        (λ (e : Eased f l c (m.lines l) (n.lines l)). (
          eased f l c _ _ _ e (so l c).0,
          eased_list f l c _ _ _ _ _ _ _ e (recall c l e.recalled) (back c l e.returned) (so l c).1,
        ))
        (λ (z : Sound f l c (m.lines l) ((m.cores c).open_op) → Settled f l c (n.lines l) ((m.cores c).open_op)).
        let y = z (so l c).0 in (
          y.0,
          listed_by f l c _ _ _ _ _ _ (λ none. omega (arith, none)) (λ none. omega (arith, none)) y.1,
        )) k.0)
