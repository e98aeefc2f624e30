-- What a machine makes of the events of a round, with the messages that are still to be delivered.
use Rattle.std.proofs.Common.{◌≡◌, ◌≢◌, ℕ, ◌+◌, ◌-◌, ◌^◌, ◌<◌, ◌≤◌, Bool, true, false, eqb, nat_lt, List, [], ◌∷◌, ◌++◌}
use Rattle.std.proofs.Common.{Option, Some, None, inl, inr, ◌⊎◌, refl, sym, ap, ◌∙◌, subst, ⊎_elim, arith, nat_cmp}
use Rattle.std.proofs.Common.{rules}
use Rattle.std.specs.List.{slice_get, AllByRecursion as Each}
use Rattle.std.specs.FinMap.{FinMap}
use Rattle.std.proofs.lemmas.Bool.{cases_Bool, cond_both, cond-true, cond-false, eq-eqb, ne_eqb, ltb-true, ltb-false}
use Rattle.std.proofs.lemmas.Bool.Decides.{nat_tests}
use Rattle.physiological_order.specs.declared.operation.Op.{Op}
use Rattle.network.specs.declared.message.Message.{Message}
use Rattle.network.specs.NumberedMessages.{IsRising, at_number, without_number}
use Rattle.llc_bank.specs.BankTable as bank_table
use Rattle.llc_bank.specs.BankTable.{BankState}
use Rattle.machine_table.specs.declared.config.Config.{Config}
use Rattle.machine_table.specs.declared.event.Answer.{Answer}
use Rattle.machine_table.specs.declared.event.Answer.TheVariants.{Refused}
use Rattle.machine_table.specs.declared.event.Event.{Event}
use Rattle.machine_table.specs.declared.event.Event.TheVariants.{Issue, Attempt, Advance, Deliver, EvictCache}
use Rattle.machine_table.specs.declared.event.Event.TheVariants.{EvictBank}
use Rattle.machine_table.specs.declared.event.Refusal.TheVariants as refusal
use Rattle.machine_table.specs.Machine.{Machine, with_core, with_bank, with_dram}
use Rattle.machine_table.specs.Opening.{at_start}
use Rattle.machine_table.specs.Posted.{can_post, left, posted}
use Rattle.machine_table.specs.SetUp.{SetUpAs, is_good}
use Rattle.machine_table.specs.Step as step
use Rattle.machine_table.specs.Step.{Step, entry_evicted}
use Rattle.machine_table.specs.Transition.{changed, deliver_to, if_there, on_event, refused, transition}
use Rattle.machine_theorem.specs.Bags.{bag_of, weigh}
use Rattle.machine_theorem.specs.HeldRecalls.{RecallsFindOwners}
use Rattle.machine_theorem.specs.Kept.{Invariant}
use Rattle.machine_theorem.specs.States.{seen}
use Rattle.machine_theorem.specs.View.{set_up, view}
use Rattle.machine_theorem.proofs.Deliveries.{line_weighs}
use Rattle.machine_theorem.proofs.Events.{any_transition}
use Rattle.machine_theorem.proofs.FoundCases.{Gets, a_core, a_bank, a_dram, gets_it}
use Rattle.machine_theorem.proofs.Openings.{at_start_invariant, fair}
use Rattle.machine_theorem.proofs.RecallPairs.{listed_by}
use Rattle.machine_theorem.proofs.RoundSteps.{Good, Turns, per_line, bank_evicts, delivery_keeps, attempt_turns}
use Rattle.machine_theorem.proofs.RoundSteps.{evict_turns, advance_turns, issue_turns}
use Rattle.machine_theorem.proofs.RoundTurns.{begins, delivers_next, later}
use Rattle.machine_theorem.proofs.ServiceEvents.{event_rises}
use Rattle.machine_theorem.proofs.SetUps.{transition_same}

module _ (k : ℕ) (y : Message) where
  abbrev IsThere : List (ℕ × Message) → Type 0
  IsThere ms = at_number k ms ≡ Some y

  -- a message stays where another is taken, and where one is sent
  stays_without : (n : ℕ) → k ≢ n → (ms : List (ℕ × Message)) → IsThere ms → IsThere (without_number n ms)
  stays_without n ne [] at = at
  stays_without n ne (x ∷ xs) at = let rest = stays_without n ne xs in grind (arith, nat_tests, rest)

  stays_sent : (z : ℕ × Message) (ms : List (ℕ × Message)) → IsThere ms → IsThere (ms ++ z ∷ [])
  stays_sent z [] at = absurd (let w : None ≡ Some y = at in cc)
  stays_sent z (x ∷ xs) at = let rest = stays_sent z xs in grind (arith, nat_tests, rest)

  module _ (m : Machine) (there : IsThere m.mail.messages) where
    abbrev Stays : Answer × Machine → Type 0
    Stays o = IsThere o.1.mail.messages

    posted_stays : (n : Option ℕ) → IsThere (left m.mail n).messages → (consumes : Bool) (sends : Option Message) →
        IsThere (posted m.mail n consumes sends).messages
    posted_stays n left_there true None = left_there
    posted_stays n left_there false None = there
    posted_stays n left_there true (Some q) = stays_sent (m.mail.next, q) (left m.mail n).messages left_there
    posted_stays n left_there false (Some q) = stays_sent (m.mail.next, q) m.mail.messages there

    changed_stays : {S : Type 0} (put : S → Machine) (n : Option ℕ) → IsThere (left m.mail n).messages →
        (done : Step S) → Stays (changed m put n done)
    changed_stays put n left_there step.Drops = left_there
    changed_stays put n left_there (step.Makes why consumes sends part) =
        cond_both (can_post m.config.messages m.mail consumes sends)
        (why, record (put part) { mail = posted m.mail n consumes sends }) (refused m refusal.NetworkFull) Stays
        (λ e. posted_stays n left_there consumes sends) (λ e. there)
    changed_stays put n left_there _ = there

    -- so it is of another's delivery, and of an eviction
    delivery_stays : (n : ℕ) (x : Message) → k ≢ n → Gets m n x → Stays (on_event m (Deliver n))
    delivery_stays n x ne gets = go gets
      where
        left_there : IsThere (left m.mail (Some n)).messages
        left_there = stays_without n ne m.mail.messages there

        go : Gets m n x → Stays (on_event m (Deliver n))
        go (a_core c to at has is) = subst Stays (sym is) (changed_stays (with_core m c) (Some n) left_there _)
        go (a_bank j to at has is) = subst Stays (sym is) (changed_stays (with_bank m j) (Some n) left_there _)
        go (a_dram j to at has is) = subst Stays (sym is) (changed_stays (with_dram m j) (Some n) left_there _)

    eviction_stays : (i line : ℕ) → Stays (on_event m (EvictBank i line))
    eviction_stays i line = go (slice_get m.banks i)
      where
        go : (o : Option BankState) →
            Stays (if_there m o (λ bank. changed m (with_bank m i) None (entry_evicted (bank_table.evict bank line))))
        go None = there
        go (Some bank) = changed_stays (with_bank m i) None there (entry_evicted (bank_table.evict bank line))

pub record Fit (m : Machine) : Type 0 where
  pub invariant : Invariant m
  pub rises : IsRising 0 m.mail.messages m.mail.next

-- what is so of a machine, by how it was set up
abbrev pub Claim : Type 1
Claim = Config → FinMap nat_cmp ℕ → Machine → Type 0

-- it is so, unless it has stopped, or has no more numbers
abbrev pub Unless : Claim → Machine → Type 0
Unless K m = (m.is_stopped ≡ true) ⊎ ((2 ^ 64 - 1 ≤ m.mail.next) ⊎ K m.config m.opening m)

abbrev pub Lasting : Claim → Machine → Type 0
Lasting K m = Fit m × Unless K m

-- where the one is so, the other is
follows : (K L : Claim) (m : Machine) → (Fit m → K m.config m.opening m → L m.config m.opening m) → Lasting K m →
    Lasting L m
follows K L m leads so = (so.0, go so.1)
  where
    go : Unless K m → Unless L m
    go (inl stopped) = inl stopped
    go (inr (inl full)) = inr (inl full)
    go (inr (inr k)) = inr (inr (leads so.0 k))

-- an event leads from the one to the other
lasts : (K L : Claim) (e : Event) (m : Machine) → (m.is_stopped ≡ false → m.mail.next < 2 ^ 64 - 1 → Fit m →
    K m.config m.opening m → ((on_event m e).1.is_stopped ≡ true) ⊎ L m.config m.opening (on_event m e).1) →
    Lasting K m → Lasting L (transition m e).1
lasts K L e m leads so = (
  record { invariant = any_transition m so.0.invariant e; rises = (event_rises m so.0.rises e).0 },
  ⊎_elim (λ (stopped : m.is_stopped ≡ true). stays_stopped stopped)
      (λ (more : (2 ^ 64 - 1 ≤ m.mail.next) ⊎ K m.config m.opening m). ⊎_elim
      (λ (used : 2 ^ 64 - 1 ≤ m.mail.next). full used)
      (λ (k : K m.config m.opening m). ⊎_elim (λ (stopped : m.is_stopped ≡ true). stays_stopped stopped)
      (λ (runs : m.is_stopped ≡ false). by_number runs k (nat_lt m.mail.next (2 ^ 64 - 1)) refl)
      (cases_Bool m.is_stopped)) more) so.1,
)
  where
    stays_stopped : m.is_stopped ≡ true → Unless L (transition m e).1
    stays_stopped stopped = inl (ap (λ (o : Answer × Machine). o.1.is_stopped)
        (cond-true m.is_stopped (refused m refusal.Stopped) (on_event m e) stopped) ∙ stopped)

    full : 2 ^ 64 - 1 ≤ m.mail.next → Unless L (transition m e).1
    full used = inr (inl (let z = (event_rises m so.0.rises e).2 in omega (arith, z, used)))

    now : (n : Machine) → SetUpAs m n → L m.config m.opening n → L n.config n.opening n
    now n same l = subst (λ (c : Config). L c n.opening n) (sym same.config)
        (subst (λ (o : FinMap nat_cmp ℕ). L m.config o n) (sym same.opening) l)

    by_number : m.is_stopped ≡ false → K m.config m.opening m → (b : Bool) → nat_lt m.mail.next (2 ^ 64 - 1) ≡ b →
        Unless L (transition m e).1
    by_number runs k false is = full (ltb-false m.mail.next (2 ^ 64 - 1) is)
    by_number runs k true is =
        let same : transition m e ≡ on_event m e = cond-false m.is_stopped (refused m refusal.Stopped) (on_event m e)
        runs in ⊎_elim
        (λ (stopped : (on_event m e).1.is_stopped ≡ true).
        inl (ap (λ (o : Answer × Machine). o.1.is_stopped) same ∙ stopped))
        (λ (l : L m.config m.opening (on_event m e).1).
        inr (inr (now (transition m e).1 (transition_same m e)
        (subst (λ (o : Answer × Machine). L m.config m.opening o.1) (sym same) l))))
        (leads runs (ltb-true m.mail.next (2 ^ 64 - 1) is) so.0 k)

-- while cores have their turns
abbrev pub InTurn : ℕ → Claim
InTurn next = λ config opening m. Turns config opening next (seen m)

-- and while these are to be delivered
pub record Pends (ys : List (ℕ × Message)) (config : Config) (opening : FinMap nat_cmp ℕ) (m : Machine) : Type 0 where
  pub good : Good config opening (λ h. weigh h (bag_of ys)) (seen m)
  pub there : Each (λ y. at_number y.0 m.mail.messages ≡ Some y.1) ys

-- before a round, and after it
abbrev pub Rested : Claim
Rested = λ config opening m. Good config opening (λ h. 0) (seen m)

pub turn_begins : (m : Machine) → Lasting Rested m → Lasting (InTurn 0) m
turn_begins m =
    follows Rested (InTurn 0) m (λ fit good. begins (set_up m.config m.opening) (view m.config (seen m)) good)

pub turn_passes : (next : ℕ) (m : Machine) → Lasting (InTurn next) m → Lasting (InTurn (next + 1)) m
turn_passes next m = follows (InTurn next) (InTurn (next + 1)) m
    (λ fit turns. later (set_up m.config m.opening) next (view m.config (seen m)) turns)

pub issue_lasts : (c : ℕ) (op : Op) (m : Machine) → Lasting (InTurn c) m →
    Lasting (InTurn (c + 1)) (transition m (Issue c op)).1
issue_lasts c op m = lasts (InTurn c) (InTurn (c + 1)) (Issue c op) m
    (λ runs numbers k turns. issue_turns m k.invariant numbers c op turns)

pub advance_lasts : (c next : ℕ) (m : Machine) → Lasting (InTurn next) m →
    Lasting (InTurn next) (transition m (Advance c)).1
advance_lasts c next m = lasts (InTurn next) (InTurn next) (Advance c) m
    (λ runs numbers k turns. advance_turns m k.invariant numbers c next turns)

pub attempt_lasts : (c : ℕ) (m : Machine) → Lasting (InTurn (c + 1)) m →
    Lasting (InTurn (c + 1)) (transition m (Attempt c)).1
attempt_lasts c m = lasts (InTurn (c + 1)) (InTurn (c + 1)) (Attempt c) m
    (λ runs numbers k turns. attempt_turns m k.invariant numbers c turns)

pub copy_lasts : (c line : ℕ) (m : Machine) → (transition m (Attempt c)).0 ≡ Refused refusal.NoRoom →
    Lasting (InTurn (c + 1)) m → Lasting (InTurn (c + 1)) (transition m (EvictCache c line)).1
copy_lasts c line m full = lasts (InTurn (c + 1)) (InTurn (c + 1)) (EvictCache c line) m (λ runs numbers k turns.
    evict_turns m k.invariant numbers c line turns (sym (ap (λ (o : Answer × Machine). o.0)
    (cond-false m.is_stopped (refused m refusal.Stopped) (on_event m (Attempt c)) runs)) ∙ full))

-- no message of these has this number
abbrev pub AreOthers : ℕ → List (ℕ × Message) → Type 0
AreOthers n ys = Each (λ y. y.0 ≢ n) ys

both : (P Q R : ℕ × Message → Type 0) → ((y : ℕ × Message) → P y → Q y → R y) → (ys : List (ℕ × Message)) →
    Each P ys → Each Q ys → Each R ys
both P Q R f [] p q = tt
both P Q R f (y ∷ ys) p q = (f y p.0 q.0, both P Q R f ys p.1 q.1)

pending : (ys : List (ℕ × Message)) (config : Config) (opening : FinMap nat_cmp ℕ) (m : Machine) →
    Each (λ y. at_number y.0 m.mail.messages ≡ Some y.1) ys →
    (m.is_stopped ≡ true) ⊎ Good config opening (λ h. weigh h (bag_of ys)) (seen m) →
    (m.is_stopped ≡ true) ⊎ Pends ys config opening m
pending ys config opening m there (inl stopped) = inl stopped
pending ys config opening m there (inr good) = inr (record { good = good; there = there })

-- the next one of them is delivered
delivered : (n : ℕ) (x : Message) (ys : List (ℕ × Message)) → AreOthers n ys → (m : Machine) →
    m.mail.next < 2 ^ 64 - 1 → Fit m → at_number n m.mail.messages ≡ Some x →
    Each (λ y. at_number y.0 m.mail.messages ≡ Some y.1) ys →
    Good m.config m.opening (λ h. h x + weigh h (bag_of ys)) (seen m) →
    ((on_event m (Deliver n)).1.is_stopped ≡ true) ⊎ Pends ys m.config m.opening (on_event m (Deliver n)).1
delivered n x ys others m numbers k at there good = pending ys m.config m.opening (on_event m (Deliver n)).1
    (both (λ y. at_number y.0 m.mail.messages ≡ Some y.1) (λ y. y.0 ≢ n)
    (λ y. at_number y.0 (on_event m (Deliver n)).1.mail.messages ≡ Some y.1)
    (λ y is ne. delivery_stays y.0 y.1 m is n x ne (gets_it m k.invariant n x at)) ys there others)
    (delivery_keeps m k.invariant numbers (λ h. weigh h (bag_of ys)) n x at good)

pub delivery_lasts : (n : ℕ) (x : Message) (ys : List (ℕ × Message)) → AreOthers n ys → (m : Machine) →
    Lasting (Pends ((n, x) ∷ ys)) m → Lasting (Pends ys) (transition m (Deliver n)).1
delivery_lasts n x ys others m = lasts (Pends ((n, x) ∷ ys)) (Pends ys) (Deliver n) m (λ runs numbers k so.
    delivered n x ys others m numbers k so.there.0 so.there.1 so.good)

-- and once more
pub again_lasts : (n : ℕ) (ys : List (ℕ × Message)) → AreOthers n ys → (m : Machine) → Lasting (Pends ys) m →
    Lasting (Pends ys) (transition m (Deliver n)).1
again_lasts n ys others m = lasts (Pends ys) (Pends ys) (Deliver n) m
    (λ runs numbers k so. go numbers k so (at_number n m.mail.messages) refl)
  where
    go : m.mail.next < 2 ^ 64 - 1 → Fit m → Pends ys m.config m.opening m → (o : Option Message) →
        at_number n m.mail.messages ≡ o →
        ((on_event m (Deliver n)).1.is_stopped ≡ true) ⊎ Pends ys m.config m.opening (on_event m (Deliver n)).1
    go numbers k so None at = inr (subst (λ (o : Option Message).
        Pends ys m.config m.opening (if_there m o (λ x. deliver_to m n x x.to)).1) (sym at) so)
    go numbers k so (Some x) at = delivered n x ys others m numbers k at so.there (λ l c. let g = so.good l c in (
      g.0,
      listed_by (set_up m.config m.opening) l c _ _ _ _ _ _ (λ z. omega (arith, z)) (λ z. omega (arith, z)) g.1,
    ))

pub line_lasts : (i line : ℕ) (ys : List (ℕ × Message)) (m : Machine) → Lasting (Pends ys) m →
    Lasting (Pends ys) (transition m (EvictBank i line)).1
line_lasts i line ys m = lasts (Pends ys) (Pends ys) (EvictBank i line) m (λ runs numbers k so.
    pending ys m.config m.opening (on_event m (EvictBank i line)).1
    (both (λ y. at_number y.0 m.mail.messages ≡ Some y.1) (λ y. at_number y.0 m.mail.messages ≡ Some y.1)
    (λ y. at_number y.0 (on_event m (EvictBank i line)).1.mail.messages ≡ Some y.1)
    (λ y is too. eviction_stays y.0 y.1 m is i line) ys so.there so.there)
    (bank_evicts m k.invariant numbers (λ h. weigh h (bag_of ys)) i line so.good))

-- deliveries begin and end
listed_there : (low high : ℕ) (ms : List (ℕ × Message)) → IsRising low ms high →
    Each (λ y. (low ≤ y.0) × (at_number y.0 ms ≡ Some y.1)) ms
listed_there low high [] rising = tt
listed_there low high (y ∷ ys) rising =
    search (rules, cond-true, eqb, eq-eqb, both, cond-false, ne_eqb, listed_there (y.0 + 1) high ys rising.1)

pub delivery_begins : (next : ℕ) (m : Machine) → Lasting (InTurn next) m → Lasting (Pends m.mail.messages) m
delivery_begins next m = search (rules, follows, listed_there, delivers_next, per_line, line_weighs, both)

pub delivery_ends : (m : Machine) → Lasting (Pends []) m → Lasting Rested m
delivery_ends m = follows (Pends []) Rested m (λ fit k. k.good)

-- others than the first
pub rising_others : (n low high : ℕ) (ys : List (ℕ × Message)) → n < low → IsRising low ys high → AreOthers n ys
rising_others n low high [] below rising = tt
rising_others n low high (y ∷ ys) below rising = (
  λ e. let r = rising.0 in absurd (omega (arith, e, r, below)),
  rising_others n (y.0 + 1) high ys (let r = rising.0 in omega (arith, r, below)) rising.1,
)

-- a machine as it opens
pub opens_rested : (config : Config) (opening : FinMap nat_cmp ℕ) → is_good config ≡ true →
    Lasting Rested (at_start config opening)
opens_rested config opening good = (
  record { invariant = at_start_invariant config opening (fair config good); rises = omega arith },
  inr (inr (λ l c. (
    record {
      held = λ some here. absurd (omega (arith, some));
      unasked = λ is. refl;
      asked = λ is. omega arith;
      returning = λ some is. absurd (omega (arith, some));
    },
    record { recalls_listed = inl (omega arith); returns_listed = λ is. omega arith },
  ))),
)

-- a machine that has rested has recalls that find owners
pub rested_owns : (m : Machine) → m.is_stopped ≡ false → m.mail.next < 2 ^ 64 - 1 → Lasting Rested m →
    RecallsFindOwners m
rested_owns m runs numbers so = ⊎_elim
    (λ (stopped : m.is_stopped ≡ true). absurd (let z : true ≡ false = sym stopped ∙ runs in cc))
    (λ (more : (2 ^ 64 - 1 ≤ m.mail.next) ⊎ Rested m.config m.opening m).
    ⊎_elim (λ (full : 2 ^ 64 - 1 ≤ m.mail.next). absurd (omega (arith, full, numbers)))
    (λ (k : Rested m.config m.opening m). λ line core some pinned. (k line core).0.held some pinned) more) so.1
