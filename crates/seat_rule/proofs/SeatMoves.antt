-- Each change that a seat makes by itself is a move of the state.
use Rattle.std.proofs.Common.{◌≡◌, ℕ, ◌+◌, ◌<◌, List, [], ◌∷◌, ◌++◌, Option, Some, None, sym, refl}
use Rattle.std.proofs.Common.{ap, ◌∙◌, subst, arith, length, true, false}
use Rattle.std.proofs.lemmas.Bool.Decides.{nat_tests}
use Rattle.std.proofs.lemmas.Grind.{common_steps}
use native.Mathlib.Decide.{ℕ_discrete}
use Rattle.std.specs.Prelude.{Bool}
use Rattle.std.specs.Ordering.{nat_cmp}
use Rattle.std.specs.FinMap.{FinMap}
use Rattle.physiological_order.specs.declared.operation.Op.{Op}
use Rattle.physiological_order.specs.declared.operation.Record.{Record}
use Rattle.network.specs.declared.message.Node.{Node}
use Rattle.network.specs.declared.message.Node.TheVariants.{Core, Bank, Dram}
use Rattle.network.specs.declared.message.Message.{Message}
use Rattle.core_pts.specs.declared.attempt.Attempt.TheVariants.{Completed}
use Rattle.core_pts.specs.CoreTable as core_table
use Rattle.core_pts.specs.CoreTable.{CoreState, core_has_case}
use Rattle.llc_bank.specs.BankTable.{BankState, bank_has_case}
use Rattle.dram_mts.specs.Table.{dram_has_case}
use Rattle.machine_table.specs.Step.{record_of, Step, attempt_open, attempted, bank_step, dram_step, message_of}
use Rattle.machine_table.specs.Step as step
use Rattle.machine_theorem.specs.Bags.{SameBag}
use Rattle.machine_theorem.specs.States as moves
use Rattle.machine_theorem.specs.States.{Same}
use Rattle.protocol.specs.Machine.{with_at}
use Rattle.machine_theorem.specs.Moves as move
use Rattle.machine_theorem.specs.Moves.{AreBeside, Move, Reached, StepsTo, goes_on, same, with_answer, with_core}
use Rattle.machine_theorem.specs.Moves.{with_bank, with_dram}
use Rattle.seat_views.specs.Seated.{with_value_at}
use Rattle.seat_views.proofs.Lemmas.{put_here, put_else, at_put}
use Rattle.seat_rule.specs.declared.views.SetUp.{SetUp}
use Rattle.seat_rule.specs.declared.views.Hold.{Hold}
use Rattle.seat_rule.specs.Rule.{bag_of_hold, counts_of, state_of, MovesReach, Changes}
use Rattle.seat_rule.specs.Plays.{complete_hold}
use Rattle.seat_rule.specs.Serving.{counted_if}
use Rattle.seat_rule.specs.SeatMoves.{SameCore, SameBank, HoldSends, HoldSteps, SeatMove, sorts, issues, core_steps}
use Rattle.seat_rule.specs.SeatMoves.{bank_steps, dram_steps}
use Rattle.seat_rule.proofs.Weights.{beside}
use Rattle.seat_rule.proofs.CountSums.{sums_count}
use Rattle.seat_rule.proofs.Frames.{same_of}

-- what a seat has of its own is replaced, for all seats
with_of : {X : Type 0} (g : Hold → X) (seats : ℕ → Hold) (id : ℕ) (h : Hold) (x : X) → g h ≡ x →
    (j : ℕ) → with_at (λ c. g (seats c)) id x j ≡ g (with_value_at seats id h j)
with_of g seats id h x e j = grind (arith, nat_tests, common_steps, at_put, put_else, put_here)

-- what the seat of bank i has of its own is replaced, for all banks
with_bank_of : {X : Type 0} (g : Hold → X) (seats : ℕ → Hold) (cores i id : ℕ) (h : Hold) (x : X) → g h ≡ x →
    id ≡ cores + i → (j : ℕ) → with_at (λ b. g (seats (cores + b))) i x j ≡ g (with_value_at seats id h (cores + j))
with_bank_of g seats cores i id h x e named j = let q0 = put_here seats id h in grind (arith, nat_tests, q0)

module _ (z : SetUp) (n : ℕ) (seats : ℕ → Hold) (xs : List Message) (log : List Record) where
  module _ (id : ℕ) (b : Hold) (is_seat : id < n) where
    abbrev a : Hold
    a = seats id

    abbrev before : moves.State
    before = state_of z n seats (bag_of_hold a ++ xs) log

    abbrev after : moves.State
    after = state_of z n (with_value_at seats id b) (bag_of_hold b ++ xs) log

    -- a state with the seats' parts as they are afterwards, in which a message was sent or not
    lands : (s : moves.State) (rest : List Message) (sent : Option Message) →
        ((c : ℕ) → s.cores c ≡ after.cores c) → ((i : ℕ) → s.banks i ≡ after.banks i) →
        ((i : ℕ) → s.drams i ≡ after.drams i) → ((c : ℕ) → s.issued c ≡ after.issued c) →
        s.records ≡ log → s.counts ≡ before.counts → HoldSends a b rest sent → Same (with_answer s (rest ++ xs) sent)
        after
    lands s rest sent cores banks drams issued records counts sends = by sent sends
      where
        by : (o : Option Message) → HoldSends a b rest o → Same (with_answer s (rest ++ xs) o) after
        by None sends = record {
          cores = cores;
          banks = banks;
          drams = drams;
          bag = λ f. sym (beside (bag_of_hold b) [] rest xs sends.bag f);
          issued = issued;
          records = records;
          counts = counts ∙ sums_count n seats id b is_seat None sends.counts;
        }
        by (Some m) sends = record {
          cores = cores;
          banks = banks;
          drams = drams;
          bag = λ f. sym (beside (bag_of_hold b) (m ∷ []) rest xs sends.bag f);
          issued = issued;
          records = records;
          counts = ap (λ c. counted_if c (Some m)) counts ∙ sums_count n seats id b is_seat (Some m) sends.counts;
        }

    -- the parts of seats of which one has changed
    banks_stay : b.bank ≡ a.bank → (i : ℕ) → before.banks i ≡ after.banks i
    banks_stay e i = same_of (λ y. y.bank) seats id b e (z.config.cores + i)

    drams_stay : b.dram ≡ a.dram → (i : ℕ) → before.drams i ≡ after.drams i
    drams_stay e i = same_of (λ y. y.dram) seats id b e (z.config.cores + i)

    cores_stay : b.core ≡ a.core → (c : ℕ) → before.cores c ≡ after.cores c
    cores_stay e = same_of (λ y. y.core) seats id b e

    lists_stay : b.issued ≡ a.issued → (c : ℕ) → before.issued c ≡ after.issued c
    lists_stay e = same_of (λ y. y.issued) seats id b e

    core_lands : (core : CoreState) (rest : List Message) (sent : Option Message) → b.core ≡ core →
        b.issued ≡ a.issued → SameBank a b → HoldSends a b rest sent →
        Same (with_answer (with_core before id core) (rest ++ xs) sent) after
    core_lands core rest sent is issued bank sends =
        lands (with_core before id core) rest sent (with_of (λ y. y.core) seats id b core is) (banks_stay bank.bank)
        (drams_stay bank.dram) (lists_stay issued) refl refl sends

    -- the messages of the seat, one of them apart
    one_of : (m : Message) (rest : List Message) → SameBag (bag_of_hold a) (m ∷ rest) →
        SameBag (bag_of_hold a ++ xs) (m ∷ (rest ++ xs))
    one_of m rest e = beside (bag_of_hold a) (m ∷ []) rest xs e

    -- the seat of bank i
    module _ (i : ℕ) (named : id ≡ z.config.cores + i) where
      pub at_bank : {X : Type 0} (f : Hold → X) → f (seats (z.config.cores + i)) ≡ f a
      at_bank f = ap (λ q. f (seats q)) (sym named)

      bank_lands : (rest : List Message) (sent : Option Message) (part : BankState) → b.bank ≡ part → SameCore a b →
          b.dram ≡ a.dram → HoldSends a b rest sent →
          Same (with_answer (with_bank before i part) (rest ++ xs) sent) after
      bank_lands rest sent part new core dram sends =
          grind (arith, nat_tests, common_steps, cores_stay, drams_stay, lands, lists_stay, with_bank_of)

      dram_lands : (rest : List Message) (sent : Option Message) (part : FinMap nat_cmp (List ℕ)) → b.dram ≡ part →
          SameCore a b → b.bank ≡ a.bank → HoldSends a b rest sent →
          Same (with_answer (with_dram before i part) (rest ++ xs) sent) after
      dram_lands rest sent part new core bank sends =
          grind (arith, nat_tests, common_steps, banks_stay, cores_stay, lands, lists_stay, with_bank_of)

    -- the messages beside a delivered one, and beside those of other seats
    beside_all : (to : Node) (f g : Message → Bool) → ((m : Message) → g m ≡ f m) → (o : Option Message)
        (rest : List Message) → AreBeside (bag_of_hold a) to f o rest →
        AreBeside (bag_of_hold a ++ xs) to g o (rest ++ xs)
    beside_all to f g alike None rest is = ap (λ ys. ys ++ xs) is
    beside_all to f g alike (Some m) rest (took, goes, has) = (one_of m rest took, goes, alike m ∙ has)

    -- a step of a part that is p before and q afterwards
    stepped : {S : Type 0} (p q : S) (put : S → moves.State) (rest : List Message) (s : Step S) →
        HoldSteps a b p q rest s →
        ((ys : List Message) (sent : Option Message) (part : S) → q ≡ part → HoldSends a b ys sent →
        Same (with_answer (put part) (ys ++ xs) sent) after) →
        (q ≡ p → HoldSends a b rest None → Same (with_answer before (rest ++ xs) None) after) →
        ((to : moves.State) → StepsTo before put (rest ++ xs) s to → Move z.config before to) →
        Reached z.config z.memory before → Reached z.config z.memory after
    stepped p q put rest step.Exhausts to makes drops move r = absurd to
    stepped p q put rest (step.Keeps kept) to makes drops move r = absurd to
    stepped p q put rest step.Drops to makes drops move r = same (goes_on r (move _ refl)) (drops to.0 to.1)
    stepped p q put rest (step.Makes did true sent part) to makes drops move r =
        same (goes_on r (move _ refl)) (makes rest sent part to.0 to.1)
    stepped p q put rest (step.Makes did false sent part) to makes drops move r =
        same (goes_on r (move _ refl)) (makes (bag_of_hold a) sent part to.0 to.1)

    -- what a seat does by itself
    moved : SeatMove z id a b → Reached z.config z.memory before → Reached z.config z.memory after
    moved (sorts core bank sends) r =
        same r (lands before (bag_of_hold a) None (cores_stay core.core) (banks_stay bank.bank) (drams_stay bank.dram)
        (lists_stay core.issued) refl refl sends)
    moved (issues op is e more bank sends) r =
        let issued = with_at before.issued id (a.issued ++ op ∷ []) in
        same (goes_on r (move.issues id op b.core is e))
        (lands (record (with_core before id b.core) { issued = issued }) (bag_of_hold a) None
        (with_of (λ y. y.core) seats id b b.core refl) (banks_stay bank.bank) (drams_stay bank.dram)
        (with_of (λ y. y.issued) seats id b (a.issued ++ op ∷ []) more) refl refl sends)
    moved (core_steps act rest s is beside e steps issued bank) r =
        stepped a.core b.core (with_core before id) rest s steps
        (λ ys sent part new sends. core_lands part ys sent new issued bank sends)
        (λ kept sends. lands before rest None (cores_stay kept) (banks_stay bank.bank) (drams_stay bank.dram)
        (lists_stay issued) refl refl sends)
        (λ to led. move.core_steps id act (rest ++ xs) s is
        (beside_all (Core id) (core_has_case a.core) (core_has_case a.core) (λ m. refl) (message_of act) rest beside)
        e led) r
    moved (bank_steps i act rest s is named beside e steps core dram) r =
        stepped a.bank b.bank (with_bank before i) rest s steps
        (λ ys sent part new sends. bank_lands i named ys sent part new core dram sends)
        (λ kept sends. lands before rest None (cores_stay core.core) (banks_stay kept) (drams_stay dram)
        (lists_stay core.issued) refl refl sends)
        (λ to led. move.bank_steps i act (rest ++ xs) s is
        (beside_all (Bank i) (bank_has_case a.bank) _ (λ m. at_bank i named (λ y. bank_has_case y.bank m))
        (message_of act) rest beside) (at_bank i named (λ y. bank_step y.bank act) ∙ e) led) r
    moved (dram_steps i act rest s is named beside e steps core bank) r =
        stepped a.dram b.dram (with_dram before i) rest s steps
        (λ ys sent part new sends. dram_lands i named ys sent part new core bank sends)
        (λ kept sends. lands before rest None (cores_stay core.core) (banks_stay bank) (drams_stay kept)
        (lists_stay core.issued) refl refl sends)
        (λ to led. move.dram_steps i act (rest ++ xs) s is
        (beside_all (Dram i) (dram_has_case a.dram) _ (λ m. at_bank i named (λ y. dram_has_case y.dram m))
        (message_of act) rest beside) (at_bank i named (λ y. dram_step y.dram act) ∙ e) led) r

  -- an operation is completed, with the number of all records before it
  module _ (id : ℕ) (is_seat : id < n) (op : Op) (received : Option ℕ) (ts : ℕ) (core : CoreState)
      (is_core : id < z.config.cores) (opened : (seats id).core.open_op ≡ Some op)
      (is : core_table.attempt (seats id).core ≡ (Some (Completed received ts), core)) where
    abbrev new : Record
    new = record_of id (length log) (seats id).core op received ts

    abbrev h : Hold
    h = complete_hold (seats id) core log new

    pub completed : MovesReach z n seats (bag_of_hold (seats id) ++ xs) log →
        MovesReach z n (with_value_at seats id h) (bag_of_hold (seats id) ++ xs) (log ++ new ∷ [])
    completed r =
        let counts : (λ j. (seats j).counts) ≡ (λ j. (with_value_at seats id h j).counts) =
        λ i j. same_of (λ x. x.counts) seats id h refl j i in
        same (goes_on r (move.completes id op received ts core is_core
        (ap (attempt_open (seats id).core) opened ∙ ap (attempted (seats id).core op) is))) (record {
          cores = with_of (λ y. y.core) seats id h core refl;
          banks = λ b. same_of (λ y. y.bank) seats id h refl (z.config.cores + b);
          drams = λ b. same_of (λ y. y.dram) seats id h refl (z.config.cores + b);
          bag = λ _. refl;
          issued = same_of (λ y. y.issued) seats id h refl;
          records = refl;
          counts = ap (counts_of n) counts;
        })

-- beside any other messages, and whatever the other seats hold
pub changes : (z : SetUp) (n id : ℕ) (a b : Hold) → id < n → SeatMove z id a b → Changes z n id a b
changes z n id a b l m seats xs log is r =
    moved z n seats xs log id b l (subst (λ (y : Hold). SeatMove z id y b) (sym is) m)
    (subst (λ (y : Hold). MovesReach z n seats (bag_of_hold y ++ xs) log) (sym is) r)
