-- What is known of a seat's part and of its messages, since it is a part of a reached state.
use Rattle.std.proofs.Common.{◌≡◌, ℕ, zero, suc, ◌+◌, ◌<◌, Bool, true, false, cond, eqb, List, [], ◌∷◌, ◌++◌, length}
use Rattle.std.proofs.Common.{Option, Some, None, option_to_list, remove, sym, ap, ◌∙◌, subst, arith}
use Rattle.std.proofs.lemmas.Bool.Decides.{nat_tests}
use Rattle.std.proofs.lemmas.Grind.{common_steps}
use Rattle.std.specs.Prelude.{slice_get}
use Rattle.physiological_order.specs.declared.operation.Record.{Record}
use Rattle.physiological_order.specs.Order.{of_core}
use Rattle.network.specs.declared.message.Node.TheVariants.{Core, Bank, Dram}
use Rattle.network.specs.declared.message.Message.{Message}
use Rattle.core_pts.specs.CoreTable.{core_has_case}
use Rattle.llc_bank.specs.BankTable.{bank_has_case}
use Rattle.dram_mts.specs.Table.{dram_has_case}
use Rattle.protocol.specs.Issued.{IsIssued, listed}
use Rattle.machine_table.specs.SetUp.{is_good}
use Rattle.machine_theorem.specs.Bags.{SameBag}
use Rattle.machine_theorem.specs.Shape.{IsCore, IsBank}
use Rattle.machine_theorem.specs.States as moves
use Rattle.machine_theorem.specs.Consistent.{FindsCase}
use Rattle.seat_rule.specs.declared.views.SetUp.{SetUp}
use Rattle.seat_rule.specs.declared.views.Hold.{Hold}
use Rattle.seat_rule.specs.StateLaws.{StateLaws}
use Rattle.seat_rule.specs.Rule.{bag_of_hold, state_of}
use Rattle.seat_rule.specs.Plays.{Standing}
use Rattle.seat_rule.specs.Found.{FindsHere}
use Rattle.seat_rule.proofs.Weights.{weigh-append, weigh-remove, beside}

-- a record of one core is one of all records
pub of_all : (j : ℕ) (xs : List Record) (k : ℕ) (done : Record) → slice_get (of_core j xs) k ≡ Some done →
    (i : ℕ) × (i < length xs) × (slice_get xs i ≡ Some done)
of_all j [] k done e = absurd (let z : ◌≡◌ {A = Option Record} None (Some done) = e in cc)
of_all j (x ∷ xs) k done e = by (eqb x.core j) k e (λ q. of_all j xs q done)
  where
    by : (b : Bool) (k : ℕ) → slice_get (cond b (x ∷ of_core j xs) (of_core j xs)) k ≡ Some done →
        ((q : ℕ) → slice_get (of_core j xs) q ≡ Some done →
        (i : ℕ) × (i < length xs) × (slice_get xs i ≡ Some done)) →
        (i : ℕ) × (i < suc (length xs)) × (slice_get (x ∷ xs) i ≡ Some done)
    by true zero e rest = (0, omega arith, e)
    by true (suc k) e rest = let r = rest k e in (suc r.0, (let l = r.1 in omega arith), r.2)
    by false k e rest = let r = rest k e in (suc r.0, (let l = r.1 in omega arith), r.2)

module _ (laws : StateLaws) (z : SetUp) (good : is_good z.config ≡ true) (n id : ℕ) (a : Hold) where
  -- the part of the seat
  module _ (s : Standing z n id a) where
    pub core_shape : id < z.config.cores → IsCore z.config id a.issued a.core
    unfolding Standing
    core_shape l =
        subst (λ (y : Hold). IsCore z.config id y.issued y.core) s.3
        (laws.cores z.config z.memory (state_of z n s.0 (bag_of_hold a ++ s.1) s.2) good s.4 id l)

    pub bank_shape : (b : ℕ) → b < z.config.banks → id ≡ z.config.cores + b → IsBank z.config b a.bank
    unfolding Standing
    bank_shape b l named =
        subst (λ (y : Hold). IsBank z.config b y.bank) (ap s.0 (sym named) ∙ s.3)
        (laws.banks z.config z.memory (state_of z n s.0 (bag_of_hold a ++ s.1) s.2) good s.4 b l)

    pub issued_so : id < z.config.cores → IsIssued a.issued a.records a.core.open_op
    unfolding Standing
    issued_so l =
        subst (λ (y : Hold). IsIssued y.issued a.records y.core.open_op) s.3
        (subst (λ (rs : List Record). IsIssued (s.0 id).issued rs (s.0 id).core.open_op) s.5
        (laws.issued z.config z.memory (state_of z n s.0 (bag_of_hold a ++ s.1) s.2) good s.4 id l))

    pub counts_issued : id < z.config.cores → a.core.issued ≡ length a.records + length (listed a.core.open_op)
    unfolding Standing
    counts_issued l =
        subst (λ (y : Hold). y.core.issued ≡ length a.records + length (listed y.core.open_op)) s.3
        (subst (λ (rs : List Record). (s.0 id).core.issued ≡ length rs + length (listed (s.0 id).core.open_op)) s.5
        (laws.count z.config z.memory (state_of z n s.0 (bag_of_hold a ++ s.1) s.2) good s.4 id l))

    -- one of its messages, wherever it is
    pub finds : (m : Message) (rest : List Message) → SameBag (bag_of_hold a) (m ∷ rest) → FindsHere z id a m
    unfolding Standing
    finds m rest bag =
        let state : moves.State = state_of z n s.0 (bag_of_hold a ++ s.1) s.2 in
        let all = laws.found z.config z.memory state good s.4 (m ∷ (rest ++ s.1))
        (beside (bag_of_hold a) (m ∷ []) rest s.1 bag) in
        record {
          endpoints = all.0.endpoints;
          core = λ to.
              let found : FindsCase z.config state m (Core id) = subst (FindsCase z.config state m) to all.0.found in
              (found.0, ap (λ (y : Hold). core_has_case y.core m) (sym s.3) ∙ found.1);
          bank = λ b named to.
              let found : FindsCase z.config state m (Bank b) = subst (FindsCase z.config state m) to all.0.found in
              let is : s.0 (z.config.cores + b) ≡ a = ap s.0 (sym named) ∙ s.3 in
              (found.0, ap (λ (y : Hold). bank_has_case y.bank m) (sym is) ∙ found.1);
          dram = λ b named to.
              let found : FindsCase z.config state m (Dram b) = subst (FindsCase z.config state m) to all.0.found in
              let is : s.0 (z.config.cores + b) ≡ a = ap s.0 (sym named) ∙ s.3 in
              (found.0, ap (λ (y : Hold). dram_has_case y.dram m) (sym is) ∙ found.1);
        }

-- the messages of a seat, one of them apart
pub of_outbox : (a : Hold) (i : ℕ) (m : Message) → slice_get a.outbox i ≡ Some m →
    SameBag (bag_of_hold a) (m ∷ (remove a.outbox i ++ (option_to_list a.hand ++ a.held)))
of_outbox a i m e f =
    let others : List Message = option_to_list a.hand ++ a.held in
    let b = weigh-append f a.outbox others in
    let c = weigh-append f (remove a.outbox i) others in
    let d = weigh-remove f a.outbox i m e in
    omega arith

pub of_hand : (a : Hold) (m : Message) → a.hand ≡ Some m → SameBag (bag_of_hold a) (m ∷ (a.outbox ++ a.held))
of_hand a m e f = grind (arith, nat_tests, common_steps, option_to_list, weigh-append)

pub of_held : (a : Hold) (i : ℕ) (m : Message) → slice_get a.held i ≡ Some m →
    SameBag (bag_of_hold a) (m ∷ (a.outbox ++ (option_to_list a.hand ++ remove a.held i)))
of_held a i m e f =
    let b = weigh-append f a.outbox (option_to_list a.hand ++ a.held) in
    let c = weigh-append f a.outbox (option_to_list a.hand ++ remove a.held i) in
    let d = weigh-append f (option_to_list a.hand) a.held in
    let g = weigh-append f (option_to_list a.hand) (remove a.held i) in
    let h = weigh-remove f a.held i m e in
    omega arith
