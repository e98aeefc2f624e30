-- Ways: services on one line, one after the other, and what banks and DRAMs do with it on the way.
use Rattle.std.proofs.Common.{◌≡◌, ◌≢◌, ℕ, zero, suc, ◌+◌, ◌/◌, ◌%◌, ◌<◌, ◌≤◌, Bool, true, false, List, ◌∷◌, length}
use Rattle.std.proofs.Common.{Option, Some, None, refl, ap, ◌∙◌, subst, arith, cond, le_trans, nat_cmp, mod-lt, rules}
use Rattle.std.specs.FinMap.{FinMap}
use Rattle.physiological_order.specs.Order.{of_core}
use Rattle.network.specs.declared.message.Node.TheVariants as node
use Rattle.network.specs.declared.message.Body.{Body}
use Rattle.network.specs.declared.message.Body.TheVariants as body
use Rattle.network.specs.declared.message.Message.{Message}
use Rattle.network.specs.declared.message.TimedLine.{TimedLine}
use Rattle.line_sets.specs.SetTable.{Sets}
use Rattle.llc_bank.specs.declared.entry.Entry.{Entry}
use Rattle.llc_bank.specs.declared.entry.Entry.TheVariants as entry
use Rattle.llc_bank.specs.declared.decision.Decision.{Decision}
use Rattle.llc_bank.specs.declared.decision.Decision.TheVariants as decision
use Rattle.llc_bank.specs.OnEntry as on_entry
use Rattle.llc_bank.specs.BankTable as bank_table
use Rattle.llc_bank.specs.BankTable.{BankState, core_of, entry_of, with_changed, without_entry, is_owned, comes_to_bank}
use Rattle.llc_bank.specs.BankTable.{bank_has_case, with_used}
use Rattle.network.specs.Mail.{counted}
use Rattle.core_pts.specs.CoreTable.{CoreState}
use Rattle.network.specs.declared.part.Reaction.TheVariants.{Done}
use Rattle.dram_mts.specs.Table.{answer_to, dram_case}
use Rattle.machine_table.specs.declared.config.Config.{Config}
use Rattle.machine_table.specs.declared.event.Answer.{Answer}
use Rattle.machine_table.specs.declared.event.Answer.TheVariants.{Delivered}
use Rattle.machine_table.specs.SetUp.{is_good}
use Rattle.machine_table.specs.Step.{Makes, Getting, Evicting, bank_step, reacted, entry_evicted, Act, message_of}
use Rattle.protocol.specs.Machine as by_line
use Rattle.protocol.specs.Machine.{tally}
use Rattle.protocol.specs.Recalls.{return_of}
use Rattle.protocol.proofs.Lemmas.{with_at_same, with_at_cases, load, loading, store, storing}
use Rattle.machine_theorem.specs.Bags.{weigh, SameBag}
use Rattle.machine_theorem.specs.States.{State}
use Rattle.machine_theorem.specs.Moves.{with_bank, with_dram, with_answer, Move, bank_steps, dram_steps, Reached}
use Rattle.machine_theorem.specs.Moves.{goes_on, AreBeside}
use Rattle.machine_theorem.specs.View.{body_seen, messages_of, core_seen, entry_seen}
use Rattle.machine_theorem.specs.Kept.{IsKept}
use Rattle.machine_theorem.proofs.Services.{IsService, LeadsTo, leads_after, leads_for, leads_here, leads_on}
use Rattle.machine_theorem.proofs.Services.{leads_within}
use Rattle.machine_theorem.proofs.Bags.{as_many}
use Rattle.machine_theorem.proofs.Lookups.{IsNow, change_now, drop_now, put_now}
use Rattle.machine_theorem.specs.Rounds.{IsRequest}
use Rattle.machine_theorem.proofs.ReachedStates.{reached_kept}
use Rattle.machine_theorem.proofs.Consistency.{line_counts}
use Rattle.machine_theorem.proofs.Deliveries.{found_of, ToBank, to_bank, ToDram, to_dram, comes}

-- a request of a core for a line
pub record AsksFor (c l : ℕ) (m : Message) : Type 0 where
  pub line : m.line ≡ l
  pub from : m.from ≡ node.Core c
  pub asks : IsRequest m.body

-- A core stands: K is what is seen of it. w weighs its request for line l, of which need many are out. At most n
-- messages are in flight but for one, which a service may send.
pub record Setting : Type 0 where
  pub config : Config
  pub good : is_good config ≡ true
  pub opening : FinMap nat_cmp ℕ
  pub n : ℕ
  pub c : ℕ
  pub l : ℕ
  pub need : ℕ
  pub K : by_line.Core
  pub w : Message → ℕ
  pub w_asks : (m : Message) → 1 ≤ w m → AsksFor c l m

-- a message is sent, or none: no part changes by it, and at most one message more is in flight
pub record IsAnswered (w : Message → ℕ) (s : State) (bag : List Message) (b : State) : Type 0 where
  pub cores : b.cores ≡ s.cores
  pub banks : b.banks ≡ s.banks
  pub records : b.records ≡ s.records
  pub few : length b.bag ≤ suc (length bag)
  pub weighs : weigh w bag ≤ weigh w b.bag

pub answered : (w : Message → ℕ) (s : State) (bag : List Message) (sends : Option Message) →
    IsAnswered w s bag (with_answer s bag sends)
answered w s bag None = record { cores = refl; banks = refl; records = refl; few = omega arith; weighs = omega arith }
answered w s bag (Some q) =
    record { cores = refl; banks = refl; records = refl; few = omega arith; weighs = omega arith }

module _ (who : Setting) where
  open who use {config, good, opening, n, c, K, w}

  abbrev home : ℕ → ℕ
  home h = h % config.banks

  pub record Stands (a : State) : Type 0 where
    pub reached : Reached config opening a
    pub core_is : core_seen (a.cores c) ≡ K
    pub asked : who.need ≤ weigh w a.bag

  -- services on one line leave the others in their banks, and complete nothing of the core
  pub record Beside (h : ℕ) (a b : State) : Type 0 where
    pub others : (k : ℕ) → k ≢ h → entry_of (b.banks (home k)) k ≡ entry_of (a.banks (home k)) k
    pub records : of_core c b.records ≡ of_core c a.records

  pub record Comes (h : ℕ) (Goal : State → Type 0) (a b : State) : Type 0 where
    pub stands : Stands b
    pub beside : Beside h a b
    pub few : length b.bag ≤ n
    pub goal : Goal b

  abbrev pub Way : ℕ → ℕ → (State → Type 0) → State → Type 0
  Way h k Goal a = LeadsTo config (suc n) k (Comes h Goal a) a

  comes_after : {h : ℕ} {Goal : State → Type 0} {a b d : State} → Beside h a b → Comes h Goal b d → Comes h Goal a d
  comes_after before x = search rules

  pub way_after : {h k : ℕ} {Goal : State → Type 0} {a b : State} (move : Move config a b) → IsService move →
      length b.bag ≤ suc n → Beside h a b → Way h k Goal b → Way h (suc k) Goal a
  way_after move is few before way = leads_after move is few (leads_for way (λ d x. comes_after before x))

  pub way_for : {h k : ℕ} {G H : State → Type 0} {a : State} → Way h k G a → ((b : State) → G b → H b) → Way h k H a
  way_for way so = leads_for way
      (λ b x. record { stands = x.stands; beside = x.beside; few = x.few; goal = so b x.goal })

  pub way_here : {h k : ℕ} {Goal : State → Type 0} {a : State} → Stands a → length a.bag ≤ n → Goal a → Way h k Goal a
  way_here st few goal = search (rules, leads_here)

  pub way_then : {h j k i : ℕ} {G H : State → Type 0} {a : State} → Way h j G a →
      ((b : State) → Comes h G a b → Way h k H b) → j + k ≤ i → Way h i H a
  way_then way go le = leads_on way (λ b x. leads_for (go b x) (λ d y. comes_after x.beside y)) le

  -- a way, whatever line it is on
  pub record Arrives (Goal : State → Type 0) (a b : State) : Type 0 where
    pub stands : Stands b
    pub records : of_core c b.records ≡ of_core c a.records
    pub few : length b.bag ≤ n
    pub goal : Goal b

  abbrev pub Path : ℕ → (State → Type 0) → State → Type 0
  Path k Goal a = LeadsTo config (suc n) k (Arrives Goal a) a

  pub path_of : {h k : ℕ} {G H : State → Type 0} {a : State} → Way h k G a → ((b : State) → Comes h G a b → H b) →
      Path k H a
  path_of way go = leads_for way
      (λ b x. record { stands = x.stands; records = x.beside.records; few = x.few; goal = go b x })

  pub path_then : {j k i : ℕ} {G H : State → Type 0} {a : State} → Path j G a →
      ((b : State) → Arrives G a b → Path k H b) → j + k ≤ i → Path i H a
  path_then way go le = leads_on way (λ b x. leads_for (go b x)
      (λ d y. record { stands = y.stands; records = y.records ∙ x.records; few = y.few; goal = y.goal })) le

  pub kept : (a : State) → Stands a → IsKept config opening a
  kept a st = reached_kept config opening good a st.reached

  -- a message that is no request is none that the core waits by
  pub unasked : (x : Message) (b : Body) → x.body ≡ b → (IsRequest b → ⊥) → w x ≡ 0
  unasked x b is no_ask = go (w x) refl
    where
      go : (i : ℕ) → w x ≡ i → w x ≡ 0
      go zero e = e
      go (suc i) e = absurd (no_ask (subst IsRequest is (who.w_asks x (omega arith)).asks))

  pub asked_still : (bag : List Message) (x : Message) (rest : List Message) → SameBag bag (x ∷ rest) → w x ≡ 0 →
      who.need ≤ weigh w bag → who.need ≤ weigh w rest
  asked_still bag x rest same zero_is some = let e = same w in omega arith

  -- a bank's line changes
  module _ (a : State) (st : Stands a) (h : ℕ) where
    abbrev bank : BankState
    bank = a.banks (home h)

    some_sets : 0 < length bank.table.sets
    some_sets = ((kept a st).shape.each_bank (home h)).sets

    abbrev pub Becomes : Sets Entry → Option Entry → Type 0
    Becomes table o = IsNow (λ k. k / bank.banks) bank.table.sets table.sets h o

    pub put : (e : Entry) → Becomes (with_used bank h e).table (Some e)
    put e = put_now _ bank.table.sets some_sets h e

    pub changed : (e old : Entry) → entry_of bank h ≡ Some old → Becomes (with_changed bank h e).table (Some e)
    changed e old there = change_now _ bank.table.sets some_sets h e old there

    gone : Becomes (without_entry bank h).table None
    gone = drop_now _ bank.table.sets some_sets h

    -- it takes a message, or evicts the line, and sends another, or not
    pub bank_moves : {answer : Answer} {consumes : Bool} {sends : Option Message} {time : ℕ} {table : Sets Entry}
        {o : Option Entry} {k : ℕ} {Goal : State → Type 0} (act : Act) (rest : List Message) →
        AreBeside a.bag (node.Bank (home h)) (bank_has_case bank) (message_of act) rest →
        bank_step bank act ≡ Makes answer consumes sends (record bank { mts = time; table = table }) →
        Becomes table o → who.need ≤ weigh w (cond consumes rest a.bag) → length (cond consumes rest a.bag) ≤ n →
        ((b : State) → b ≡ with_answer (with_bank a (home h) (record bank { mts = time; table = table }))
        (cond consumes rest a.bag) sends → Stands b → length b.bag ≤ suc n → entry_of (b.banks (home h)) h ≡ o →
        Way h k Goal b) → Way h (suc k) Goal a
    bank_moves {answer} {consumes} {sends} {time} {table} {o} act rest beside done now asked few go =
        let new : BankState = record bank { mts = time; table = table } in
        let s : State = with_bank a (home h) new in
        let bag : List Message = cond consumes rest a.bag in
        let b : State = with_answer s bag sends in
        let move : Move config a b = bank_steps (home h) act rest (Makes answer consumes sends new)
        (mod-lt h (kept a st).shape.some_banks) beside done refl in
        let is = answered w s bag sends in
        let size : length b.bag ≤ suc n = let z = is.few in omega arith in
        way_after move tt size
        (record {
          others = λ k ne. ap (λ (g : ℕ → BankState). entry_of (g (home k)) k) is.banks
              ∙ with_at_cases (λ j y. entry_of y k ≡ entry_of (a.banks j) k) a.banks (home h) new (now.there k ne)
              (λ j nj. refl) (home k);
          records = ap (of_core c) is.records;
        })
        (go b refl (record {
          reached = goes_on st.reached move;
          core_is = ap (λ (g : ℕ → CoreState). core_seen (g c)) is.cores ∙ st.core_is;
          asked = le_trans asked is.weighs;
        }) size
        (ap (λ (g : ℕ → BankState). entry_of (g (home h)) h) is.banks
        ∙ ap (λ (y : BankState). entry_of y h) (with_at_same a.banks (home h) new) ∙ now.here))

    pub evicts : (o : Option Entry) → entry_of bank h ≡ o →
        bank_step bank (Evicting h) ≡ entry_evicted (bank_table.after_eviction bank h (on_entry.evicted o))
    evicts o is = ap (λ (i : Option Entry). entry_evicted (bank_table.after_eviction bank h (on_entry.evicted i))) is

  abbrev pub IsShared : ℕ → State → Type 0
  IsShared h a = (dirty : Bool) × (line : TimedLine) × (entry_of (a.banks (home h)) h ≡ Some (entry.Shared dirty line))

  abbrev pub IsGone : ℕ → State → Type 0
  IsGone h a = entry_of (a.banks (home h)) h ≡ None

  -- what a message to the bank is decided to do, by its body and the entry
  pub decided : (bank : BankState) (x : Message) (b : Body) (o : Option Entry) (d : Decision) → x.body ≡ b →
      entry_of bank x.line ≡ o →
      ((room : Bool) → on_entry.at_bank bank.lease bank.mts room (core_of x.from) o b ≡ d) →
      bank_step bank (Getting x) ≡ reacted (bank_table.after_decision bank x d)
  decided bank x b o d is there at = search rules

  -- a message with this body, which is no request, is delivered to its line's bank, or to the DRAM behind it
  module _ (a : State) (st : Stands a) (size : length a.bag ≤ suc n) (x : Message) (rest : List Message)
      (taken : SameBag a.bag (x ∷ rest)) (b : Body) (is : x.body ≡ b) (no_ask : IsRequest b → ⊥) where
    abbrev here : BankState
    here = a.banks (home x.line)

    still : who.need ≤ weigh w rest
    still = asked_still a.bag x rest taken (unasked x b is no_ask) st.asked

    fewer : length rest ≤ n
    fewer = let z = as_many a.bag (x ∷ rest) taken in omega arith

    -- the bank changes or drops its line's entry, and doesn't answer
    consumed : {table : Sets Entry} {o : Option Entry} {Goal : State → Type 0} →
        ToBank config opening a (kept a st) x rest taken → Becomes a st x.line table o →
        bank_step here (Getting x) ≡ Makes Delivered true None (record here { table = table }) →
        ((s : State) → entry_of (s.banks (home x.line)) x.line ≡ o → s.cores ≡ a.cores → Goal s) → Way x.line 1 Goal a
    consumed at now done goal = bank_moves a st x.line (Getting x) rest (taken, at.to, at.has) done now still fewer
        (λ s same ss less e. way_here ss (rw same fewer) (goal s e (ap (λ (t : State). t.cores) same)))

    shared : (dirty : Bool) (line : TimedLine) (old : Entry) → ToBank config opening a (kept a st) x rest taken →
        entry_of here x.line ≡ Some old →
        ((room : Bool) → on_entry.at_bank here.lease here.mts room (core_of x.from) (Some old) b
        ≡ decision.Becomes (entry.Shared dirty line)) → Way x.line 1 (λ s. IsShared x.line s × (s.cores ≡ a.cores)) a
    shared dirty line old at there by =
        consumed at (changed a st x.line (entry.Shared dirty line) old there)
        (decided here x b (Some old) (decision.Becomes (entry.Shared dirty line)) is there by)
        (λ s e same. ((dirty, line, e), same))

    -- the line of an owned entry is dirty from now on
    given_back : ToBank config opening a (kept a st) x rest taken → (line : TimedLine) → ((room : Bool)
        (e : Option Entry) → on_entry.at_bank here.lease here.mts room (core_of x.from) e b
        ≡ on_entry.given_back line e) → (e : Option Entry) → entry_of here x.line ≡ e → is_owned e ≡ true →
        Way x.line 1 (λ s. IsShared x.line s × (s.cores ≡ a.cores)) a
    given_back at line by (Some (entry.Exclusive i)) there has =
        shared true line (entry.Exclusive i) at there (λ room. by room (Some (entry.Exclusive i)))
    given_back at line by (Some (entry.Recalling i)) there has =
        shared true line (entry.Recalling i) at there (λ room. by room (Some (entry.Recalling i)))
    given_back at line by _ there has = absurd (let z : false ≡ true = has in cc)

    answered_by_dram : {k : ℕ} {Goal : State → Type 0} (lines : FinMap nat_cmp (List ℕ)) (reply : Body) →
        ToDram config opening a (kept a st) x rest taken →
        dram_case (a.drams (home x.line)) x b ≡ Some (Done (Some (answer_to x reply)), lines) →
        ((s : State) → Stands s → length s.bag ≤ suc n → (q : Message) → SameBag s.bag (q ∷ rest) → q.line ≡ x.line →
        q.body ≡ reply → Way x.line k Goal s) → Way x.line (suc k) Goal a
    answered_by_dram lines reply at does go =
        let q = answer_to x reply in
        let s : State = record (with_dram a (home x.line) lines) { bag = q ∷ rest; counts = counted a.counts reply } in
        let move : Move config a s = dram_steps (home x.line) (Getting x) rest (Makes Delivered true (Some q) lines)
        at.below (taken, at.to, at.has)
        (ap reacted (ap (dram_case (a.drams (home x.line)) x) is ∙ does)) refl in
        let few = fewer in
        way_after move tt (omega arith) (record { others = λ i ne. refl; records = refl })
        (go s (record {
          reached = goes_on st.reached move;
          core_is = st.core_is;
          asked = let z = still in omega arith;
        }) (omega arith) q (λ i. refl) refl refl)

  -- the owner's return comes to the bank
  pub returned : (a : State) → Stands a → length a.bag ≤ suc n → (h o : ℕ) →
      1 ≤ tally (return_of o) (messages_of a.bag h) → Way h 1 (λ b. IsShared h b × (b.cores ≡ a.cores)) a
  returned a st size h o some =
      let k = found_of h (return_of o) a.bag some in
      rw (← k.line) (go k.message k.rest k.taken k.message.body refl k.weighs)
    where
      go : (x : Message) (rest : List Message) (taken : SameBag a.bag (x ∷ rest)) (b : Body) → x.body ≡ b →
          1 ≤ return_of o (body_seen (core_of x.from) (core_of x.to) b) →
          Way x.line 1 (λ s. IsShared x.line s × (s.cores ≡ a.cores)) a
      go x rest taken (body.FlushRep line) is weighs =
          let at = to_bank config opening a (kept a st) x rest taken (body.FlushRep line) is (λ k i. refl) refl in
          given_back a st size x rest taken (body.FlushRep line) is (λ z. z) at line (λ room e. refl) _ refl
          (comes config opening a (kept a st) x rest taken at (body.FlushRep line) is)
      go x rest taken (body.WbRep line) is weighs =
          let at = to_bank config opening a (kept a st) x rest taken (body.WbRep line) is (λ k i. refl) refl in
          given_back a st size x rest taken (body.WbRep line) is (λ z. z) at line (λ room e. refl) _ refl
          (comes config opening a (kept a st) x rest taken at (body.WbRep line) is)
      go x rest taken _ is weighs = absurd (omega arith)

  pub by_return : (a : State) → Stands a → length a.bag ≤ suc n → (h o : ℕ) →
      1 ≤ tally (return_of o) (messages_of a.bag h) → Way h 1 (IsShared h) a
  by_return a st size h o some = way_for (returned a st size h o some) (λ b g. g.0)

  -- the words come to the bank
  by_words : (a : State) → Stands a → length a.bag ≤ suc n → (x : Message) (rest : List Message) →
      SameBag a.bag (x ∷ rest) → (words : List ℕ) → x.body ≡ body.DramLdRep words → Way x.line 1 (IsShared x.line) a
  by_words a st size x rest taken words is =
      let at = to_bank config opening a (kept a st) x rest taken (body.DramLdRep words) is (λ k i. refl) refl in
      go at _ refl (comes config opening a (kept a st) x rest taken at (body.DramLdRep words) is)
    where
      go : ToBank config opening a (kept a st) x rest taken → (e : Option Entry) →
          entry_of (a.banks (home x.line)) x.line ≡ e → comes_to_bank x.from (body.DramLdRep words) e ≡ true →
          Way x.line 1 (IsShared x.line) a
      go at (Some entry.Loading) there has =
          let mts = (a.banks (home x.line)).mts in
          way_for (shared a st size x rest taken (body.DramLdRep words) is (λ z. z) false
          (record { wts = mts; rts = mts; words = words }) entry.Loading at there (λ room. refl)) (λ s g. g.0)
      go at _ there has = absurd (let z : false ≡ true = has in cc)

  -- a stored line is gone once DRAM has said so
  by_acknowledgement : (a : State) → Stands a → length a.bag ≤ suc n → (x : Message) (rest : List Message) →
      SameBag a.bag (x ∷ rest) → x.body ≡ body.DramStRep → Way x.line 1 (IsGone x.line) a
  by_acknowledgement a st size x rest taken is =
      let at = to_bank config opening a (kept a st) x rest taken body.DramStRep is (λ k i. refl) refl in
      go at _ refl (comes config opening a (kept a st) x rest taken at body.DramStRep is)
    where
      go : ToBank config opening a (kept a st) x rest taken → (e : Option Entry) →
          entry_of (a.banks (home x.line)) x.line ≡ e → comes_to_bank x.from body.DramStRep e ≡ true →
          Way x.line 1 (IsGone x.line) a
      go at (Some entry.Storing) there has =
          consumed a st size x rest taken body.DramStRep is (λ z. z) at (gone a st x.line)
          (decided (a.banks (home x.line)) x body.DramStRep (Some entry.Storing) decision.Leaves is there
          (λ room. refl)) (λ s e same. e)
      go at _ there has = absurd (let z : false ≡ true = has in cc)

  pub by_loading : (a : State) → Stands a → length a.bag ≤ suc n → (h : ℕ) →
      entry_of (a.banks (home h)) h ≡ Some entry.Loading → Way h 2 (IsShared h) a
  by_loading a st size h is =
      let k = found_of h load a.bag
      (let z = (line_counts config opening a (kept a st) h).0 ∙ ap (λ (e : Option Entry). loading (entry_seen e)) is in
      omega arith) in
      rw (← k.line) (go k.message k.rest k.taken k.message.body refl k.weighs)
    where
      go : (x : Message) (rest : List Message) (taken : SameBag a.bag (x ∷ rest)) (b : Body) → x.body ≡ b →
          1 ≤ load (body_seen (core_of x.from) (core_of x.to) b) → Way x.line 2 (IsShared x.line) a
      go x rest taken body.DramLd e weighs =
          answered_by_dram a st size x rest taken body.DramLd e (λ z. z) _ _
          (to_dram config opening a (kept a st) x rest taken body.DramLd e (λ k i. refl) (λ f' k i. refl)) refl
          (λ s ss less q same line is'. rw (← line) (by_words s ss less q rest same _ is'))
      go x rest taken (body.DramLdRep words) e weighs =
          leads_within (by_words a st size x rest taken words e) (omega arith)
      go x rest taken _ e weighs = absurd (omega arith)

  pub by_storing : (a : State) → Stands a → length a.bag ≤ suc n → (h : ℕ) →
      entry_of (a.banks (home h)) h ≡ Some entry.Storing → Way h 2 (IsGone h) a
  by_storing a st size h is =
      let k = found_of h store a.bag
      (let z = (line_counts config opening a (kept a st) h).1 ∙ ap (λ (e : Option Entry). storing (entry_seen e)) is in
      omega arith) in
      rw (← k.line) (go k.message k.rest k.taken k.message.body refl k.weighs)
    where
      go : (x : Message) (rest : List Message) (taken : SameBag a.bag (x ∷ rest)) (b : Body) → x.body ≡ b →
          1 ≤ store (body_seen (core_of x.from) (core_of x.to) b) → Way x.line 2 (IsGone x.line) a
      go x rest taken (body.DramSt words) e weighs =
          answered_by_dram a st size x rest taken (body.DramSt words) e (λ z. z) _ _
          (to_dram config opening a (kept a st) x rest taken (body.DramSt words) e (λ k i. refl) (λ f' k i. refl)) refl
          (λ s ss less q same line is'. rw (← line) (by_acknowledgement s ss less q rest same is'))
      go x rest taken body.DramStRep e weighs = leads_within (by_acknowledgement a st size x rest taken e) (omega arith)
      go x rest taken _ e weighs = absurd (omega arith)

  -- a shared line leaves its bank
  pub by_shared : (a : State) → Stands a → length a.bag ≤ n → (h : ℕ) → IsShared h a → Way h 3 (IsGone h) a
  by_shared a st size h (false, line, is) =
      bank_moves a st h (Evicting h) a.bag refl (evicts a st h _ is) (gone a st h) st.asked size
      (λ b same sb less now. way_here sb (rw same size) now)
  by_shared a st size h (true, line, is) =
      bank_moves a st h (Evicting h) a.bag refl (evicts a st h _ is) (changed a st h entry.Storing _ is) st.asked size
      (λ b same sb less now. by_storing b sb less h now)
