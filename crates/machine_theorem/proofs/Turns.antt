-- What one core, one bank or one DRAM does to one line is a turn of the protocol by lines.
use Rattle.std.proofs.Common.{arith, ◌≡◌, ◌≢◌, ℕ, ◌%◌, Bool, false, eqb, List, Option, Some, None, refl, sym, ap, ◌∙◌}
use Rattle.std.proofs.Common.{subst, nat_cmp}
use Rattle.std.proofs.lemmas.Bool.{cases_Bool}
use Rattle.std.specs.FinMap.{FinMap}
use Rattle.physiological_order.specs.declared.operation.Op.{Op}
use Rattle.physiological_order.specs.declared.operation.Record.{Record}
use Rattle.network.specs.declared.message.Message.{Message}
use Rattle.private_cache.specs.CopyTable.{copy_of}
use Rattle.core_pts.specs.CoreTable.{CoreState}
use Rattle.llc_bank.specs.BankTable.{BankState, entry_of}
use Rattle.dram_mts.specs.Lines.{words_of}
use Rattle.machine_table.specs.declared.config.Config.{Config}
use Rattle.protocol.specs.Machine as by_line
use Rattle.protocol.specs.Machine.{Copy, Line, Core, with_at, IsPinned, LineTransition, evict_shared, evict_exclusive}
use Rattle.protocol.specs.Machine.{Transition, issue, advance, ask, answer, complete, line_changes}
use Rattle.protocol.proofs.Lemmas.{with_at_same, with_at_cases, with_at_id}
use Rattle.machine_theorem.specs.States.{State}
use Rattle.machine_theorem.specs.View.{copy_or_none, copy_in, core_seen, entry_seen, entry_in, messages_of, set_up}
use Rattle.machine_theorem.specs.View.{line_seen, view}

-- machines that look alike are one
pub machine_same : (m n : by_line.Machine) → ((l : ℕ) → m.lines l ≡ n.lines l) → ((c : ℕ) → m.cores c ≡ n.cores c) →
    ((b : ℕ) → m.mts b ≡ n.mts b) → ((c : ℕ) → m.issued c ≡ n.issued c) → m.records ≡ n.records → m ≡ n
machine_same m n lines cores mts issued records = grind arith

pub line_same : (x y : Line) → x.entry ≡ y.entry → ((c : ℕ) → x.copies c ≡ y.copies c) → x.messages ≡ y.messages →
    x.dram ≡ y.dram → x ≡ y
line_same x y entry copies messages dram = grind arith

-- what is seen of functions that are changed at one number
pub seen_at : {X Y : Type 0} (see : X → Y) (f : ℕ → X) (i : ℕ) (x : X) (j : ℕ) →
    with_at (λ k. see (f k)) i (see x) j ≡ see (with_at f i x j)
seen_at see f i x j = grind (arith, cases_Bool (eqb j i))

-- and what is the same where the new part looks as the old one
pub seen_alike : {X Y : Type 0} (see : X → Y) (f : ℕ → X) (i : ℕ) (x : X) → see x ≡ see (f i) → (j : ℕ) →
    see (f j) ≡ see (with_at f i x j)
seen_alike see f i x same = with_at_cases (λ j z. see (f j) ≡ see z) f i x (sym same) (λ j ne. refl)

-- what makes a transition: a core that is given its operation, tries it, has its time go on, or has a copy leave; or a
-- delivery, or a bank's eviction
pub data Kind : Type 0 where
  issuing : (c : ℕ) → Kind
  attempting : (c : ℕ) → Kind
  advancing : Kind
  leaving : (c l : ℕ) → Kind
  delivering : Kind

-- the core that a copy leaves
abbrev pub leaves_at : {lease : ℕ} {loses : Bool} {pinned : ℕ → Type 0} {t u : ℕ} {x y : Line} →
    LineTransition lease loses pinned t x u y → Option ℕ
leaves_at (evict_shared c copy un is sh) = Some c
leaves_at (evict_exclusive c copy un is ex) = Some c
leaves_at _ = None

abbrev pub kind_at : ℕ → Option ℕ → Kind
kind_at l None = delivering
kind_at l (Some c) = leaving c l

abbrev pub kind_of : {f : by_line.Config} {m n : by_line.Machine} → Transition f m n → Kind
kind_of (issue c op none) = issuing c
kind_of (advance c) = advancing
kind_of (ask c op y opens quiet asks) = attempting c
kind_of (answer c l y answers) = delivering
kind_of (complete c op copy new received ts opens quiet is uses) = attempting c
kind_of (line_changes l t y move) = kind_at l (leaves_at move)

-- a transition of this kind leads from the one to the other
pub record Leads (f : by_line.Config) (kind : Kind) (m n : by_line.Machine) : Type 0 where
  pub turn : Transition f m n
  pub is : kind_of turn ≡ kind

pub by_turn : {f : by_line.Config} {m n : by_line.Machine} (turn : Transition f m n) → Leads f (kind_of turn) m n
by_turn turn = record { turn = turn; is = refl }

-- one line's transition, which has the copy of this core leave, or of none
abbrev pub Changes : ℕ → (ℕ → Type 0) → Option ℕ → ℕ → Line → ℕ → Line → Type 0
Changes lease pinned who t x u y = (move : LineTransition lease false pinned t x u y) × (leaves_at move ≡ who)

module _ (config : Config) (opening : FinMap nat_cmp ℕ) (a : State) where
  abbrev v : by_line.Machine
  v = view config a

  abbrev Reaches : Kind → by_line.Machine → Type 0
  Reaches kind n = Leads (set_up config opening) kind v n

  -- one of this line, with this time of its bank
  abbrev pub Moves : Option ℕ → ℕ → ℕ → Line → Type 0
  Moves who l t y =
      Changes config.lease (IsPinned (set_up config opening) v.cores l) who (v.mts (l % config.banks))
      (line_seen config a l) t y

  -- a core's turn: its line, its core, the messages and the records
  pub core_turn : {kind : Kind} (c : ℕ) (new : CoreState) (l : ℕ) (y : Line) (k : Core) (bag : List Message)
      (rs : List Record) →
      y ≡ record (line_seen config a l) {
        copies = with_at (line_seen config a l).copies c (copy_in new l);
        messages = messages_of bag l;
      } → k ≡ core_seen new →
      ((j : ℕ) → j ≢ l → copy_in new j ≡ copy_in (a.cores c) j) →
      ((j : ℕ) → j ≢ l → messages_of a.bag j ≡ messages_of bag j) →
      Reaches kind (record v { cores = with_at v.cores c k; lines = with_at v.lines l y; records = rs }) →
      Reaches kind (view config (record a { cores = with_at a.cores c new; bag = bag; records = rs }))
  core_turn {kind} c new l y k bag rs line core others bags =
      let after : State = record a { cores = with_at a.cores c new; bag = bag; records = rs } in
      subst (Reaches kind) (machine_same _ (view config after)
      (with_at_cases (λ j x. x ≡ line_seen config after j) v.lines l y
      (line ∙ line_same _ (line_seen config after l) refl (seen_at (λ x. copy_in x l) a.cores c new) refl refl)
      (λ j ne. line_same _ (line_seen config after j) refl
      (seen_alike (λ x. copy_in x j) a.cores c new (others j ne)) (bags j ne) refl))
      (λ d. ap (λ x. with_at v.cores c x d) core ∙ seen_at core_seen a.cores c new d)
      (λ b. refl) (λ d. refl) refl)

  -- a core's turn that changes nothing of its copies
  pub core_alone : {kind : Kind} (c : ℕ) (new : CoreState) (issued : ℕ → List Op) → new.cache ≡ (a.cores c).cache →
      Reaches kind (record v { cores = with_at v.cores c (core_seen new); issued = issued }) →
      Reaches kind (view config (record a { cores = with_at a.cores c new; issued = issued }))
  core_alone {kind} c new issued same =
      subst (Reaches kind) (machine_same _ _
      (λ l. line_same _ _ refl (seen_alike (λ x. copy_in x l) a.cores c new (ap (λ k. copy_or_none (copy_of k l)) same))
      refl refl) (seen_at core_seen a.cores c new) (λ b. refl) (λ d. refl) refl)

  -- a transition of one line, with the messages, leads to each state that looks so
  line_turn : (who : Option ℕ) (b : State) (l t : ℕ) (y : Line) → y ≡ line_seen config b l →
      ((j : ℕ) → j ≢ l → line_seen config a j ≡ line_seen config b j) →
      ((d : ℕ) → core_seen (a.cores d) ≡ core_seen (b.cores d)) →
      ((i : ℕ) → with_at v.mts (l % config.banks) t i ≡ (b.banks i).mts) →
      ((d : ℕ) → a.issued d ≡ b.issued d) → a.records ≡ b.records → Moves who l t y → Reaches (kind_at l who)
      (view config b)
  line_turn who b l t y here there cores mts issued records move =
      subst (Reaches (kind_at l who)) (machine_same _ (view config b)
      (with_at_cases (λ j x. x ≡ line_seen config b j) v.lines l y here there) cores mts issued records)
      (record { turn = line_changes {m = v} l t y move.0; is = ap (kind_at l) move.1 })

  -- the bank's time stays
  time_kept : (l i : ℕ) → with_at v.mts (l % config.banks) (v.mts (l % config.banks)) i ≡ v.mts i
  time_kept l i = ap (λ (g : ℕ → ℕ). g i) (with_at_id v.mts (l % config.banks) (v.mts (l % config.banks)) refl)

  -- one that changes one core's copy
  pub core_move : (who : Option ℕ) (c : ℕ) (new : CoreState) (l : ℕ) (copy : Option Copy) (front : List by_line.Message)
      (bag : List Message) → core_seen new ≡ core_seen (a.cores c) → copy ≡ copy_in new l →
      ((j : ℕ) → j ≢ l → copy_in new j ≡ copy_in (a.cores c) j) → front ≡ messages_of bag l →
      ((j : ℕ) → j ≢ l → messages_of a.bag j ≡ messages_of bag j) →
      Moves who l (v.mts (l % config.banks)) (record (line_seen config a l) {
        copies = with_at (line_seen config a l).copies c copy;
        messages = front;
      }) → Reaches (kind_at l who) (view config (record a { cores = with_at a.cores c new; bag = bag }))
  core_move who c new l copy front bag same here others messages bags move =
      line_turn who (record a { cores = with_at a.cores c new; bag = bag }) l (v.mts (l % config.banks)) _
      (line_same _ _ refl (λ d. ap (λ o. with_at (line_seen config a l).copies c o d) here
      ∙ seen_at (λ x. copy_in x l) a.cores c new d) messages refl)
      (λ j ne. line_same _ _ refl (seen_alike (λ x. copy_in x j) a.cores c new (others j ne)) (bags j ne) refl)
      (seen_alike core_seen a.cores c new same) (time_kept l) (λ d. refl) refl move

  -- one that changes a bank
  pub bank_turn : (new : BankState) (l : ℕ) (o : by_line.Entry) (front : List by_line.Message) (bag : List Message) →
      o ≡ entry_in new l → front ≡ messages_of bag l →
      ((j : ℕ) → j ≢ l → entry_of new j ≡ entry_of (a.banks (l % config.banks)) j) →
      ((j : ℕ) → j ≢ l → messages_of a.bag j ≡ messages_of bag j) →
      Moves None l new.mts (record (line_seen config a l) { entry = o; messages = front }) →
      Reaches delivering (view config (record a { banks = with_at a.banks (l % config.banks) new; bag = bag }))
  bank_turn new l o front bag entry messages others bags move =
      let b = l % config.banks in
      line_turn None (record a { banks = with_at a.banks b new; bag = bag }) l new.mts _
      (line_same _ _ (entry ∙ ap (λ (x : BankState). entry_in x l) (sym (with_at_same a.banks b new))) (λ d. refl)
      messages refl)
      (λ j ne. line_same _ _ (seen_alike (λ x. entry_in x j) a.banks b new (ap entry_seen (others j ne))
      (j % config.banks)) (λ d. refl) (bags j ne) refl)
      (λ d. refl) (seen_at (λ (x : BankState). x.mts) a.banks b new) (λ d. refl) refl move

  -- one that changes a DRAM
  pub dram_turn : (new : FinMap nat_cmp (List ℕ)) (l : ℕ) (front : List by_line.Message) (bag : List Message) →
      front ≡ messages_of bag l →
      ((j : ℕ) → j ≢ l → words_of new j ≡ words_of (a.drams (l % config.banks)) j) →
      ((j : ℕ) → j ≢ l → messages_of a.bag j ≡ messages_of bag j) →
      Moves None l (v.mts (l % config.banks)) (record (line_seen config a l) {
        dram = words_of new l;
        messages = front;
      }) →
      Reaches delivering (view config (record a { drams = with_at a.drams (l % config.banks) new; bag = bag }))
  dram_turn new l front bag messages others bags move =
      let b = l % config.banks in
      line_turn None (record a { drams = with_at a.drams b new; bag = bag }) l (v.mts b) _
      (line_same _ _ refl (λ d. refl) messages (ap (λ x. words_of x l) (sym (with_at_same a.drams b new))))
      (λ j ne. line_same _ _ refl (λ d. refl) (bags j ne)
      (seen_alike (λ x. words_of x j) a.drams b new (others j ne) (j % config.banks)))
      (λ d. refl) (time_kept l) (λ d. refl) refl move

  -- one that changes messages alone
  pub bag_turn : (l : ℕ) (bag : List Message) →
      ((j : ℕ) → j ≢ l → messages_of a.bag j ≡ messages_of bag j) →
      Moves None l (v.mts (l % config.banks)) (record (line_seen config a l) { messages = messages_of bag l }) →
      Reaches delivering (view config (record a { bag = bag }))
  bag_turn l bag bags move =
      line_turn None (record a { bag = bag }) l (v.mts (l % config.banks)) _ refl
      (λ j ne. line_same _ _ refl (λ d. refl) (bags j ne) refl) (λ d. refl) (time_kept l) (λ d. refl) refl move
