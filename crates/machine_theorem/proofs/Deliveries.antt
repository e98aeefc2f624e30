-- What can be delivered: a message that a line must have is in the bag, goes to its part, and has a case there.
use Rattle.std.proofs.Common.{◌≡◌, ℕ, zero, suc, ◌%◌, ◌<◌, ◌≤◌, Bool, true, false, ◌&&◌, ◌||◌, cond, eqb, leb, List, []}
use Rattle.std.proofs.Common.{◌∷◌, Option, Some, None, ◌⊎◌, inl, inr, refl, sym, ap, ◌∙◌, subst, arith, nat_cmp}
use Rattle.std.specs.FinMap.{FinMap}
use Rattle.std.proofs.lemmas.Bool.{cases_Bool, eqb-true, le-leb}
use Rattle.network.specs.declared.message.Node.{Node}
use Rattle.network.specs.declared.message.Node.TheVariants as node
use Rattle.network.specs.declared.message.Body.{Body}
use Rattle.network.specs.declared.message.Body.TheVariants as body
use Rattle.network.specs.declared.message.Message.{Message}
use Rattle.physiological_order.specs.declared.operation.Op.{Op}
use Rattle.physiological_order.specs.declared.operation.Op.TheVariants.{Load}
use Rattle.private_cache.specs.declared.line_copy.LineCopy.{LineCopy}
use Rattle.private_cache.specs.CopyTable.{copy_of, is_pinned, with_used}
use Rattle.core_pts.specs.declared.decision.CoreReaction.{CoreReaction}
use Rattle.core_pts.specs.OnCopy as on_copy
use Rattle.core_pts.specs.OnCopy.{at_core, is_exclusive}
use Rattle.core_pts.specs.CoreTable as core_table
use Rattle.core_pts.specs.CoreTable.{CoreState, core_has_case, comes_to_core, is_this_core, pinned_line}
use Rattle.machine_table.specs.Step.{Does, Attempting, Getting, core_step, reacted, attempted}
use Rattle.llc_bank.specs.BankTable.{BankState, core_of, entry_of, bank_has_case, comes_to_bank, is_this_bank}
use Rattle.dram_mts.specs.Table.{dram_has_case, comes_to_dram, is_dram}
use Rattle.machine_table.specs.declared.config.Config.{Config}
use Rattle.protocol.specs.Machine as by_line
use Rattle.protocol.specs.Machine.{tally}
use Rattle.machine_theorem.specs.Bags.{weigh, SameBag}
pub use Rattle.machine_theorem.specs.Replies.{IsReply}
use Rattle.machine_theorem.specs.States.{State}
use Rattle.machine_theorem.specs.Moves.{Move, completes, with_completion}
use Rattle.machine_theorem.specs.Consistent.{FindsCase}
use Rattle.machine_theorem.specs.View.{copy_or_none, message_seen, messages_of}
use Rattle.machine_theorem.specs.Shape.{IsHome}
use Rattle.machine_theorem.specs.Kept.{IsKept}
use Rattle.machine_theorem.proofs.Services.{IsService, IsLate, a_core}
use Rattle.machine_theorem.proofs.KeptSteps.{kept_reordered}
use Rattle.machine_theorem.proofs.Consistency.{state_consistent}

pub and_right : (p q : Bool) → (p && q) ≡ true → q ≡ true
and_right true q e = e
and_right false q e = absurd (cc)

pub counts_if : (b : Bool) (n : ℕ) → 1 ≤ cond b n 0 → (b ≡ true) × (1 ≤ n)
counts_if true n some = (refl, some)
counts_if false n some = absurd (omega arith)

-- a message that weighs something, and the others
pub record Found (w : Message → ℕ) (bag : List Message) : Type 0 where
  pub message : Message
  pub rest : List Message
  pub taken : SameBag bag (message ∷ rest)
  pub weighs : 1 ≤ w message

pub found : (w : Message → ℕ) (bag : List Message) → 1 ≤ weigh w bag → Found w bag
found w [] some = absurd (omega arith)
found w (m ∷ ms) some = go (w m) refl (found w ms)
  where
    behind : (k : Found w ms) → Found w (m ∷ ms)
    behind k = record {
      message = k.message;
      rest = m ∷ k.rest;
      taken = λ h. let e = k.taken h in omega arith;
      weighs = k.weighs;
    }

    go : (n : ℕ) → w m ≡ n → (1 ≤ weigh w ms → Found w ms) → Found w (m ∷ ms)
    go zero e later = behind (later (omega arith))
    go (suc n) e later = record { message = m; rest = ms; taken = λ h. refl; weighs = omega arith }

-- a line's messages weigh what those of the bag do that are about it
abbrev pub of_line : ℕ → (by_line.Message → ℕ) → Message → ℕ
of_line h w x = cond (eqb x.line h) (w (message_seen x)) 0

pub line_weighs : (h : ℕ) (w : by_line.Message → ℕ) (bag : List Message) →
    tally w (messages_of bag h) ≡ weigh (of_line h w) bag
line_weighs h w [] = refl
line_weighs h w (x ∷ xs) = grind (arith, line_weighs h w xs, cases_Bool (eqb x.line h))

-- such a message
pub record OfLine (h : ℕ) (w : by_line.Message → ℕ) (bag : List Message) : Type 0 where
  pub message : Message
  pub rest : List Message
  pub taken : SameBag bag (message ∷ rest)
  pub line : message.line ≡ h
  pub weighs : 1 ≤ w (message_seen message)

pub found_of : (h : ℕ) (w : by_line.Message → ℕ) (bag : List Message) → 1 ≤ tally w (messages_of bag h) → OfLine h w bag
found_of h w bag some =
    let k = found (of_line h w) bag (let e = line_weighs h w bag in omega arith) in
    let is = counts_if (eqb k.message.line h) (w (message_seen k.message)) k.weighs in
    record { message = k.message; rest = k.rest; taken = k.taken; line = eqb-true k.message.line h is.0; weighs = is.1 }

module _ (config : Config) (opening : FinMap nat_cmp ℕ) (a : State) (s : IsKept config opening a) (x : Message)
    (rest : List Message) (taken : SameBag a.bag (x ∷ rest)) where
  finds : FindsCase config a x x.to
  finds = (state_consistent config opening a s).cases x rest taken

  home : (to : Node) → x.to ≡ to → IsHome (x.line % config.banks) to
  home to is = grind (arith, kept_reordered config opening a (x ∷ rest) taken s)

  -- to the line's bank
  pub record ToBank : Type 0 where
    pub to : x.to ≡ node.Bank (x.line % config.banks)
    pub below : x.line % config.banks < config.banks
    pub has : bank_has_case (a.banks (x.line % config.banks)) x ≡ true

  pub to_bank : (b : Body) → x.body ≡ b → ((core : CoreState) (line : ℕ) → comes_to_core core line b ≡ false) →
      comes_to_dram b ≡ false → ToBank
  to_bank b is no_core no_dram = go x.to refl finds
    where
      go : (to : Node) → x.to ≡ to → FindsCase config a x to → ToBank
      go (node.Bank i) e k =
          let here = home (node.Bank i) e in
          record {
            to = e ∙ ap node.Bank here;
            below = subst (λ (j : ℕ). j < config.banks) here k.0;
            has = subst (λ (j : ℕ). bank_has_case (a.banks j) x ≡ true) here k.1;
          }
      go (node.Core d) e k = absurd (let z : false ≡ true = sym (no_core (a.cores d) x.line)
          ∙ sym (ap (comes_to_core (a.cores d) x.line) is)
          ∙ and_right (is_this_core (a.cores d).number x.to) _ k.1 in cc)
      go (node.Dram i) e k = absurd (let z : false ≡ true = cc (and_right (is_dram x.to) _ k.1) in cc)

  pub comes : ToBank → (b : Body) → x.body ≡ b →
      comes_to_bank x.from b (entry_of (a.banks (x.line % config.banks)) x.line) ≡ true
  comes at b is = rw (← is) (and_right (is_this_bank (a.banks (x.line % config.banks)).number x.to) _ at.has)

  -- to the DRAM behind it
  pub record ToDram : Type 0 where
    pub to : x.to ≡ node.Dram (x.line % config.banks)
    pub below : x.line % config.banks < config.banks
    pub has : dram_has_case (a.drams (x.line % config.banks)) x ≡ true

  pub to_dram : (b : Body) → x.body ≡ b → ((core : CoreState) (line : ℕ) → comes_to_core core line b ≡ false) →
      ((from : Node) (bank : BankState) (line : ℕ) → comes_to_bank from b (entry_of bank line) ≡ false) → ToDram
  to_dram b is no_core no_bank = go x.to refl finds
    where
      go : (to : Node) → x.to ≡ to → FindsCase config a x to → ToDram
      go (node.Dram i) e k =
          let here = home (node.Dram i) e in
          record {
            to = e ∙ ap node.Dram here;
            below = subst (λ (j : ℕ). j < config.banks) here k.0;
            has = subst (λ (j : ℕ). dram_has_case (a.drams j) x ≡ true) here k.1;
          }
      go (node.Core d) e k = absurd (let z : false ≡ true = sym (no_core (a.cores d) x.line)
          ∙ sym (ap (comes_to_core (a.cores d) x.line) is)
          ∙ and_right (is_this_core (a.cores d).number x.to) _ k.1 in cc)
      go (node.Bank i) e k = absurd (let z : false ≡ true = sym (no_bank x.from (a.banks i) x.line)
          ∙ sym (ap (λ (c : Body). comes_to_bank x.from c (entry_of (a.banks i) x.line)) is)
          ∙ and_right (is_this_bank (a.banks i).number x.to) _ k.1 in cc)

  -- to a core
  pub record ToCore : Type 0 where
    pub core : ℕ
    pub to : x.to ≡ node.Core core
    pub below : core < config.cores
    pub has : core_has_case (a.cores core) x ≡ true

  pub to_core : (b : Body) → x.body ≡ b →
      ((from : Node) (bank : BankState) (line : ℕ) → comes_to_bank from b (entry_of bank line) ≡ false) →
      comes_to_dram b ≡ false → ToCore
  to_core b is no_bank no_dram = go x.to refl finds
    where
      go : (to : Node) → x.to ≡ to → FindsCase config a x to → ToCore
      go (node.Core d) e k = record { core = d; to = e; below = k.0; has = k.1 }
      go (node.Bank i) e k = absurd (let z : false ≡ true =
          grind (arith, and_right (is_this_bank (a.banks i).number x.to) _ k.1) in cc)
      go (node.Dram i) e k = absurd (let z : false ≡ true = cc (and_right (is_dram x.to) _ k.1) in cc)

  -- to this core
  pub its_core : ToCore → (o : ℕ) → core_of x.to ≡ o →
      (o < config.cores) × (x.to ≡ node.Core o) × (core_has_case (a.cores o) x ≡ true)
  its_core at o to = let d : at.core ≡ o = sym (ap core_of at.to) ∙ to in rw (← d) (at.below, at.to, at.has)

-- what a message to a core is decided to do, by its body, and by the core's operation and copy
pub core_decided : (core : CoreState) (x : Message) (b : Body) (p : Bool) (held : Option LineCopy) (r : CoreReaction) →
    x.body ≡ b → is_pinned (pinned_line core) x.line ≡ p → copy_of core.cache x.line ≡ held →
    at_core core.lease p held b ≡ r →
    core_step core (Getting x) ≡ Does (reacted (core_table.after_reaction core x.line r))
core_decided core x b p held r is pinned copy at = cc

-- an attempt at an open operation, by the copy that there is
pub attempt_as : (core : CoreState) (p : Op) → core.open_op ≡ Some p → (o : Option LineCopy) →
    copy_of core.cache (core_table.line_of core p) ≡ o →
    core_step core Attempting ≡ attempted core p (core_table.attempt_on core p o)
attempt_as core p opens o is = cc

-- one that the core's copy serves
pub serving_attempt : (core : CoreState) (p : Op) (held : LineCopy) → core.open_op ≡ Some p →
    copy_of core.cache (core_table.line_of core p) ≡ Some held → on_copy.serves p core.pts held ≡ true →
    core_step core Attempting ≡ attempted core p (core_table.completed_at core p held
    (on_copy.time_of core.private_write core.pts p held))
serving_attempt core p held opens is serves = rw serves at (attempt_as core p opens (Some held) is)

-- the core completes an operation with its copy at this time
abbrev pub completed : State → ℕ → Op → LineCopy → ℕ → State
completed a c p held ts =
    let core = a.cores c in
    let index = core_table.index_of core p in
    with_completion a c p (on_copy.received_at index p held) ts (record core {
      pts = ts;
      open_op = None;
      is_out = false;
      cache = with_used core.cache (core_table.line_of core p) (on_copy.copy_after index ts p held);
    })

-- such an attempt completes it, if its time fits
pub served : (config : Config) (a : State) (c : ℕ) → c < config.cores → (p : Op) (held : LineCopy) →
    (a.cores c).open_op ≡ Some p → copy_of (a.cores c).cache (core_table.line_of (a.cores c) p) ≡ Some held →
    on_copy.serves p (a.cores c).pts held ≡ true → (ts : Option ℕ) →
    on_copy.time_of (a.cores c).private_write (a.cores c).pts p held ≡ ts →
    IsLate config a ⊎ ((t : ℕ) × (move : Move config a (completed a c p held t)) × IsService move)
served config a c below p held opens is serves None t =
    inl (a_core c Attempting a.bag below (λ z. cc) refl (rw t at (serving_attempt (a.cores c) p held opens is serves)))
served config a c below p held opens is serves (Some ts) t =
    inr (ts, completes c p _ ts _ below (rw t at (serving_attempt (a.cores c) p held opens is serves)), tt)

-- an owner's copy serves any operation
pub owner_serves : (pts : ℕ) (held : LineCopy) → is_exclusive held.state ≡ true → (p : Op) →
    on_copy.serves p pts held ≡ true
owner_serves pts held ex (Load a) = ap (λ (b : Bool). b || leb pts held.rts) ex
owner_serves pts held ex _ = ex

-- a copy that owns its line
pub owned_copy : (held : Option LineCopy) → by_line.owns (copy_or_none held) ≡ 1 →
    (copy : LineCopy) × (held ≡ Some copy) × (is_exclusive copy.state ≡ true)
owned_copy None e = absurd (omega arith)
owned_copy (Some copy) e = (copy, refl, (counts_if (is_exclusive copy.state) 1 (omega arith)).0)

-- it lets an operation be served at this time
abbrev pub Suits : Op → ℕ → Body → Type 0
Suits op pts (body.ShRep line) = (a : ℕ) × (op ≡ Load a) × (pts ≤ line.rts)
Suits op pts (body.RenewRep rts) = (a : ℕ) × (op ≡ Load a) × (pts ≤ rts)
Suits op pts (body.ExRep line) = Unit {0}
Suits op pts (body.UpgradeRep rts) = Unit {0}
Suits op pts _ = ⊥

pub suits_replies : (op : Op) (pts : ℕ) (b : Body) → Suits op pts b → IsReply b
suits_replies op pts (body.ShRep line) s = tt
suits_replies op pts (body.RenewRep rts) s = tt
suits_replies op pts (body.ExRep line) s = tt
suits_replies op pts (body.UpgradeRep rts) s = tt
suits_replies op pts _ s = absurd s

-- a copy that may be read from for so long
pub reads : (op : Op) (pts a : ℕ) (held : LineCopy) → op ≡ Load a → pts ≤ held.rts → on_copy.serves op pts held ≡ true
reads op pts a held is le = ap (λ (p : Op). on_copy.serves p pts held) is ∙ either (is_exclusive held.state)
  where
    either : (e : Bool) → (e || leb pts held.rts) ≡ true
    either true = refl
    either false = le-leb pts held.rts le
