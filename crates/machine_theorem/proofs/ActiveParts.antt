-- Which messages, attempts and evictions a part always does something with.
use Rattle.std.proofs.Common.{◌≡◌, Bool, true, false, length, Option, subst, arith, is_some, option_map, nat_cmp, rules}
use Rattle.std.proofs.Common.{ℕ, ◌+◌, ◌<◌, cond, eqb, List, [], ◌∷◌, ◌≤◌, Some, None, inl, inr, ◌⊎◌, refl, sym, ap, ◌∙◌}
use Rattle.std.specs.List as list
use Rattle.std.specs.List.{list_all}
use Rattle.std.specs.FinMap.{FinMap}
use Rattle.std.proofs.lemmas.Bool.Decides.{nat_tests}
use Rattle.std.proofs.lemmas.Bool.{and_parts, cond-true, cond-false, eqb-true, eq-eqb}
use Rattle.physiological_order.specs.declared.operation.Op.{Op}
use Rattle.physiological_order.specs.declared.operation.Op.TheVariants.{Load}
use Rattle.network.specs.declared.message.Body.{Body}
use Rattle.network.specs.declared.message.Body.TheVariants as body
use Rattle.network.specs.declared.message.Message.{Message}
use Rattle.network.specs.declared.message.Node.{Node}
use Rattle.network.specs.declared.message.TimedLine.{TimedLine}
use Rattle.timestamp_manager.specs.Lease.{returned_lease, shared_lease, if_fits}
use Rattle.line_sets.specs.Order.{find, is_there, IsDistinct}
use Rattle.private_cache.specs.declared.line_copy.LineCopy.{LineCopy}
use Rattle.private_cache.specs.CopyTable as cache
use Rattle.private_cache.specs.CopyTable.{copy_of, is_pinned, place_for}
use Rattle.core_pts.specs.declared.decision.CoreReaction.TheVariants.{Returns, Drops}
use Rattle.core_pts.specs.declared.attempt.Attempt.{Attempt}
use Rattle.core_pts.specs.declared.attempt.Attempt.TheVariants as attempt
use Rattle.core_pts.specs.OnCopy as on_copy
use Rattle.core_pts.specs.OnCopy.{at_core, is_exclusive}
use Rattle.core_pts.specs.CoreTable as core_table
use Rattle.core_pts.specs.CoreTable.{CoreState, comes_to_core, is_shared_copy}
use Rattle.llc_bank.specs.declared.entry.Entry.{Entry}
use Rattle.llc_bank.specs.declared.entry.Entry.TheVariants as entry
use Rattle.llc_bank.specs.OnEntry as on_entry
use Rattle.llc_bank.specs.OnEntry.{at_bank}
use Rattle.llc_bank.specs.Settled.{is_settled, is_shared}
use Rattle.llc_bank.specs.BankTable as bank_table
use Rattle.llc_bank.specs.BankTable.{BankState, comes_to_bank, core_of}
use Rattle.dram_mts.specs.Table.{dram_case, comes_to_dram}
use Rattle.machine_table.specs.declared.event.Answer.TheVariants.{Held}
use Rattle.machine_table.specs.Step.{Keeps, attempted, copy_evicted, entry_evicted, reacted}
use Rattle.machine_theorem.specs.Rounds.{IsRequest}
use Rattle.protocol.specs.Machine as by_line
use Rattle.protocol.specs.Recalls.{recall_to}
use Rattle.machine_theorem.specs.View.{body_seen, message_seen, set_up, view}
use Rattle.machine_theorem.proofs.Deliveries.{and_right, counts_if}
use Rattle.machine_theorem.proofs.RoundEvents.{IsActive, IsTrying}
use Rattle.machine_table.specs.declared.config.Config.{Config}
use Rattle.machine_theorem.specs.States.{State}
use Rattle.machine_theorem.specs.Kept.{IsKept}

-- a bank's recall of a line
abbrev pub IsRecall : Body → Type 0
IsRecall body.FlushReq = Unit {0}
IsRecall (body.WbReq until) = Unit {0}
IsRecall _ = ⊥

-- what requests, or recalls, don't weigh
pub no_request : (w : by_line.Message → ℕ) → ((c pts : ℕ) (version : Option ℕ) → w (by_line.ShReq c pts version) ≡ 0) →
    ((c : ℕ) (version : Option ℕ) → w (by_line.ExReq c version) ≡ 0) → (x : Message) → IsRequest x.body →
    w (message_seen x) ≡ 0
no_request w sh ex x is = go x.body is
  where
    go : (b : Body) → IsRequest b → w (body_seen (core_of x.from) (core_of x.to) b) ≡ 0
    go (body.ShReq pts version) is = sh (core_of x.from) pts version
    go (body.ExReq version) is = ex (core_of x.from) version
    go _ is = absurd is

pub no_recall : (w : by_line.Message → ℕ) → ((c : ℕ) → w (by_line.FlushReq c) ≡ 0) →
    ((c until : ℕ) → w (by_line.WbReq c until) ≡ 0) → (x : Message) → IsRecall x.body → w (message_seen x) ≡ 0
no_recall w flush wb x is = go x.body is
  where
    go : (b : Body) → IsRecall b → w (body_seen (core_of x.from) (core_of x.to) b) ≡ 0
    go body.FlushReq is = flush (core_of x.to)
    go (body.WbReq until) is = wb (core_of x.to) until
    go _ is = absurd is

pub recall_weighs : (b : Body) → IsRecall b → (from to d : ℕ) → recall_to d (body_seen from to b) ≡ cond (eqb to d) 1 0
recall_weighs body.FlushReq is from to d = refl
recall_weighs (body.WbReq until) is from to d = refl
recall_weighs _ is from to d = absurd is

-- a core holds what is pinned on the line of its open operation
pub pinned_op : (core : CoreState) (line : ℕ) → is_pinned (core_table.pinned_line core) line ≡ true →
    (op : Op) × (core.open_op ≡ Some op) × (core_table.line_of core op ≡ line)
pinned_op core line pinned = go core.open_op refl
  where
    go : (o : Option Op) → core.open_op ≡ o → (op : Op) × (core.open_op ≡ Some op) × (core_table.line_of core op ≡ line)
    go None opens = grind arith
    go (Some op) opens = (
      op,
      opens,
      eqb-true (core_table.line_of core op) line
          (sym (ap (λ (i : Option Op). is_pinned (option_map (core_table.line_of core) i) line) opens) ∙ pinned),
    )

pub pinned_here : (config : Config) (opening : FinMap nat_cmp ℕ) (a : State) → IsKept config opening a → (c l : ℕ) →
    is_pinned (core_table.pinned_line (a.cores c)) l ≡ true →
    by_line.IsPinned (set_up config opening) (view config a).cores l c
pinned_here config opening a s c l pinned = grind (arith, pinned_op (a.cores c) l pinned)

-- the core that is asked to return a line
pub recalled_core : (x : Message) → IsRecall x.body → (d : ℕ) → 1 ≤ recall_to d (message_seen x) → core_of x.to ≡ d
recalled_core x is d some = eqb-true (core_of x.to) d (counts_if (eqb (core_of x.to) d) 1
    (subst (λ (i : ℕ). 1 ≤ i) (recall_weighs x.body is (core_of x.from) (core_of x.to) d) some)).0

module _ (more : Bool) (core : CoreState) (line : ℕ) where
  changes : (change : LineCopy → LineCopy) (o : Option LineCopy) → is_shared_copy o ≡ true →
      IsActive more (reacted (core_table.after_reaction core line (on_copy.with_copy change o)))
  changes change None is = absurd (cc)
  changes change (Some copy) is = tt

  flushes : (o : Option LineCopy) → IsActive more (reacted (core_table.after_reaction core line (on_copy.flushed o)))
  flushes None = tt
  flushes (Some copy) = go (is_exclusive copy.state)
    where
      go : (b : Bool) → IsActive more (reacted (core_table.after_reaction core line
          (cond b (Returns None (body.FlushRep (on_copy.words_of_copy copy))) Drops)))
      go true = tt
      go false = tt

  writes_back : (until : ℕ) (o : Option LineCopy) →
      IsActive more (reacted (core_table.after_reaction core line (on_copy.written_back core.lease until o)))
  writes_back until None = tt
  writes_back until (Some copy) = go (is_exclusive copy.state) (returned_lease copy.wts copy.rts until core.lease)
    where
      go : (b : Bool) (rts : Option ℕ) →
          IsActive more (reacted (core_table.after_reaction core line (cond b (on_copy.returned copy rts) Drops)))
      go true None = tt
      go true (Some rts) = tt
      go false rts = tt

  -- a message to a core, unless it is a recall of the line of the open operation
  pub core_active : (b : Body) (pinned : Bool) → comes_to_core core line b ≡ true →
      IsActive more (reacted (core_table.after_reaction core line
      (at_core core.lease pinned (copy_of core.cache line) b)))
      ⊎ (IsRecall b × (pinned ≡ true))
  core_active (body.ShRep y) pinned comes = inl tt
  core_active (body.ExRep y) pinned comes = inl tt
  core_active (body.RenewRep rts) pinned comes =
      inl (changes (cache.renewed rts) (copy_of core.cache line) (and_right (core_table.waits_for core line) _ comes))
  core_active (body.UpgradeRep rts) pinned comes =
      inl (changes (cache.upgraded rts) (copy_of core.cache line) (and_right (core_table.waits_for core line) _ comes))
  core_active body.FlushReq true comes = inr (tt, refl)
  core_active body.FlushReq false comes = inl (flushes (copy_of core.cache line))
  core_active (body.WbReq until) true comes = inr (tt, refl)
  core_active (body.WbReq until) false comes = inl (writes_back until (copy_of core.cache line))
  core_active _ pinned comes = absurd (cc)

module _ (core : CoreState) (line : ℕ) where
  -- a copy that is there and not of the open operation's line leaves
  pub copy_active : (pinned : Option ℕ) (o : Option LineCopy) → is_some o ≡ true → is_pinned pinned line ≡ false →
      IsActive true (copy_evicted (core_table.sent_back core line (cache.evicted core.cache line pinned o)))
  copy_active pinned None there off = absurd (cc)
  copy_active pinned (Some copy) there off = grind arith

module _ (core : CoreState) (op : Op) where
  -- a copy that serves the operation completes it, if its time fits
  pub served_tries : (more : Bool) (held : LineCopy) (ts : Option ℕ) →
      IsTrying more (attempted core op (core_table.completed_at core op held ts))
  served_tries more held None = tt
  served_tries more held (Some ts) = tt

  pub needs : (version : Option ℕ) (p : Op) → IsTrying true (attempted core op
      (Some (core_table.need core.pts p version), core))
  needs version (Load a) = tt
  needs version _ = tt

  -- a core whose request isn't out completes its operation or asks, where a copy finds a place
  pub quiet_tries : core.is_out ≡ false → (o : Option LineCopy) →
      (o ≡ None → place_for core.cache (core_table.line_of core op) ≡ true) →
      IsTrying true (attempted core op (core_table.attempt_on core op o))
  quiet_tries quiet None place = search (rules, cond-false, cond-true, needs)
  quiet_tries quiet (Some held) place = go (on_copy.serves op core.pts held)
    where
      go : (b : Bool) → IsTrying true (attempted core op (cond b
          (core_table.completed_at core op held (on_copy.time_of core.private_write core.pts op held))
          (Some (core_table.attempt_unserved core op held.wts), core)))
      go true = served_tries true held (on_copy.time_of core.private_write core.pts op held)
      go false = subst (λ (t : Attempt). IsTrying true (attempted core op (Some t, core)))
          (sym (cond-false core.is_out attempt.Waiting _ quiet)) (needs (Some held.wts) op)

module _ (bank : BankState) (x : Message) (lease mts core : ℕ) (room : Bool) where
  abbrev Reacts : Bool → Option Entry → Body → Type 0
  Reacts more e b = IsActive more (reacted (bank_table.after_decision bank x (at_bank lease mts room core e b)))

  -- a message to a bank that is no request
  pub bank_active : (more : Bool) (from : Node) (b : Body) (e : Option Entry) → comes_to_bank from b e ≡ true →
      Reacts more e b ⊎ IsRequest b
  bank_active more from (body.ShReq pts version) e comes = inr tt
  bank_active more from (body.ExReq version) e comes = inr tt
  bank_active more from (body.FlushRep line) (Some (entry.Exclusive o)) comes = inl tt
  bank_active more from (body.FlushRep line) (Some (entry.Recalling o)) comes = inl tt
  bank_active more from (body.WbRep line) (Some (entry.Exclusive o)) comes = inl tt
  bank_active more from (body.WbRep line) (Some (entry.Recalling o)) comes = inl tt
  bank_active more from (body.DramLdRep words) (Some entry.Loading) comes = inl tt
  bank_active more from body.DramStRep (Some entry.Storing) comes = inl tt
  bank_active more from _ _ comes = absurd (cc)

  leases : (dirty : Bool) (line : TimedLine) (o : Option (ℕ × Bool)) →
      IsActive true (reacted (bank_table.after_decision bank x (on_entry.leased dirty line o)))
  leases dirty line None = tt
  leases dirty line (Some lease) = tt

  asks_back : (owner : ℕ) (until : Option ℕ) →
      IsActive true (reacted (bank_table.after_decision bank x (on_entry.asked_back owner until)))
  asks_back owner None = tt
  asks_back owner (Some until) = tt

  -- a request for a line that the bank has, if nothing is under way for it
  pub request_active : (b : Body) → IsRequest b → (e : Entry) → is_settled e ≡ true → Reacts true (Some e) b
  request_active (body.ShReq pts version) is (entry.Shared dirty line) settled =
      leases dirty line (shared_lease line.wts line.rts pts version lease)
  request_active (body.ShReq pts version) is (entry.Exclusive owner) settled = asks_back owner (if_fits (pts + lease))
  request_active (body.ExReq version) is (entry.Shared dirty line) settled = tt
  request_active (body.ExReq version) is (entry.Exclusive owner) settled = tt
  request_active (body.ShReq pts version) is _ settled = absurd (cc)
  request_active (body.ExReq version) is _ settled = absurd (cc)
  request_active _ is e settled = absurd is

-- a request for a line that the bank doesn't have: it is loaded, or held
pub load_active : (bank : BankState) (x : Message) (lease mts core : ℕ) (b : Body) → IsRequest b →
    IsActive true (reacted (bank_table.after_decision bank x (at_bank lease mts true core None b)))
load_active bank x lease mts core (body.ShReq pts version) is = tt
load_active bank x lease mts core (body.ExReq version) is = tt
load_active bank x lease mts core _ is = absurd is

pub held_without : (bank : BankState) (x : Message) (lease mts core : ℕ) (b : Body) → IsRequest b →
    reacted (bank_table.after_decision bank x (at_bank lease mts false core None b)) ≡ Keeps Held
held_without bank x lease mts core (body.ShReq pts version) is = refl
held_without bank x lease mts core (body.ExReq version) is = refl
held_without bank x lease mts core _ is = absurd is

-- a line leaves, or is recalled, if nothing is under way for it
pub entry_active : (bank : BankState) (line : ℕ) (e : Entry) → is_settled e ≡ true →
    IsActive true (entry_evicted (bank_table.after_eviction bank line (on_entry.evicted (Some e))))
entry_active bank line (entry.Shared true y) settled = tt
entry_active bank line (entry.Shared false y) settled = tt
entry_active bank line (entry.Exclusive owner) settled = tt
entry_active bank line _ settled = absurd (cc)

pub dram_active : (more : Bool) (lines : FinMap nat_cmp (List ℕ)) (x : Message) (b : Body) → comes_to_dram b ≡ true →
    IsActive more (reacted (dram_case lines x b))
dram_active more lines x body.DramLd comes = tt
dram_active more lines x (body.DramSt words) comes = tt
dram_active more lines x _ comes = absurd (cc)

-- what is so of each line of a set that is found there is so of all of its entries, or something else is
module _ {X : Type 0} (passes : X → Bool) (Else : Type 0) where
  here : (p : ℕ × X) (ps : List (ℕ × X)) → find (p ∷ ps) p.0 ≡ Some p.1
  here p ps = cond-true (eqb p.0 p.0) (Some p.1) (find ps p.0) (eq-eqb p.0 p.0 refl)

  behind : (p : ℕ × X) (ps : List (ℕ × X)) → is_there ps p.0 ≡ false → (h : ℕ) (x : X) → find ps h ≡ Some x →
      find (p ∷ ps) h ≡ Some x
  behind p ps apart h x is = grind (arith, nat_tests)

  pub all_pass : (ps : List (ℕ × X)) → IsDistinct ps →
      ((h : ℕ) (x : X) → find ps h ≡ Some x → Else ⊎ (passes x ≡ true)) →
      Else ⊎ (list_all (λ p. passes p.1) ps ≡ true)
  all_pass [] distinct each = inr refl
  all_pass (p ∷ ps) distinct each =
      grind (arith, all_pass ps distinct.1 (λ h x is. each h x (behind p ps distinct.0 h x is)), here p ps)

-- the line that is chosen to make room is one of the set
chosen_in : (test : Entry → Bool) (ps : List (ℕ × Entry)) (v : ℕ) → bank_table.first_of test ps ≡ Some v →
    is_there ps v ≡ true
chosen_in test [] v is = absurd (cc)
chosen_in test (p ∷ ps) v is = go (test p.1) (chosen_in test ps v) is
  where
    later : (b : Bool) → is_there ps v ≡ true → is_some (cond b (Some p.1) (find ps v)) ≡ true
    later true there = refl
    later false there = there

    go : (b : Bool) → (bank_table.first_of test ps ≡ Some v → is_there ps v ≡ true) →
        option_map (λ e. e.0) (cond b (Some p) (list.find (λ e. test e.1) ps)) ≡ Some v → is_there (p ∷ ps) v ≡ true
    go true rest e = cc (cond-true (eqb p.0 p.0) (Some p.1) (find ps p.0) (eq-eqb p.0 p.0 refl))
    go false rest e = later (eqb p.0 v) (rest e)

pub chosen_there : (ps : List (ℕ × Entry)) → 0 < length ps → bank_table.all_settled ps ≡ true →
    (v : ℕ) × (bank_table.chosen ps ≡ Some v) × (is_there ps v ≡ true)
chosen_there [] some settled = absurd (omega arith)
chosen_there (p ∷ ps) some settled = go (bank_table.first_of is_shared (p ∷ ps)) refl
  where
    first : bank_table.first_of is_settled (p ∷ ps) ≡ Some p.0
    first = ap (option_map (λ (e : ℕ × Entry). e.0)) (cond-true (is_settled p.1) (Some p)
        (list.find (λ e. is_settled e.1) ps) (and_parts (is_settled p.1) _ settled).0)

    go : (o : Option ℕ) → bank_table.first_of is_shared (p ∷ ps) ≡ o →
        (v : ℕ) × (bank_table.or_else o (bank_table.first_of is_settled (p ∷ ps)) ≡ Some v)
        × (is_there (p ∷ ps) v ≡ true)
    go None e = (p.0, first, chosen_in is_settled (p ∷ ps) p.0 first)
    go (Some v) e = (v, refl, chosen_in is_shared (p ∷ ps) v e)
