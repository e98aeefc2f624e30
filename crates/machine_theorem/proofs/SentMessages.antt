-- What parts send as they get messages, and as lines leave: no request, and a lease only to a reader that asks, for as
-- long as it asks or longer.
use Rattle.std.proofs.Common.{◌≡◌, ℕ, ◌+◌, ◌≤◌, Bool, true, false, cond, List, Option, Some, None, Ok, refl, nat_cmp}
use Rattle.std.proofs.Common.{rules}
use Rattle.std.specs.FinMap.{FinMap}
use Rattle.std.proofs.lemmas.Bool.{cond_both}
use Rattle.network.specs.declared.message.Body.{Body}
use Rattle.network.specs.declared.message.Body.TheVariants as body
use Rattle.network.specs.declared.message.Message.{Message}
use Rattle.network.specs.declared.message.Node.{Node}
use Rattle.network.specs.declared.message.TimedLine.{TimedLine}
use Rattle.timestamp_manager.specs.Lease.{if_fits, is_version, returned_lease, shared_lease}
use Rattle.timestamp_manager.proofs.Lemmas.{covers}
use Rattle.private_cache.specs.declared.line_copy.LineCopy.{LineCopy}
use Rattle.private_cache.specs.CopyTable as cache
use Rattle.private_cache.specs.CopyTable.{copy_of, is_pinned}
use Rattle.line_sets.specs.SetTable.{has_room}
use Rattle.core_pts.specs.declared.decision.CoreReaction.{CoreReaction}
use Rattle.core_pts.specs.declared.decision.CoreReaction.TheVariants.{Returns, Drops as CoreDrops}
use Rattle.core_pts.specs.OnCopy as on_copy
use Rattle.core_pts.specs.OnCopy.{is_exclusive}
use Rattle.core_pts.specs.CoreTable as core_table
use Rattle.core_pts.specs.CoreTable.{CoreState, pinned_line, to_bank}
use Rattle.llc_bank.specs.declared.decision.Decision.{Decision}
use Rattle.llc_bank.specs.declared.decision.Decision.TheVariants.{Waits, Loads}
use Rattle.llc_bank.specs.declared.entry.Entry.{Entry}
use Rattle.llc_bank.specs.declared.entry.Entry.TheVariants as entry
use Rattle.llc_bank.specs.OnEntry as on_entry
use Rattle.llc_bank.specs.BankTable as bank_table
use Rattle.llc_bank.specs.BankTable.{BankState, core_of, entry_of}
use Rattle.dram_mts.specs.Table.{dram_case}
use Rattle.machine_table.specs.Step as step
use Rattle.machine_table.specs.Step.{Step, copy_evicted, entry_evicted, reacted}

abbrev pub AsksFor : Body → ℕ → Type 0
AsksFor (body.ShReq pts version) time = pts ≤ time
AsksFor _ time = ⊥

-- a lease up to this time, in answer to a message
abbrev pub Leases : Option Message → Node → ℕ → Type 0
Leases None to time = ⊥
Leases (Some x) to time = (to ≡ x.from) × AsksFor x.body time

abbrev pub SentAs : Option Message → Node → Body → Type 0
SentAs asked to (body.ShReq pts version) = ⊥
SentAs asked to (body.ExReq version) = ⊥
SentAs asked to (body.ShRep line) = Leases asked to line.rts
SentAs asked to (body.RenewRep rts) = Leases asked to rts
SentAs asked to _ = Unit {0}

abbrev pub Sends : {S : Type 0} → Option Message → Step S → Type 0
Sends asked (step.Makes why consumes (Some q) part) = SentAs asked q.to q.body
Sends asked _ = Unit {0}

-- a core that gets a message, and one whose copy leaves
module _ (core : CoreState) (line : ℕ) (asked : Option Message) where
  abbrev Reacts : CoreReaction → Type 0
  Reacts r = Sends asked (reacted (core_table.after_reaction core line r))

  core_sends : (b : Body) (pin : Bool) (o : Option LineCopy) → Reacts (on_copy.at_core core.lease pin o b)
  core_sends (body.ShRep y) pin o = tt
  core_sends (body.ExRep y) pin o = tt
  core_sends (body.RenewRep rts) pin None = tt
  core_sends (body.RenewRep rts) pin (Some copy) = tt
  core_sends (body.UpgradeRep rts) pin None = tt
  core_sends (body.UpgradeRep rts) pin (Some copy) = tt
  core_sends body.FlushReq true o = tt
  core_sends body.FlushReq false None = tt
  core_sends body.FlushReq false (Some copy) = cond_both (is_exclusive copy.state)
      (Returns None (body.FlushRep (on_copy.words_of_copy copy))) CoreDrops Reacts (λ ex. tt) (λ sh. tt)
  core_sends (body.WbReq until) true o = tt
  core_sends (body.WbReq until) false None = tt
  core_sends (body.WbReq until) false (Some copy) = cond_both (is_exclusive copy.state)
      (on_copy.returned copy (returned_lease copy.wts copy.rts until core.lease)) CoreDrops Reacts
      (λ ex. go (returned_lease copy.wts copy.rts until core.lease)) (λ sh. tt)
    where
      go : (rts : Option ℕ) → Reacts (on_copy.returned copy rts)
      go None = tt
      go (Some rts) = tt
  core_sends _ pin o = tt

pub core_gets : (core : CoreState) (x : Message) → Sends (Some x) (reacted (core_table.core_table core x))
core_gets core x =
    core_sends core x.line (Some x) x.body (is_pinned (pinned_line core) x.line) (copy_of core.cache x.line)

pub copy_leaves : (core : CoreState) (line : ℕ) → Sends None (copy_evicted (core_table.evict core line))
copy_leaves core line = go (copy_of core.cache line)
  where
    sends : (copy : LineCopy) (b : Bool) → Sends {S = CoreState} None (copy_evicted (
      Ok (cond b (Some (to_bank core line (body.FlushRep (on_copy.words_of_copy copy)))) None),
      record core { cache = cache.without_copy core.cache line },
    ))
    sends copy true = tt
    sends copy false = tt

    go : (o : Option LineCopy) → Sends None (copy_evicted (core_table.sent_back core line
        (cache.evicted core.cache line (pinned_line core) o)))
    go None = tt
    go (Some copy) = cond_both (is_pinned (pinned_line core) line) _ _
        (λ r. Sends None (copy_evicted (core_table.sent_back core line r))) (λ pinned. tt)
        (λ off. sends copy (is_exclusive copy.state))

-- a bank that gets a message
module _ (bank : BankState) (x : Message) (lease mts core : ℕ) (room : Bool) where
  abbrev Decides : Decision → Type 0
  Decides d = Sends (Some x) (reacted (bank_table.after_decision bank x d))

  loads : Decides (on_entry.loaded room)
  loads = cond_both room Loads Waits Decides (λ e. tt) (λ e. tt)

  leases : (dirty : Bool) (line : TimedLine) (pts : ℕ) (version : Option ℕ) → x.body ≡ body.ShReq pts version →
      (o : Option (ℕ × Bool)) → shared_lease line.wts line.rts pts version lease ≡ o →
      Decides (on_entry.leased dirty line o)
  leases dirty line pts version is None e = tt
  leases dirty line pts version is (Some l) e = search (rules, covers)

  asks_back : (owner : ℕ) (o : Option ℕ) → Decides (on_entry.asked_back owner o)
  asks_back owner None = tt
  asks_back owner (Some until) = tt

  to_read : (pts : ℕ) (version : Option ℕ) → x.body ≡ body.ShReq pts version → (o : Option Entry) →
      Decides (on_entry.shared_request lease room pts version o)
  to_read pts version is None = loads
  to_read pts version is (Some (entry.Shared dirty line)) = leases dirty line pts version is _ refl
  to_read pts version is (Some (entry.Exclusive owner)) = asks_back owner (if_fits (pts + lease))
  to_read pts version is (Some _) = tt

  to_own : (version : Option ℕ) (o : Option Entry) → Decides (on_entry.exclusive_request room core version o)
  to_own version None = loads
  to_own version (Some (entry.Shared dirty line)) = cond_both (is_version line.wts version)
      (body.UpgradeRep line.rts) (body.ExRep line) (SentAs (Some x) x.from) (λ e. tt) (λ e. tt)
  to_own version _ = tt

  gives : (line : TimedLine) (o : Option Entry) → Decides (on_entry.given_back line o)
  gives line (Some (entry.Exclusive owner)) = tt
  gives line _ = tt

  fills : (words : List ℕ) (o : Option Entry) → Decides (on_entry.filled mts words o)
  fills words (Some entry.Loading) = tt
  fills words _ = tt

  stores : (o : Option Entry) → Decides (on_entry.stored o)
  stores (Some entry.Storing) = tt
  stores _ = tt

  bank_sends : (b : Body) → x.body ≡ b → (o : Option Entry) → Decides (on_entry.at_bank lease mts room core o b)
  bank_sends (body.ShReq pts version) is o = to_read pts version is o
  bank_sends (body.ExReq version) is o = to_own version o
  bank_sends (body.FlushRep line) is o = gives line o
  bank_sends (body.WbRep line) is o = gives line o
  bank_sends (body.DramLdRep words) is o = fills words o
  bank_sends body.DramStRep is o = stores o
  bank_sends _ is o = tt

pub bank_gets : (bank : BankState) (x : Message) → Sends (Some x) (reacted (bank_table.bank_table bank x))
bank_gets bank x = bank_sends bank x bank.lease bank.mts (core_of x.from)
    (has_room bank.table (bank_table.set_of bank x.line)) x.body refl (entry_of bank x.line)

pub line_leaves : (bank : BankState) (line : ℕ) → Sends None (entry_evicted (bank_table.evict bank line))
line_leaves bank line = go (entry_of bank line)
  where
    go : (o : Option Entry) → Sends None (entry_evicted (bank_table.after_eviction bank line (on_entry.evicted o)))
    go None = tt
    go (Some (entry.Shared false y)) = tt
    go (Some (entry.Shared true y)) = tt
    go (Some (entry.Exclusive owner)) = tt
    go (Some _) = tt

pub dram_gets : (lines : FinMap nat_cmp (List ℕ)) (x : Message) (b : Body) →
    Sends (Some x) (reacted (dram_case lines x b))
dram_gets lines x body.DramLd = tt
dram_gets lines x _ = tt
