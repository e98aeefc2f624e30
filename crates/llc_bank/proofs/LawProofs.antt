-- The laws of a bank, from what it sends and leaves.
use Rattle.std.proofs.Common.{◌≡◌, ℕ, ◌<◌, ◌≤◌, Bool, true, false, not, cond, length, Option, Some, None, refl, sym}
use Rattle.std.proofs.Common.{ap, ◌∙◌, arith}
use Rattle.network.specs.declared.message.TimedLine.{TimedLine}
use Rattle.network.specs.declared.message.Body.{Body}
use Rattle.network.specs.declared.message.Body.TheVariants.{ShReq, ExReq, ShRep, ExRep, RenewRep, UpgradeRep}
use Rattle.network.specs.declared.message.Body.TheVariants.{FlushReq, WbReq, FlushRep, WbRep, DramLd, DramLdRep}
use Rattle.network.specs.declared.message.Body.TheVariants.{DramSt, DramStRep}
use Rattle.network.specs.declared.message.Message.{Message}
use Rattle.network.specs.declared.part.Reaction.{Reaction}
use Rattle.network.specs.declared.part.Reaction.TheVariants.{Done}
use Rattle.timestamp_manager.specs.Lease.{is_version, shared_lease}
use Rattle.timestamp_manager.specs.LeaseLaws.{Covers}
use Rattle.timestamp_manager.proofs.Lemmas.{covers}
use Rattle.line_sets.specs.SetTable.{has_room}
use Rattle.llc_bank.specs.declared.entry.Entry.{Entry}
use Rattle.llc_bank.specs.declared.entry.Entry.TheVariants.{Loading, Shared, Exclusive}
use Rattle.llc_bank.specs.declared.decision.Eviction.{Eviction}
use Rattle.llc_bank.specs.declared.decision.Eviction.TheVariants.{NotThere, IsBusy, Drops, Stores, AsksBack}
use Rattle.llc_bank.specs.OnEntry.{at_bank, evicted, leased, read_answer}
use Rattle.llc_bank.specs.BankTable.{BankState, after_decision, after_eviction, core_of, decided, entry_of, set_of}
use Rattle.llc_bank.specs.BankTable.{with_changed}
use Rattle.llc_bank.specs.BankLaws.{EvictionsRaiseTime, FillsAtMemoryTime, GrantsUnownedLines, IsLeased}
use Rattle.llc_bank.specs.BankLaws.{LoadsAbsentLines, ReadersAreLeased, Sends, WordsGoToOtherVersions, carries_line}
use Rattle.llc_bank.specs.BankLaws.{lease_told, version_in}
use Rattle.llc_bank.proofs.SentMessages.{Sending, SentBy, entry-changed, entry-used, sending-at, same_reaction}
use Rattle.llc_bank.proofs.SentMessages.{sends-by}

sending :
    (bank after : BankState) (m sent : Message) → Sends bank m sent after →
    Sending bank m sent after (core_of m.from) (entry_of bank m.line)
sending bank after m sent s = sending-at bank after m sent bank.lease bank.mts
    (has_room bank.table (set_of bank m.line)) (core_of m.from) (entry_of bank m.line) m.body
    (sends-by bank after m sent s)

pub grants_unowned_lines : GrantsUnownedLines
grants_unowned_lines bank after m sent sets s g =
    let granted = (sending bank after m sent s).grant g in
    record {
      shared = granted.0;
      requester = ap (λ x. x.to) granted.1.0;
      line = ap (λ x. x.line) granted.1.0;
      owned = rw granted.1.1 (entry-used bank m.line (Exclusive (core_of m.from)) sets);
    }

pub loads_absent_lines : LoadsAbsentLines
loads_absent_lines bank after m sent s h = (sending bank after m sent s).load h

-- evictions
raised : (bank : BankState) (line : ℕ) (x : Eviction) → bank.mts ≤ (after_eviction bank line x).1.mts
raised bank line NotThere = omega arith
raised bank line IsBusy = omega arith
raised bank line (Drops rts) = omega arith
raised bank line (Stores rts words) = omega arith
raised bank line (AsksBack owner) = omega arith

lease_covered :
    (bank : BankState) (line : ℕ) (dirty : Bool) (timed : TimedLine) →
    timed.rts ≤ (after_eviction bank line (evicted (Some (Shared dirty timed)))).1.mts
lease_covered bank line true timed = omega arith
lease_covered bank line false timed = omega arith

pub evictions_raise_time : EvictionsRaiseTime
evictions_raise_time bank line = record {
  before = raised bank line (evicted (entry_of bank line));
  leased = λ dirty timed e. rw (ap (λ o. after_eviction bank line (evicted o)) e)
      (lease_covered bank line dirty timed);
}

-- what is decided of a known entry at a known message
decided-at :
    (bank : BankState) (m : Message) (entry : Option Entry) (body : Body) → entry_of bank m.line ≡ entry →
    m.body ≡ body →
    decided bank m ≡ at_bank bank.lease bank.mts (has_room bank.table (set_of bank m.line))
    (core_of m.from) entry body
decided-at bank m entry body e b =
    ap (λ x. at_bank bank.lease bank.mts (has_room bank.table (set_of bank m.line)) (core_of m.from)
    (entry_of bank m.line) x) b
    ∙ ap (λ o. at_bank bank.lease bank.mts (has_room bank.table (set_of bank m.line)) (core_of m.from) o body) e

pub fills_at_memory_time : FillsAtMemoryTime
fills_at_memory_time bank after m words reaction sets e b case =
    let filled : Entry = Shared false (record { wts = bank.mts; rts = bank.mts; words = words }) in
    let made : ◌≡◌ {A = Option (Reaction × BankState)} (Some (Done None, with_changed bank m.line filled))
    (Some (reaction, after)) =
    sym (ap (λ d. after_decision bank m d) (decided-at bank m (Some Loading) (DramLdRep words) e b)) ∙ case in
    rw (same_reaction _ _ _ _ made).1 (entry-changed bank m.line Loading filled sets e)

-- readers
told-read : (renews : Bool) (line : TimedLine) → lease_told (read_answer renews line) ≡ line.rts
told-read true line = refl
told-read false line = refl

words-read : (renews : Bool) (line : TimedLine) → carries_line (read_answer renews line) ≡ not renews
words-read true line = refl
words-read false line = refl

words-grant :
    (renews : Bool) (line : TimedLine) → carries_line (cond renews (UpgradeRep line.rts) (ExRep line)) ≡ not renews
words-grant true line = refl
words-grant false line = refl

reader-leased :
    (bank after : BankState) (m sent : Message) (pts : ℕ) (version : Option ℕ) (dirty : Bool) (line : TimedLine)
    (given : Option (ℕ × Bool)) →
    0 < length bank.table.sets → shared_lease line.wts line.rts pts version bank.lease ≡ given →
    SentBy bank m sent after (leased dirty line given) → IsLeased bank m sent after pts dirty line
reader-leased bank after m sent pts version dirty line None sets e s = absurd s
reader-leased bank after m sent pts version dirty line (Some given) sets e s =
    let told : lease_told sent.body ≡ given.0 =
    ap (λ x. lease_told x.body) s.0 ∙ told-read given.1 (record line { rts = given.0 }) in
    let covered : Covers line.wts line.rts pts bank.lease given.0 =
    covers _ _ line.wts line.rts pts bank.lease given e in
    record {
      covers = rw told covered;
      leased = rw (told, s.1) (entry-used bank m.line (Shared dirty (record line { rts = given.0 })) sets);
    }

sent-at :
    (bank after : BankState) (m sent : Message) (entry : Option Entry) (body : Body) → entry_of bank m.line ≡ entry →
    m.body ≡ body → Sends bank m sent after →
    SentBy bank m sent after (at_bank bank.lease bank.mts (has_room bank.table (set_of bank m.line))
    (core_of m.from) entry body)
sent-at bank after m sent entry body e b s = rw (← decided-at bank m entry body e b) (sends-by bank after m sent s)

pub readers_are_leased : ReadersAreLeased
readers_are_leased bank after m sent pts version dirty line sets e b s =
    reader-leased bank after m sent pts version dirty line (shared_lease line.wts line.rts pts version bank.lease)
    sets refl (sent-at bank after m sent (Some (Shared dirty line)) (ShReq pts version) e b s)

-- words
renews-at :
    (b renews : Bool) (time : ℕ) (given : ℕ × Bool) → cond b (Some (time, renews)) None ≡ Some given →
    given.1 ≡ renews
renews-at true renews time given h = cc
renews-at false renews time given h = cc

read-words :
    (bank after : BankState) (m sent : Message) (lease pts : ℕ) (version : Option ℕ) (dirty : Bool) (line : TimedLine)
    (given : Option (ℕ × Bool)) →
    shared_lease line.wts line.rts pts version lease ≡ given → SentBy bank m sent after (leased dirty line given) →
    carries_line sent.body ≡ not (is_version line.wts version)
read-words bank after m sent lease pts version dirty line None e s = absurd s
read-words bank after m sent lease pts version dirty line (Some given) e s =
    let renews : given.1 ≡ is_version line.wts version = renews-at _ _ _ given e in
    ap (λ x. carries_line x.body) s.0 ∙ words-read given.1 (record line { rts = given.0 }) ∙ ap not renews

words-at :
    (bank after : BankState) (m sent : Message) (lease mts : ℕ) (room : Bool) (core : ℕ) (version : Option ℕ)
    (dirty : Bool) (line : TimedLine) (body : Body) →
    version_in body ≡ Some version →
    SentBy bank m sent after (at_bank lease mts room core (Some (Shared dirty line)) body) →
    carries_line sent.body ≡ not (is_version line.wts version)
words-at bank after m sent lease mts room core version dirty line (ShReq pts v) h s =
    let same : v ≡ version = cc in
    read-words bank after m sent lease pts v dirty line (shared_lease line.wts line.rts pts v lease) refl s
    ∙ ap (λ x. not (is_version line.wts x)) same
words-at bank after m sent lease mts room core version dirty line (ExReq v) h s =
    let same : v ≡ version = cc in
    ap (λ x. carries_line x.body) s.0 ∙ words-grant (is_version line.wts v) line
    ∙ ap (λ x. not (is_version line.wts x)) same
words-at bank after m sent lease mts room core version dirty line (ShRep l) h s = absurd s
words-at bank after m sent lease mts room core version dirty line (ExRep l) h s = absurd s
words-at bank after m sent lease mts room core version dirty line (RenewRep rts) h s = absurd s
words-at bank after m sent lease mts room core version dirty line (UpgradeRep rts) h s = absurd s
words-at bank after m sent lease mts room core version dirty line FlushReq h s = absurd s
words-at bank after m sent lease mts room core version dirty line (WbReq rts) h s = absurd s
words-at bank after m sent lease mts room core version dirty line (FlushRep l) h s = absurd s
words-at bank after m sent lease mts room core version dirty line (WbRep l) h s = absurd s
words-at bank after m sent lease mts room core version dirty line DramLd h s = absurd s
words-at bank after m sent lease mts room core version dirty line (DramLdRep words) h s = absurd s
words-at bank after m sent lease mts room core version dirty line (DramSt words) h s = absurd s
words-at bank after m sent lease mts room core version dirty line DramStRep h s = absurd s

pub words_go_to_other_versions : WordsGoToOtherVersions
words_go_to_other_versions bank after m sent version dirty line e v s =
    words-at bank after m sent bank.lease bank.mts (has_room bank.table (set_of bank m.line)) (core_of m.from) version
    dirty line m.body v (sent-at bank after m sent (Some (Shared dirty line)) m.body e refl s)
