-- What a bank sends, by what it decides.
use Rattle.std.proofs.Common.{◌≡◌, ℕ, ◌+◌, ◌<◌, ◌/◌, Bool, true, false, cond, List, length, Option, Some, None, refl}
use Rattle.std.proofs.Common.{sym, ap, ◌∙◌}
use Rattle.std.specs.Option.{is_some}
use Rattle.network.specs.declared.message.TimedLine.{TimedLine}
use Rattle.network.specs.declared.message.Body.{Body}
use Rattle.network.specs.declared.message.Body.TheVariants.{ShReq, ExReq, ShRep, ExRep, RenewRep, UpgradeRep}
use Rattle.network.specs.declared.message.Body.TheVariants.{FlushReq, WbReq, FlushRep, WbRep, DramLd, DramLdRep}
use Rattle.network.specs.declared.message.Body.TheVariants.{DramSt, DramStRep}
use Rattle.network.specs.declared.message.Message.{Message}
use Rattle.network.specs.declared.part.Reaction.{Reaction}
use Rattle.network.specs.declared.part.Reaction.TheVariants.{Done, Dropped, Held}
use Rattle.timestamp_manager.specs.Lease.{if_fits, is_version, shared_lease}
use Rattle.line_sets.proofs.Lemmas.{look-put_same, look-put_within_same, length-put, length-put_within}
use Rattle.llc_bank.specs.declared.entry.Entry.{Entry}
use Rattle.llc_bank.specs.declared.entry.Entry.TheVariants.{Loading, Shared, Exclusive, Recalling, Storing}
use Rattle.llc_bank.specs.declared.decision.Decision.{Decision}
use Rattle.llc_bank.specs.declared.decision.Decision.TheVariants.{Waits, Loads, Recalls, Grants, Becomes, Leaves}
use Rattle.llc_bank.specs.declared.decision.Decision.TheVariants.{TooLate, NoCase}
use Rattle.llc_bank.specs.OnEntry.{asked_back, at_bank, exclusive_request, filled, given_back, leased, loaded}
use Rattle.llc_bank.specs.OnEntry.{read_answer, shared_request, stored}
use Rattle.llc_bank.specs.BankTable.{BankState, after_decision, decided, from_bank, with_used, with_changed, entry_of}
use Rattle.llc_bank.specs.BankTable.{set_of}
use Rattle.llc_bank.specs.BankLaws.{Sends, has_shared, is_grant, is_load, message_of}
use Rattle.llc_bank.proofs.Sound.{below}

-- what is sent by a decision, and what is left where a request is answered
abbrev pub SentBy : BankState → Message → Message → BankState → Decision → Type 0
SentBy bank m sent after Loads = sent.body ≡ DramLd
SentBy bank m sent after (Recalls owner b) = sent.body ≡ b
SentBy bank m sent after (Grants entry b) =
    (sent ≡ from_bank bank m.line m.from b) × (after ≡ with_used bank m.line entry)
SentBy bank m sent after Waits = ⊥
SentBy bank m sent after (Becomes entry) = ⊥
SentBy bank m sent after Leaves = ⊥
SentBy bank m sent after TooLate = ⊥
SentBy bank m sent after NoCase = ⊥

no_message :
    (reaction r : Reaction) (sent : Message) → r ≡ reaction → message_of r ≡ None → message_of reaction ≡ Some sent →
    ⊥
no_message reaction r sent e n h = let z : None ≡ Some sent = sym n ∙ ap message_of e ∙ h in cc

this_message :
    (reaction r : Reaction) (sent s : Message) → r ≡ reaction → message_of r ≡ Some s →
    message_of reaction ≡ Some sent → sent ≡ s
this_message reaction r sent s e n h = let z : Some s ≡ Some sent = sym n ∙ ap message_of e ∙ h in cc

-- what is done is one thing
pairs : (p q : Reaction × BankState) → Some p ≡ Some q → (p.0 ≡ q.0) × (q.1 ≡ p.1)
pairs p q e = let same : p ≡ q = cc in (ap (λ x. x.0) same, sym (ap (λ x. x.1) same))

pub same_reaction :
    (r reaction : Reaction) (made after : BankState) →
    ◌≡◌ {A = Option (Reaction × BankState)} (Some (r, made)) (Some (reaction, after)) →
    (r ≡ reaction) × (after ≡ made)
same_reaction r reaction made after e = pairs (r, made) (reaction, after) e

none_some :
    (bank : BankState) (m : Message) (reaction : Reaction) (after : BankState) →
    after_decision bank m TooLate ≡ Some (reaction, after) → ⊥
none_some bank m reaction after e = cc

sent-by :
    (bank after : BankState) (m sent : Message) (d : Decision) (reaction : Reaction) →
    after_decision bank m d ≡ Some (reaction, after) → message_of reaction ≡ Some sent → SentBy bank m sent after d
sent-by bank after m sent Waits reaction e h = no_message reaction Held sent (same_reaction _ _ _ _ e).0 refl h
sent-by bank after m sent Loads reaction e h =
    ap (λ x. x.body) (this_message reaction _ sent _ (same_reaction _ _ _ _ e).0 refl h)
sent-by bank after m sent (Recalls owner b) reaction e h =
    ap (λ x. x.body) (this_message reaction _ sent _ (same_reaction _ _ _ _ e).0 refl h)
sent-by bank after m sent (Grants entry b) reaction e h =
    (this_message reaction _ sent _ (same_reaction _ _ _ _ e).0 refl h, (same_reaction _ _ _ _ e).1)
sent-by bank after m sent (Becomes entry) reaction e h =
    no_message reaction (Done None) sent (same_reaction _ _ _ _ e).0 refl h
sent-by bank after m sent Leaves reaction e h =
    no_message reaction (Done None) sent (same_reaction _ _ _ _ e).0 refl h
sent-by bank after m sent TooLate reaction e h = absurd (none_some bank m reaction after e)
sent-by bank after m sent NoCase reaction e h = no_message reaction Dropped sent (same_reaction _ _ _ _ e).0 refl h

pub sends-by :
    (bank after : BankState) (m sent : Message) → Sends bank m sent after → SentBy bank m sent after (decided bank m)
sends-by bank after m sent s = sent-by bank after m sent (decided bank m) s.reaction s.case s.message

-- where a load or a grant is sent
pub record Sending (bank : BankState) (m sent : Message) (after : BankState) (core : ℕ)
    (entry : Option Entry) : Type 0 where
  pub load : is_load sent.body ≡ true → entry ≡ None
  pub grant :
      is_grant sent.body ≡ true →
      (has_shared entry ≡ true) × SentBy bank m sent after (Grants (Exclusive core) sent.body)

-- another message
other_body :
    (bank after : BankState) (m sent : Message) (core : ℕ) (entry : Option Entry) (b : Body) → sent.body ≡ b →
    is_load b ≡ false → is_grant b ≡ false → Sending bank m sent after core entry
other_body bank after m sent core entry b e l g = record {
  load = λ h. absurd (let z : false ≡ true = sym l ∙ sym (ap is_load e) ∙ h in cc);
  grant = λ h. absurd (let z : false ≡ true = sym g ∙ sym (ap is_grant e) ∙ h in cc);
}

loaded-sending :
    (bank after : BankState) (m sent : Message) (core : ℕ) (room : Bool) → SentBy bank m sent after (loaded room) →
    Sending bank m sent after core None
loaded-sending bank after m sent core true s = record {
  load = λ h. refl;
  grant = λ h. absurd (let z : false ≡ true = sym (ap is_grant s) ∙ h in cc);
}
loaded-sending bank after m sent core false s = absurd s

not_load-read : (renews : Bool) (line : TimedLine) → is_load (read_answer renews line) ≡ false
not_load-read true line = refl
not_load-read false line = refl

not_grant-read : (renews : Bool) (line : TimedLine) → is_grant (read_answer renews line) ≡ false
not_grant-read true line = refl
not_grant-read false line = refl

not_load-grant : (renews : Bool) (line : TimedLine) → is_load (cond renews (UpgradeRep line.rts) (ExRep line)) ≡ false
not_load-grant true line = refl
not_load-grant false line = refl

leased-sending :
    (bank after : BankState) (m sent : Message) (core : ℕ) (entry : Option Entry) (dirty : Bool) (line : TimedLine)
    (lease : Option (ℕ × Bool)) →
    SentBy bank m sent after (leased dirty line lease) → Sending bank m sent after core entry
leased-sending bank after m sent core entry dirty line None s = absurd s
leased-sending bank after m sent core entry dirty line (Some lease) s = other_body bank after m sent core entry _
    (ap (λ x. x.body) s.0) (not_load-read lease.1 _) (not_grant-read lease.1 _)

asked-sending :
    (bank after : BankState) (m sent : Message) (core : ℕ) (entry : Option Entry) (owner : ℕ) (until : Option ℕ) →
    SentBy bank m sent after (asked_back owner until) → Sending bank m sent after core entry
asked-sending bank after m sent core entry owner None s = absurd s
asked-sending bank after m sent core entry owner (Some until) s =
    other_body bank after m sent core entry (WbReq until) s refl refl

shared-sending :
    (bank after : BankState) (m sent : Message) (core lease : ℕ) (room : Bool) (pts : ℕ) (version : Option ℕ)
    (entry : Option Entry) →
    SentBy bank m sent after (shared_request lease room pts version entry) → Sending bank m sent after core entry
shared-sending bank after m sent core lease room pts version None s = loaded-sending bank after m sent core room s
shared-sending bank after m sent core lease room pts version (Some Loading) s = absurd s
shared-sending bank after m sent core lease room pts version (Some (Shared dirty line)) s =
    leased-sending bank after m sent core _ dirty line (shared_lease line.wts line.rts pts version lease) s
shared-sending bank after m sent core lease room pts version (Some (Exclusive owner)) s =
    asked-sending bank after m sent core _ owner (if_fits (pts + lease)) s
shared-sending bank after m sent core lease room pts version (Some (Recalling owner)) s = absurd s
shared-sending bank after m sent core lease room pts version (Some Storing) s = absurd s

exclusive-sending :
    (bank after : BankState) (m sent : Message) (core : ℕ) (room : Bool) (version : Option ℕ) (entry : Option Entry) →
    SentBy bank m sent after (exclusive_request room core version entry) → Sending bank m sent after core entry
exclusive-sending bank after m sent core room version None s = loaded-sending bank after m sent core room s
exclusive-sending bank after m sent core room version (Some Loading) s = absurd s
exclusive-sending bank after m sent core room version (Some (Shared dirty line)) s =
    let b : sent.body ≡ cond (is_version line.wts version) (UpgradeRep line.rts) (ExRep line) =
    ap (λ x. x.body) s.0 in
    record {
      load = λ h. absurd (let z : false ≡ true = sym (not_load-grant (is_version line.wts version) line)
          ∙ sym (ap is_load b) ∙ h in cc);
      grant = λ h. (refl, (s.0 ∙ ap (λ x. from_bank bank m.line m.from x) (sym b), s.1));
    }
exclusive-sending bank after m sent core room version (Some (Exclusive owner)) s =
    other_body bank after m sent core _ FlushReq s refl refl
exclusive-sending bank after m sent core room version (Some (Recalling owner)) s = absurd s
exclusive-sending bank after m sent core room version (Some Storing) s = absurd s

-- nothing is sent at a message that is no request
given-silent :
    (bank after : BankState) (m sent : Message) (line : TimedLine) (entry : Option Entry) →
    SentBy bank m sent after (given_back line entry) → ⊥
given-silent bank after m sent line None s = s
given-silent bank after m sent line (Some Loading) s = s
given-silent bank after m sent line (Some (Shared dirty kept)) s = s
given-silent bank after m sent line (Some (Exclusive owner)) s = s
given-silent bank after m sent line (Some (Recalling owner)) s = s
given-silent bank after m sent line (Some Storing) s = s

filled-silent :
    (bank after : BankState) (m sent : Message) (mts : ℕ) (words : List ℕ) (entry : Option Entry) →
    SentBy bank m sent after (filled mts words entry) → ⊥
filled-silent bank after m sent mts words None s = s
filled-silent bank after m sent mts words (Some Loading) s = s
filled-silent bank after m sent mts words (Some (Shared dirty kept)) s = s
filled-silent bank after m sent mts words (Some (Exclusive owner)) s = s
filled-silent bank after m sent mts words (Some (Recalling owner)) s = s
filled-silent bank after m sent mts words (Some Storing) s = s

stored-silent :
    (bank after : BankState) (m sent : Message) (entry : Option Entry) → SentBy bank m sent after (stored entry) → ⊥
stored-silent bank after m sent None s = s
stored-silent bank after m sent (Some Loading) s = s
stored-silent bank after m sent (Some (Shared dirty kept)) s = s
stored-silent bank after m sent (Some (Exclusive owner)) s = s
stored-silent bank after m sent (Some (Recalling owner)) s = s
stored-silent bank after m sent (Some Storing) s = s

pub sending-at :
    (bank after : BankState) (m sent : Message) (lease mts : ℕ) (room : Bool) (core : ℕ)
    (entry : Option Entry) (body : Body) →
    SentBy bank m sent after (at_bank lease mts room core entry body) → Sending bank m sent after core entry
sending-at bank after m sent lease mts room core entry (ShReq pts version) s =
    shared-sending bank after m sent core lease room pts version entry s
sending-at bank after m sent lease mts room core entry (ExReq version) s =
    exclusive-sending bank after m sent core room version entry s
sending-at bank after m sent lease mts room core entry (FlushRep line) s =
    absurd (given-silent bank after m sent line entry s)
sending-at bank after m sent lease mts room core entry (WbRep line) s =
    absurd (given-silent bank after m sent line entry s)
sending-at bank after m sent lease mts room core entry (DramLdRep words) s =
    absurd (filled-silent bank after m sent mts words entry s)
sending-at bank after m sent lease mts room core entry DramStRep s = absurd (stored-silent bank after m sent entry s)
sending-at bank after m sent lease mts room core entry (ShRep line) s = absurd s
sending-at bank after m sent lease mts room core entry (ExRep line) s = absurd s
sending-at bank after m sent lease mts room core entry (RenewRep rts) s = absurd s
sending-at bank after m sent lease mts room core entry (UpgradeRep rts) s = absurd s
sending-at bank after m sent lease mts room core entry FlushReq s = absurd s
sending-at bank after m sent lease mts room core entry (WbReq rts) s = absurd s
sending-at bank after m sent lease mts room core entry DramLd s = absurd s
sending-at bank after m sent lease mts room core entry (DramSt words) s = absurd s

-- an entry that was used or changed is the line's
pub entry-used :
    (bank : BankState) (line : ℕ) (entry : Entry) → 0 < length bank.table.sets →
    entry_of (with_used bank line entry) line ≡ Some entry
entry-used bank line entry h = rw (length-put bank.table.sets (set_of bank line) line entry)
    (look-put_same bank.table.sets (set_of bank line) line entry
    (below (line / bank.banks) (length bank.table.sets) h))

pub entry-changed :
    (bank : BankState) (line : ℕ) (old entry : Entry) → 0 < length bank.table.sets → entry_of bank line ≡ Some old →
    entry_of (with_changed bank line entry) line ≡ Some entry
entry-changed bank line old entry h there = rw (length-put_within bank.table.sets (set_of bank line) line entry)
    (look-put_within_same bank.table.sets (set_of bank line) line entry
    (below (line / bank.banks) (length bank.table.sets) h) (ap is_some there))
