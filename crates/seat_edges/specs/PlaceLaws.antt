-- Which messages to a core, and which evictions of its copies, need a place in the outbox.
use Rattle.std.specs.Prelude.{◌≡◌, ℕ, ◌+◌, ◌<◌, ◌≤◌, ◌⊎◌, true, false, [], ◌∷◌, ◌++◌, length, Option, Some, None}
use Rattle.std.specs.Prelude.{Result, Ok, Err}
use Rattle.network.specs.declared.message.TimedLine.{TimedLine}
use Rattle.network.specs.declared.message.Body.{Body}
use Rattle.network.specs.declared.message.Body.TheVariants.{ShRep, ExRep, RenewRep, UpgradeRep}
use Rattle.network.specs.declared.message.Body.TheVariants.{FlushReq, WbReq, FlushRep}
use Rattle.network.specs.declared.message.Message.{Message}
use Rattle.private_cache.specs.declared.line_copy.LineCopy.{LineCopy}
use Rattle.private_cache.specs.declared.line_copy.CopyState.TheVariants as copy_state
use Rattle.private_cache.specs.CopyTable.{copy_of, is_pinned}
use Rattle.core_pts.specs.CoreTable.{CoreState, pinned_line, to_bank}
use Rattle.core_pts.specs.OnCopy.{words_of_copy}
use Rattle.machine_table.specs.declared.event.Refusal.{Refusal}
use Rattle.machine_table.specs.declared.event.Refusal.TheVariants.{NetworkFull}
use Rattle.inbox.specs.declared.answer.Served.{Served}
use Rattle.inbox.specs.declared.answer.Served.TheVariants.{Delivered, Dropped, Held}
use Rattle.inbox.specs.Inboxes.{InboxState, inbox}
use Rattle.mailboxes.specs.declared.sending.SendingCore.{SendingCore}
use Rattle.mailboxes.specs.CoreServing.{sending_core_table, sending_core_takes_memory}
use Rattle.mailboxes.specs.Evictions as copies
use Rattle.mailboxes.specs.SeatServing.{SeatServes}
use Rattle.closed_machine.specs.Sending.{OutboxState}

-- 256 messages are to be put
abbrev pub IsFull : OutboxState → Type 0
IsFull o = 256 ≤ length o.messages

-- the seat hasn't sent its last message
abbrev pub CanNumber : OutboxState → Type 0
CanNumber o = o.sent < 18446744073709551615

-- so a message can go out
abbrev pub HasPlace : OutboxState → Type 0
HasPlace o = (length o.messages < 256) × CanNumber o

-- the seat has this message alone, in its hand or its held list
abbrev pub IsOnly : Message → InboxState Message → Type 0
IsOnly m b = (b ≡ inbox (Some m) []) ⊎ (b ≡ inbox None (m ∷ []))

-- a core's seat that isn't stopped serves
abbrev pub CoreServed : InboxState Message → SendingCore → Result Served Refusal → InboxState Message → SendingCore →
    Type 0
CoreServed b p result c q = SeatServes sending_core_table sending_core_takes_memory false b p result c q

-- nothing is served because there is no place, and nothing changes
pub record LacksPlace {P : Type 0} (b : InboxState Message) (p : P) (result : Result Served Refusal)
    (c : InboxState Message) (q : P) : Type 0 where
  pub answer : result ≡ Err NetworkFull
  pub messages : c ≡ b
  pub part : q ≡ p

-- this is answered, these messages came in and wait, and what is to be put is as before
pub record StaysIn (result : Result Served Refusal) (before : OutboxState) (c wait : InboxState Message)
    (after : OutboxState) (served : Served) : Type 0 where
  pub answer : result ≡ Ok served
  pub messages : c ≡ wait
  pub outbox : after.messages ≡ before.messages

-- that, but one message more is to be put
pub record GoesOut (result : Result Served Refusal) (before : OutboxState) (c wait : InboxState Message)
    (after : OutboxState) (served : Served) : Type 0 where
  pub answer : result ≡ Ok served
  pub messages : c ≡ wait
  pub sent : Message
  pub outbox : after.messages ≡ before.messages ++ sent ∷ []

-- Cores

-- the open operation of the core is on the line
abbrev pub IsOpen : CoreState → ℕ → Type 0
IsOpen core line = is_pinned (pinned_line core) line ≡ true

-- there is no open operation on the line, and the core owns it; or it doesn't
abbrev pub Owns : CoreState → ℕ → LineCopy → Type 0
Owns core line copy =
    (is_pinned (pinned_line core) line ≡ false) × (copy_of core.cache line ≡ Some copy)
    × (copy.state ≡ copy_state.Exclusive)

abbrev pub Reads : CoreState → ℕ → LineCopy → Type 0
Reads core line copy =
    (is_pinned (pinned_line core) line ≡ false) × (copy_of core.cache line ≡ Some copy)
    × (copy.state ≡ copy_state.Shared)

abbrev pub HasNone : CoreState → ℕ → Type 0
HasNone core line = (is_pinned (pinned_line core) line ≡ false) × (copy_of core.cache line ≡ None)

-- the message asks for the line back, all of it, or for its words with a lease up to a time
abbrev pub AsksBack : Body → Type 0
AsksBack body = (body ≡ FlushReq) ⊎ ((until : ℕ) × (body ≡ WbReq until))

-- and the lease of the copy that would stay ends at a time that fits
abbrev pub LeaseFits : CoreState → LineCopy → Type 0
LeaseFits core copy = copy.wts + core.lease < 18446744073709551616

-- a line that its owner returns goes out
abbrev pub ReturnsWantPlace : Type 0
ReturnsWantPlace =
    (b c : InboxState Message) (p q : SendingCore) (result : Result Served Refusal) (m : Message) (copy : LineCopy) →
    IsOnly m b → AsksBack m.body → Owns p.core m.line copy → LeaseFits p.core copy → IsFull p.outbox →
    CoreServed b p result c q → LacksPlace b p result c q

abbrev pub ReturnsGoOut : Type 0
ReturnsGoOut =
    (b c : InboxState Message) (p q : SendingCore) (result : Result Served Refusal) (m : Message) (copy : LineCopy) →
    IsOnly m b → AsksBack m.body → Owns p.core m.line copy → LeaseFits p.core copy → HasPlace p.outbox →
    CoreServed b p result c q → GoesOut result p.outbox c (inbox None []) q.outbox Delivered

-- a reply that a core takes in: it brings the line, or is about the copy that is there
pub data IsReply (copy : Option LineCopy) (body : Body) : Type 0 where
  to_read : (timed : TimedLine) → body ≡ ShRep timed → IsReply copy body
  to_own : (timed : TimedLine) → body ≡ ExRep timed → IsReply copy body
  renewal : (rts : ℕ) (had : LineCopy) → body ≡ RenewRep rts → copy ≡ Some had → IsReply copy body
  grant : (rts : ℕ) (had : LineCopy) → body ≡ UpgradeRep rts → copy ≡ Some had → IsReply copy body

-- even with a full outbox: a reply is taken in, a message that asks back what the core doesn't own is dropped, and one
-- that asks back the line of the open operation waits
abbrev pub RepliesWantNone : Type 0
RepliesWantNone =
    (b c : InboxState Message) (p q : SendingCore) (result : Result Served Refusal) (m : Message) →
    IsOnly m b → IsReply (copy_of p.core.cache m.line) m.body → CoreServed b p result c q →
    StaysIn result p.outbox c (inbox None []) q.outbox Delivered

abbrev pub ReadersWantNone : Type 0
ReadersWantNone =
    (b c : InboxState Message) (p q : SendingCore) (result : Result Served Refusal) (m : Message) (copy : LineCopy) →
    IsOnly m b → AsksBack m.body → Reads p.core m.line copy → CoreServed b p result c q →
    StaysIn result p.outbox c (inbox None []) q.outbox Dropped

abbrev pub StrangersWantNone : Type 0
StrangersWantNone =
    (b c : InboxState Message) (p q : SendingCore) (result : Result Served Refusal) (m : Message) →
    IsOnly m b → AsksBack m.body → HasNone p.core m.line → CoreServed b p result c q →
    StaysIn result p.outbox c (inbox None []) q.outbox Dropped

abbrev pub OpenLinesWantNone : Type 0
OpenLinesWantNone =
    (b c : InboxState Message) (p q : SendingCore) (result : Result Served Refusal) (m : Message) →
    IsOnly m b → AsksBack m.body → IsOpen p.core m.line → CoreServed b p result c q →
    StaysIn result p.outbox c (inbox None (m ∷ [])) q.outbox Held

-- Copies that a core evicts

-- a copy that the core only reads is evicted, even with a full outbox; one that it owns is sent back
abbrev pub ReadCopiesWantNone : Type 0
ReadCopiesWantNone =
    (p : SendingCore) (line : ℕ) (copy : LineCopy) → Reads p.core line copy →
    (copies.core_evict_answer false p line ≡ Ok tt) × ((copies.evicted_by_core p line).1.outbox ≡ p.outbox)

abbrev pub OwnedCopiesWantPlace : Type 0
OwnedCopiesWantPlace =
    (p : SendingCore) (line : ℕ) (copy : LineCopy) → Owns p.core line copy → IsFull p.outbox →
    copies.core_evict_answer false p line ≡ Err NetworkFull

abbrev pub OwnedCopiesGoOut : Type 0
OwnedCopiesGoOut =
    (p : SendingCore) (line : ℕ) (copy : LineCopy) → Owns p.core line copy → HasPlace p.outbox →
    (copies.core_evict_answer false p line ≡ Ok tt)
    × ((copies.evicted_by_core p line).1.outbox.messages ≡
    p.outbox.messages ++ to_bank p.core line (FlushRep (words_of_copy copy)) ∷ [])
