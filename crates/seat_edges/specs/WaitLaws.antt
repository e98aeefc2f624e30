-- A message that waits for a place in the outbox stops none that comes after it; and a full held list holds no more.
use Rattle.std.specs.Prelude.{◌≡◌, ℕ, Bool, List, ◌∷◌, length, Some, None, Result, Ok, slice_get}
use Rattle.network.specs.declared.message.TimedLine.{TimedLine}
use Rattle.network.specs.declared.message.Body.{Body}
use Rattle.network.specs.declared.message.Body.TheVariants.{FlushRep}
use Rattle.network.specs.declared.message.Message.{Message}
use Rattle.network.specs.declared.part.Reaction.TheVariants.{Held}
use Rattle.private_cache.specs.declared.line_copy.LineCopy.{LineCopy}
use Rattle.private_cache.specs.CopyTable.{copy_of}
use Rattle.core_pts.specs.CoreTable.{core_table}
use Rattle.llc_bank.specs.declared.entry.Entry.TheVariants.{Shared, Exclusive}
use Rattle.llc_bank.specs.BankTable.{bank_table, entry_of}
use Rattle.machine_table.specs.declared.event.Refusal.{Refusal}
use Rattle.inbox.specs.declared.answer.Served.{Served}
use Rattle.inbox.specs.declared.answer.Served.TheVariants.{Delivered}
use Rattle.inbox.specs.Inboxes.{InboxState, inbox}
use Rattle.mailboxes.specs.declared.sending.SendingCore.{SendingCore}
use Rattle.mailboxes.specs.declared.sending.SendingBank.{SendingBank}
use Rattle.seat_edges.specs.BankPlaceLaws.{BankServed, IsTimely, asked}
use Rattle.seat_edges.specs.PlaceLaws.{AsksBack, CoreServed, LacksPlace, LeaseFits, IsFull, IsReply, Owns}
use Rattle.seat_edges.specs.TurnLaws.{IsToBank}

-- a core that owns a line is asked for it, and the outbox is full: the message stays where it is, in the hand or first
-- among the held ones, and the reply after it is served
abbrev pub CoresServeBehind : Type 0
CoresServeBehind =
    (b c : InboxState Message) (p q : SendingCore) (result : Result Served Refusal) (m reply : Message)
    (copy : LineCopy) (others : List Message) → AsksBack m.body → Owns p.core m.line copy → LeaseFits p.core copy →
    IsFull p.outbox → IsReply (copy_of p.core.cache reply.line) reply.body → CoreServed b p result c q →
    ((b ≡ inbox (Some m) (reply ∷ others)) → (result ≡ Ok Delivered) × (c ≡ inbox (Some m) others))
    × ((b ≡ inbox None (m ∷ reply ∷ others)) → (result ≡ Ok Delivered) × (c ≡ inbox None (m ∷ others)))

-- a bank has a request of a line that no core owns, and the outbox is full: the request stays where it is, and the
-- line after it, which its owner returns, is served
abbrev pub BanksServeBehind : Type 0
BanksServeBehind =
    (b c : InboxState Message) (p q : SendingBank) (result : Result Served Refusal) (core bank line other owner : ℕ)
    (body : Body) (dirty : Bool) (timed back : TimedLine) (others : List Message) →
    IsTimely p.bank.lease timed.wts body → entry_of p.bank line ≡ Some (Shared dirty timed) →
    entry_of p.bank other ≡ Some (Exclusive owner) → IsFull p.outbox → BankServed b p result c q →
    let first = asked core bank line body in
    let behind = asked owner bank other (FlushRep back) in
    ((b ≡ inbox (Some first) (behind ∷ others)) → (result ≡ Ok Delivered) × (c ≡ inbox (Some first) others))
    × ((b ≡ inbox None (first ∷ behind ∷ others)) → (result ≡ Ok Delivered) × (c ≡ inbox None (first ∷ others)))

-- The hand is full, 256 messages are held, and all of these wait. So the one in the hand finds no place: nothing is
-- served, and nothing changes.
abbrev pub FullCoresHoldNoMore : Type 0
FullCoresHoldNoMore =
    (b c : InboxState Message) (p q : SendingCore) (result : Result Served Refusal) (m : Message) →
    b.hand ≡ Some m → length b.held ≡ 256 → core_table p.core m ≡ Some (Held, p.core) →
    ((i : ℕ) (x : Message) → slice_get b.held i ≡ Some x → core_table p.core x ≡ Some (Held, p.core)) →
    CoreServed b p result c q → LacksPlace b p result c q

abbrev pub FullBanksHoldNoMore : Type 0
FullBanksHoldNoMore =
    (b c : InboxState Message) (p q : SendingBank) (result : Result Served Refusal) (m : Message) →
    b.hand ≡ Some m → length b.held ≡ 256 → IsToBank m → bank_table p.bank m ≡ Some (Held, p.bank) →
    ((i : ℕ) (x : Message) → slice_get b.held i ≡ Some x →
    IsToBank x × (bank_table p.bank x ≡ Some (Held, p.bank))) →
    BankServed b p result c q → LacksPlace b p result c q
