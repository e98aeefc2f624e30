-- Which messages to a bank or its DRAM, and which evictions of lines, need a place in the outbox, and which need one
-- in the held list.
use Rattle.std.specs.Prelude.{◌≡◌, ℕ, ◌+◌, ◌<◌, ◌≤◌, Bool, true, false, List, [], ◌∷◌, length, Option, Some, None}
use Rattle.std.specs.Prelude.{Result, Ok, Err}
use Rattle.network.specs.declared.message.Node.{Node}
use Rattle.network.specs.declared.message.Node.TheVariants.{Core, Bank, Dram}
use Rattle.network.specs.declared.message.TimedLine.{TimedLine}
use Rattle.network.specs.declared.message.Body.{Body}
use Rattle.network.specs.declared.message.Body.TheVariants.{ShReq, ExReq, DramLd}
use Rattle.network.specs.declared.message.Message.{Message}
use Rattle.line_sets.specs.SetTable.{has_room}
use Rattle.llc_bank.specs.declared.entry.Entry.TheVariants.{Shared, Exclusive}
use Rattle.llc_bank.specs.BankTable.{BankState, entry_of, evict, set_of}
use Rattle.machine_table.specs.declared.event.Refusal.{Refusal}
use Rattle.machine_table.specs.declared.event.Refusal.TheVariants.{NetworkFull}
use Rattle.inbox.specs.declared.answer.Served.{Served}
use Rattle.inbox.specs.declared.answer.Served.TheVariants.{Delivered, Started}
use Rattle.inbox.specs.Inboxes.{InboxState, inbox}
use Rattle.mailboxes.specs.declared.bank_evicting.Eviction.TheVariants.{Evicted, Recalled}
use Rattle.mailboxes.specs.declared.sending.SendingBank.{SendingBank}
use Rattle.mailboxes.specs.BankCalls.{bank_evict_answer}
use Rattle.mailboxes.specs.BankServing.{sending_bank_table, sending_bank_takes_memory}
use Rattle.mailboxes.specs.SeatServing.{SeatServes}
use Rattle.closed_machine.specs.Sending.{OutboxState}
use Rattle.seat_edges.specs.PlaceLaws.{CanNumber, GoesOut, HasPlace, IsFull, IsOnly, LacksPlace, StaysIn}

-- a bank's seat that isn't stopped serves
abbrev pub BankServed : InboxState Message → SendingBank → Result Served Refusal → InboxState Message → SendingBank →
    Type 0
BankServed b p result c q = SeatServes sending_bank_table sending_bank_takes_memory false b p result c q

-- a core asks a bank for a line
abbrev pub asked : ℕ → ℕ → ℕ → Body → Message
asked core bank line body = record { from = Core core; to = Bank bank; line = line; body = body }

-- the bank asks its DRAM for a line
abbrev pub load : BankState → ℕ → Message
load bank line = record { from = Bank bank.number; to = Dram bank.number; line = line; body = DramLd }

-- to read it or to own it
pub data IsRequest (body : Body) : Type 0 where
  to_read : (pts : ℕ) (version : Option ℕ) → body ≡ ShReq pts version → IsRequest body
  to_own : (version : Option ℕ) → body ≡ ExReq version → IsRequest body

-- leases of the request end at times that fit
pub data IsTimely (lease : ℕ) (wts : ℕ) (body : Body) : Type 0 where
  reader : (pts : ℕ) (version : Option ℕ) → body ≡ ShReq pts version → wts + lease < 18446744073709551616 →
      pts + lease < 18446744073709551616 → IsTimely lease wts body
  writer : (version : Option ℕ) → body ≡ ExReq version → IsTimely lease wts body

-- the bank doesn't have the line, and there is room for it
abbrev pub Lacks : BankState → ℕ → Type 0
Lacks bank line = (entry_of bank line ≡ None) × (has_room bank.table (set_of bank line) ≡ true)

-- Messages to DRAM

-- a bank asks DRAM for a line that is to be loaded, even with a full outbox: that message is held, after the request
abbrev pub LoadsWantNoOutbox : Type 0
LoadsWantNoOutbox =
    (b c : InboxState Message) (p q : SendingBank) (result : Result Served Refusal) (core bank line : ℕ)
    (body : Body) → IsRequest body → IsOnly (asked core bank line body) b → Lacks p.bank line →
    CanNumber p.outbox → BankServed b p result c q →
    StaysIn result p.outbox c (inbox None (asked core bank line body ∷ load p.bank line ∷ [])) q.outbox Started

-- without two places in the held list, one for the request and one for the message to DRAM, the request stays in the
-- hand
abbrev pub LoadsWantTwoHeld : Type 0
LoadsWantTwoHeld =
    (b c : InboxState Message) (p q : SendingBank) (result : Result Served Refusal) (core bank line : ℕ)
    (body : Body) → IsRequest body → b.hand ≡ Some (asked core bank line body) → 255 ≤ length b.held →
    Lacks p.bank line → BankServed b p result c q → c.hand ≡ b.hand

-- DRAM answers a load, even with a full outbox: the answer is held
abbrev pub DramAnswersWantNoOutbox : Type 0
DramAnswersWantNoOutbox =
    (b c : InboxState Message) (p q : SendingBank) (result : Result Served Refusal) (from : Node) (bank line : ℕ) →
    IsOnly (record { from = Bank bank; to = Dram bank; line = line; body = DramLd }) b → CanNumber p.outbox →
    BankServed b p result c q →
    (answer : Message) × (answer.to ≡ Bank bank)
    × StaysIn result p.outbox c (inbox None (answer ∷ [])) q.outbox Delivered

-- Messages to cores

-- a line that no core owns is granted or leased by a message that goes out
abbrev pub GrantsWantPlace : Type 0
GrantsWantPlace =
    (b c : InboxState Message) (p q : SendingBank) (result : Result Served Refusal) (core bank line : ℕ)
    (body : Body) (dirty : Bool) (timed : TimedLine) → IsTimely p.bank.lease timed.wts body →
    IsOnly (asked core bank line body) b → entry_of p.bank line ≡ Some (Shared dirty timed) → IsFull p.outbox →
    BankServed b p result c q → LacksPlace b p result c q

-- but they need no place in the held list
abbrev pub GrantsWantNoHeld : Type 0
GrantsWantNoHeld =
    (b c : InboxState Message) (p q : SendingBank) (result : Result Served Refusal) (core bank line : ℕ)
    (body : Body) (dirty : Bool) (timed : TimedLine) → IsTimely p.bank.lease timed.wts body →
    b.hand ≡ Some (asked core bank line body) → entry_of p.bank line ≡ Some (Shared dirty timed) →
    HasPlace p.outbox → BankServed b p result c q →
    GoesOut result p.outbox c (inbox None b.held) q.outbox Delivered

-- an owner is asked for its line by a message that goes out; the request waits
abbrev pub RecallsWantPlace : Type 0
RecallsWantPlace =
    (b c : InboxState Message) (p q : SendingBank) (result : Result Served Refusal) (core bank line owner : ℕ)
    (body : Body) → IsTimely p.bank.lease 0 body → IsOnly (asked core bank line body) b →
    entry_of p.bank line ≡ Some (Exclusive owner) → IsFull p.outbox → BankServed b p result c q →
    LacksPlace b p result c q

abbrev pub RecallsGoOut : Type 0
RecallsGoOut =
    (b c : InboxState Message) (p q : SendingBank) (result : Result Served Refusal) (core bank line owner : ℕ)
    (body : Body) → IsTimely p.bank.lease 0 body → IsOnly (asked core bank line body) b →
    entry_of p.bank line ≡ Some (Exclusive owner) → HasPlace p.outbox → BankServed b p result c q →
    GoesOut result p.outbox c (inbox None (asked core bank line body ∷ [])) q.outbox Started

-- Lines that a bank evicts, with this outbox and these held messages

-- a clean line leaves, with any outbox and any held messages
abbrev pub CleanLinesWantNone : Type 0
CleanLinesWantNone =
    (bank : BankState) (out : OutboxState) (held : List Message) (line : ℕ) (timed : TimedLine) →
    entry_of bank line ≡ Some (Shared false timed) → bank_evict_answer false out held (evict bank line).0 ≡ Ok Evicted

-- a dirty one is stored by a held message, even with a full outbox
abbrev pub DirtyLinesWantHeld : Type 0
DirtyLinesWantHeld =
    (bank : BankState) (out : OutboxState) (held : List Message) (line : ℕ) (timed : TimedLine) →
    entry_of bank line ≡ Some (Shared true timed) → 256 ≤ length held →
    bank_evict_answer false out held (evict bank line).0 ≡ Err NetworkFull

abbrev pub DirtyLinesWantNoOutbox : Type 0
DirtyLinesWantNoOutbox =
    (bank : BankState) (out : OutboxState) (held : List Message) (line : ℕ) (timed : TimedLine) →
    entry_of bank line ≡ Some (Shared true timed) → length held < 256 → CanNumber out →
    bank_evict_answer false out held (evict bank line).0 ≡ Ok Evicted

-- the bank asks for an owned line back by a message that goes out, with any held messages
abbrev pub OwnedLinesWantPlace : Type 0
OwnedLinesWantPlace =
    (bank : BankState) (out : OutboxState) (held : List Message) (line owner : ℕ) →
    entry_of bank line ≡ Some (Exclusive owner) → IsFull out →
    bank_evict_answer false out held (evict bank line).0 ≡ Err NetworkFull

abbrev pub OwnedLinesWantNoHeld : Type 0
OwnedLinesWantNoHeld =
    (bank : BankState) (out : OutboxState) (held : List Message) (line owner : ℕ) →
    entry_of bank line ≡ Some (Exclusive owner) → HasPlace out →
    bank_evict_answer false out held (evict bank line).0 ≡ Ok Recalled
