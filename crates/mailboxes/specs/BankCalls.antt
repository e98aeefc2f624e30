-- What the calls of a bank's seat answer, and what the seat has then.
use Rattle.std.specs.Prelude.{◌≡◌, ℕ, ◌-◌, ◌≤◌, Bool, true, false, cond, List, []}
use Rattle.std.specs.Prelude.{◌∷◌, ◌++◌, length, Option, Some, None}
use Rattle.std.specs.Prelude.{Result, Ok, Err}
use Rattle.network.specs.declared.message.Node.{Node}
use Rattle.network.specs.declared.message.Body.{Body}
use Rattle.network.specs.declared.message.Body.TheVariants.{ShReq, ExReq}
use Rattle.network.specs.declared.message.Message.{Message}
use Rattle.network.specs.Search.{is_dram_store}
use Rattle.llc_bank.specs.declared.entry.Evict.{Evict}
use Rattle.llc_bank.specs.declared.entry.Evict.TheVariants as evict
use Rattle.llc_bank.specs.declared.entry.EvictError.{EvictError}
use Rattle.llc_bank.specs.declared.entry.EvictError.TheVariants as evict_error
use Rattle.llc_bank.specs.BankTable.{BankState, make_room, or_else, sent_to}
use Rattle.machine_table.specs.declared.event.Refusal.{Refusal}
use Rattle.machine_table.specs.declared.event.Refusal.TheVariants.{Busy, NoSuch, NetworkFull, Stopped}
use Rattle.inbox.specs.Inboxes.{InboxState, inbox}
use Rattle.inbox.specs.Serving.{Place, order_of, sent_list, served_of}
use Rattle.mailboxes.specs.declared.bank_seat.BankSeat.{BankSeat}
use Rattle.mailboxes.specs.declared.machine.Machine.{Machine}
use Rattle.mailboxes.specs.declared.mailbox.Mailbox.{Mailbox}
use Rattle.mailboxes.specs.BoxMoves.{IsAt, Stands, hold}
use Rattle.mailboxes.specs.Places.{AllLinked}
use Rattle.mailboxes.specs.Ties.{BankTied}
use Rattle.mailboxes.specs.declared.bank_evicting.Eviction.{Eviction}
use Rattle.mailboxes.specs.declared.bank_evicting.Eviction.TheVariants.{Evicted, Recalled}
use Rattle.mailboxes.specs.declared.sending.SendingBank.{SendingBank}
use Rattle.closed_machine.specs.Sending.{OutboxState}
use Rattle.mailboxes.specs.BankServing.{sending_bank_table}
use Rattle.mailboxes.specs.PartServing.{finds_places, posted_if, told_if}

-- the seat keeps its number, and where its next look begins
abbrev pub SameBankPlace : BankSeat → BankSeat → Type 0
SameBankPlace p q = (q.mail.number ≡ p.mail.number) × (q.mail.cursor ≡ p.mail.cursor)

-- the mailbox is that of a bank's seat, and the part is what the seat sends by and delivers messages to
abbrev pub IsBankMail : Machine → Mailbox → Type 0
IsBankMail m b = IsAt m b × (m.set_up.config.cores ≤ b.number) × Stands m b

pub record PartOf (b : Mailbox) (p : SendingBank) : Type 0 where
  pub tied : BankTied (hold b) p.bank p.dram p.outbox
  pub linked : AllLinked b.cores b.banks b.number p.outbox.messages

-- the mailbox is at the same place
abbrev pub SameMailPlace : Mailbox → Mailbox → Type 0
SameMailPlace b c =
    (c.number ≡ b.number) × (c.cores ≡ b.cores) × (c.banks ≡ b.banks) × (c.cursor ≡ b.cursor)

-- the message that would be served is a store to DRAM
abbrev pub ServesStore : InboxState Message → SendingBank → Type 0
ServesStore b p =
    (x : Place × Message) × (served_of sending_bank_table b.held p (order_of b.hand b.held) ≡ Some x)
    × (is_dram_store x.1.body ≡ true)

-- Evictions

-- a line is gone, or it is stored or recalled for that; and what is sent for that
abbrev pub became : Evict → Eviction
became evict.Clean = Evicted
became (evict.Stored store) = Evicted
became (evict.Recalled recall) = Recalled

abbrev pub sent_by_eviction : Evict → Option Message
sent_by_eviction evict.Clean = None
sent_by_eviction (evict.Stored store) = Some store
sent_by_eviction (evict.Recalled recall) = Some recall

-- whether what an eviction sends, if anything, finds its place: a recall in the outbox, and a store in the held list
abbrev pub to_post : Option Node → Option (Node × Bool)
to_post None = None
to_post (Some to) = Some (to, false)

abbrev pub eviction_fits : OutboxState → List Message → Evict → Bool
eviction_fits out held done = finds_places false out (256 - length held) (to_post (sent_to done))

-- an eviction by the bank's table, if what it sends finds its place; a stopped seat refuses
abbrev pub bank_evict_answer : Bool → OutboxState → List Message → Result Evict EvictError → Result Eviction Refusal
bank_evict_answer true out held done = Err Stopped
bank_evict_answer false out held (Err evict_error.NotHere) = Err NoSuch
bank_evict_answer false out held (Err evict_error.Busy) = Err Busy
bank_evict_answer false out held (Ok done) = cond (eviction_fits out held done) (Ok (became done)) (Err NetworkFull)

-- the part after an eviction, and the messages that came in: one to the seat itself is at the end of the held list
abbrev pub evicted_part : SendingBank → BankState → Evict → SendingBank
evicted_part p bank done = record p { bank = bank; outbox = posted_if false p.outbox (sent_by_eviction done) }

abbrev pub evicted_inbox : InboxState Message → Evict → InboxState Message
evicted_inbox b done = inbox b.hand (b.held ++ sent_list (told_if false (sent_by_eviction done)))

-- the line was evicted: the bank's table did this
abbrev pub Evicts : Result Evict EvictError × BankState → InboxState Message → SendingBank → InboxState Message →
    SendingBank → Type 0
Evicts done b p c q =
    (e : Evict) × (done.0 ≡ Ok e) × (q ≡ evicted_part p done.1 e) × (c ≡ evicted_inbox b e)

-- Room

-- a request for a copy of a line
abbrev pub is_request : Body → Bool
is_request (ShReq pts version) = true
is_request (ExReq version) = true
is_request _ = false

-- the line to evict to make room for a held message: one that is a request and waits for room has one
abbrev pub room_for : BankState → Message → Option ℕ
room_for bank m = cond (is_request m.body) (make_room bank m.line) None

-- that for the oldest one that has one
abbrev pub first_room : BankState → List Message → Option ℕ
first_room bank [] = None
first_room bank (m ∷ ms) = or_else (room_for bank m) (first_room bank ms)
