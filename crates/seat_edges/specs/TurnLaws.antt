-- What turns of seats take and put, and what a message that waits for a place stops.
use Rattle.std.specs.Prelude.{◌≡◌, ℕ, ◌+◌, ◌<◌, ◌≤◌, ◌⊎◌, Bool, false, List, [], ◌∷◌, ◌++◌, length, Some, None}
use Rattle.std.specs.Prelude.{Result, Ok, Err, slice_get}
use Rattle.network.specs.declared.message.Node.TheVariants.{Bank}
use Rattle.network.specs.declared.message.TimedLine.{TimedLine}
use Rattle.network.specs.declared.message.Body.{Body}
use Rattle.network.specs.declared.message.Message.{Message}
use Rattle.network.specs.declared.part.Reaction.TheVariants.{Held}
use Rattle.private_cache.specs.declared.line_copy.LineCopy.{LineCopy}
use Rattle.core_pts.specs.CoreTable.{core_table}
use Rattle.llc_bank.specs.declared.entry.Entry.TheVariants.{Shared}
use Rattle.llc_bank.specs.BankTable.{bank_table, entry_of}
use Rattle.machine_table.specs.declared.event.Refusal.{Refusal}
use Rattle.machine_table.specs.declared.event.Refusal.TheVariants.{NetworkFull}
use Rattle.inbox.specs.Inboxes.{inbox}
use Rattle.seat_rule.specs.declared.views.SetUp.{SetUp}
use Rattle.mailboxes.specs.declared.machine.Machine.{Machine}
use Rattle.mailboxes.specs.declared.mailbox.Mailbox.{Mailbox}
use Rattle.mailboxes.specs.declared.core_seat.CoreSeat.{CoreSeat}
use Rattle.mailboxes.specs.declared.bank_seat.BankSeat.{BankSeat}
use Rattle.mailboxes.specs.declared.taken.Take.{Take}
use Rattle.mailboxes.specs.declared.taken.Take.TheVariants.{Taken}
use Rattle.mailboxes.specs.declared.turning.Turn.{Turn}
use Rattle.seat_edges.specs.BankPlaceLaws.{IsTimely, asked}
use Rattle.mailboxes.specs.BankTurns.{BankTurns}
use Rattle.mailboxes.specs.BoxMoves.{IsAt, Takes, hold}
use Rattle.mailboxes.specs.CoreTurns.{CoreTurns}
use Rattle.mailboxes.specs.Places.{AllFoundEmpty, found_full, incoming, incoming_count}
use Rattle.seat_edges.specs.PlaceLaws.{AsksBack, LeaseFits, IsFull, Owns}

-- Takes

-- the place after this one of n, going round
abbrev pub IsNextGoingRound : ℕ → ℕ → ℕ → Type 0
IsNextGoingRound count place next = ((place + 1 < count) × (next ≡ place + 1)) ⊎ ((place + 1 ≡ count) × (next ≡ 0))

-- a message was taken from the slot at this place of those that come in, and the next look begins at the place after it
pub record TakesMoveOnAt (p q : Mailbox) (place : ℕ) (m : Message) : Type 0 where
  pub within : place < incoming_count p.cores p.banks p.number
  pub taken : (hold q).taken ≡ (hold p).taken ++ (incoming p.cores p.banks p.number place, m) ∷ []
  pub hand : q.inbox.hand ≡ Some m
  pub next : IsNextGoingRound (incoming_count p.cores p.banks p.number) place q.cursor

abbrev pub TakesMoveOn : Type 0
TakesMoveOn =
    (z : SetUp) (p q : Mailbox) → Takes z Taken p q → (place : ℕ) × (m : Message) × TakesMoveOnAt p q place m

-- a take with an empty hand looks first at the slot where the next look begins
abbrev pub TakesBegin : Type 0
TakesBegin =
    (z : SetUp) (p q : Mailbox) (t : Take) → Takes z t p q → p.inbox.hand ≡ None →
    p.cursor < incoming_count p.cores p.banks p.number → (seen : ℕ) × (rest : List (ℕ × ℕ))
    × ((hold q).looks ≡ (hold p).looks ++ (incoming p.cores p.banks p.number p.cursor, seen) ∷ rest)

-- What a turn takes

-- nothing, and the next look begins where it would have
abbrev pub TookNothing : Mailbox → Mailbox → Type 0
TookNothing p q = ((hold q).taken ≡ (hold p).taken) × (q.cursor ≡ p.cursor)

-- one message
abbrev pub TookOne : Mailbox → Mailbox → Type 0
TookOne p q = (k : ℕ) × (m : Message) × ((hold q).taken ≡ (hold p).taken ++ (k, m) ∷ [])

-- nothing, as by its last looks each slot that comes in was found empty
abbrev pub FoundNothing : SetUp → Mailbox → Mailbox → Type 0
FoundNothing z p q =
    TookNothing p q
    × ((before looks : List (ℕ × ℕ)) × ((hold q).looks ≡ before ++ looks) × AllFoundEmpty z p.number looks)

-- with a full hand a turn takes nothing
abbrev pub FullCoreHandsTakeNothing : Type 0
FullCoreHandsTakeNothing =
    (m : Machine) (p q : CoreSeat) (result : Result Turn Refusal) (x : Message) → p.mail.inbox.hand ≡ Some x →
    CoreTurns m p result q → TookNothing p.mail q.mail

abbrev pub FullBankHandsTakeNothing : Type 0
FullBankHandsTakeNothing =
    (m : Machine) (p q : BankSeat) (result : Result Turn Refusal) (x : Message) → p.mail.inbox.hand ≡ Some x →
    BankTurns m p result q → TookNothing p.mail q.mail

-- the message goes to a bank, and not to DRAM
abbrev pub IsToBank : Message → Type 0
IsToBank x = (b : ℕ) × (x.to ≡ Bank b)

-- the seat isn't stopped, its hand is empty, and all its held messages wait, if there are any
pub record CoreWaits (p : CoreSeat) : Type 0 where
  pub goes_on : p.is_stopped ≡ false
  pub hand : p.mail.inbox.hand ≡ None
  pub few : length p.mail.inbox.held ≤ 256
  pub wait : (i : ℕ) (x : Message) → slice_get p.mail.inbox.held i ≡ Some x →
      core_table p.part.core x ≡ Some (Held, p.part.core)

pub record BankWaits (p : BankSeat) : Type 0 where
  pub goes_on : p.is_stopped ≡ false
  pub hand : p.mail.inbox.hand ≡ None
  pub few : length p.mail.inbox.held ≤ 256
  pub wait : (i : ℕ) (x : Message) → slice_get p.mail.inbox.held i ≡ Some x → IsToBank x ×
      (bank_table p.part.bank x ≡ Some (Held, p.part.bank))

-- then a turn takes a message, or has found that none came in
abbrev pub EmptyCoreHandsTake : Type 0
EmptyCoreHandsTake =
    (m : Machine) (p q : CoreSeat) (result : Result Turn Refusal) → CoreWaits p → CoreTurns m p result q →
    IsAt m q.mail → TookOne p.mail q.mail ⊎ FoundNothing m.set_up p.mail q.mail

abbrev pub EmptyBankHandsTake : Type 0
EmptyBankHandsTake =
    (m : Machine) (p q : BankSeat) (result : Result Turn Refusal) → BankWaits p → BankTurns m p result q →
    IsAt m q.mail → TookOne p.mail q.mail ⊎ FoundNothing m.set_up p.mail q.mail

-- What a turn puts

-- of the messages out, all were put but these: for each of them all four slots to where it goes were found full, one
-- after the other
pub record PutsFirst (p : Mailbox) (out : List Message) (q : Mailbox) : Type 0 where
  pub left : List Message
  pub before : List (ℕ × ℕ)
  pub later : List (ℕ × ℕ)
  pub looks : (hold q).looks ≡ before ++ (found_full p.cores p.banks p.number left ++ later)
  pub put : length left + length (hold q).put ≡ length out + length (hold p).put

-- the turn put this many, if it answers how many
abbrev pub CountsPut : Result Turn Refusal → Mailbox → Mailbox → Type 0
CountsPut (Ok turn) p q = length (hold p).put + turn.put ≡ length (hold q).put
CountsPut (Err refusal) p q = Unit {0}

-- so does every turn, with any hand, any held messages and any answer, and of a stopped seat, too
abbrev pub CoreTurnsPut : Type 0
CoreTurnsPut =
    (m : Machine) (p q : CoreSeat) (result : Result Turn Refusal) → CoreTurns m p result q →
    PutsFirst p.mail p.part.outbox.messages q.mail × CountsPut result p.mail q.mail

abbrev pub BankTurnsPut : Type 0
BankTurnsPut =
    (m : Machine) (p q : BankSeat) (result : Result Turn Refusal) → BankTurns m p result q →
    PutsFirst p.mail p.part.outbox.messages q.mail × CountsPut result p.mail q.mail

-- a turn that puts nothing, with an empty hand, if the only held message finds no place in the full outbox: it answers
-- NetworkFull and takes nothing
abbrev pub FullCoresTakeNothing : Type 0
FullCoresTakeNothing =
    (m : Machine) (p q : CoreSeat) (result : Result Turn Refusal) (x : Message) (copy : LineCopy) →
    p.is_stopped ≡ false → p.mail.inbox ≡ inbox None (x ∷ []) → AsksBack x.body → Owns p.part.core x.line copy →
    LeaseFits p.part.core copy → IsFull p.part.outbox → CoreTurns m p result q → (hold q.mail).put ≡ (hold p.mail).put →
    (result ≡ Err NetworkFull) × TookNothing p.mail q.mail

abbrev pub FullBanksTakeNothing : Type 0
FullBanksTakeNothing =
    (m : Machine) (p q : BankSeat) (result : Result Turn Refusal) (core bank line : ℕ) (body : Body) (dirty : Bool)
    (timed : TimedLine) → p.is_stopped ≡ false → p.mail.inbox ≡ inbox None (asked core bank line body ∷ []) →
    IsTimely p.part.bank.lease timed.wts body → entry_of p.part.bank line ≡ Some (Shared dirty timed) →
    IsFull p.part.outbox → BankTurns m p result q → (hold q.mail).put ≡ (hold p.mail).put →
    (result ≡ Err NetworkFull) × TookNothing p.mail q.mail
