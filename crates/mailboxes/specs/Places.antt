-- Where a seat is among the others: at which table, at which links, and which slots come in to it.
use Rattle.std.specs.Prelude.{◌≡◌, ℕ, zero, suc, ◌+◌, ◌-◌, ◌*◌, ◌/◌, ◌%◌, ◌<◌, ◌≤◌, ◌==◌, ◌&&◌, Bool, true}
use Rattle.std.specs.Prelude.{false, cond, not, nat_lt, nat_le, List, [], ◌∷◌, ◌++◌, map, filter, flat_map, Some}
use Rattle.std.specs.Prelude.{slice_get}
use Rattle.atomic_table.specs.Seated.{TableId}
use Rattle.network.specs.declared.message.Node.{Node}
use Rattle.network.specs.declared.message.Node.TheVariants.{Core, Bank, Dram}
use Rattle.network.specs.declared.message.Message.{Message}
use Rattle.inbox.specs.Inboxes.{InboxState}
use Rattle.seat_rule.specs.declared.views.SetUp.{SetUp}
use Rattle.seat_rule.specs.Rule.{slot_count, source, from_of, to_of, node_of}
use Rattle.seat_rule.specs.Plays.{ones}

-- the seat is of the table, which has a word for each slot, and one that counts completions
abbrev pub Belongs : TableId → TableId → SetUp → Type 0
Belongs seat table z = (seat ≡ table) × (table.words ≡ slot_count z + 1) × (table.slots ≡ slot_count z)

-- the link is one of the machine, which has few, and starts at the seat
abbrev pub StartsAt : SetUp → ℕ → ℕ → Type 0
StartsAt z link number = (4 * link + 4 ≤ slot_count z) × (slot_count z ≤ 4096) × (source z link ≡ number)

-- the slot is one of the machine, and comes in to the seat
abbrev pub EndsAt : SetUp → ℕ → ℕ → Type 0
EndsAt z slot number = (slot < slot_count z) × (to_of z slot ≡ number)

-- how far the first slots of two links are apart that come in to a seat one after the other
abbrev pub incoming_stride : ℕ → ℕ → ℕ → ℕ
incoming_stride cores banks number = 4 * cond (nat_lt number cores) cores banks

-- whether there is a link from the seat of a number to a node: cores have links to banks, and banks to cores
abbrev pub has_link_to : ℕ → ℕ → ℕ → Node → Bool
has_link_to cores banks number (Core c) = nat_le cores number && nat_lt c cores
has_link_to cores banks number (Bank b) = nat_lt number cores && nat_lt b banks
has_link_to cores banks number (Dram d) = false

-- its number: first come the links from core to bank, by core, and then those from bank to core, by bank
abbrev pub link_to : ℕ → ℕ → ℕ → Node → ℕ
link_to cores banks number (Core c) = cores * banks + ((number - cores) * cores + c)
link_to cores banks number (Bank b) = number * banks + b
link_to cores banks number (Dram d) = 0

-- the number of a node's core or bank; that of a DRAM is its bank's
abbrev pub end_of : Node → ℕ
end_of (Core c) = c
end_of (Bank b) = b
end_of (Dram b) = b

-- there is a link from the seat to where each of these messages goes
abbrev pub AllLinked : ℕ → ℕ → ℕ → List Message → Type 0
AllLinked cores banks number ms =
    (i : ℕ) (m : Message) → slice_get ms i ≡ Some m → has_link_to cores banks number m.to ≡ true

-- the node is the seat's own: its core, or its bank, or the DRAM behind that
abbrev pub is_own : ℕ → ℕ → Node → Bool
is_own cores number (Core c) = nat_lt c cores && (c == number)
is_own cores number (Bank b) = cores + b == number
is_own cores number (Dram b) = cores + b == number

-- each message that came in goes to the seat's own core, bank or DRAM
pub record AllOwn (cores number : ℕ) (b : InboxState Message) : Type 0 where
  pub hand : (m : Message) → b.hand ≡ Some m → is_own cores number m.to ≡ true
  pub held : (i : ℕ) (m : Message) → slice_get b.held i ≡ Some m → is_own cores number m.to ≡ true

-- how many slots come in to a seat: four on each link, one from each bank to a core, and one from each core to a bank
abbrev pub incoming_count : ℕ → ℕ → ℕ → ℕ
incoming_count cores banks number = 4 * cond (nat_lt number cores) banks cores

-- the link to a seat from the core or bank of this number
abbrev pub incoming_link : ℕ → ℕ → ℕ → ℕ → ℕ
incoming_link cores banks number i =
    cond (nat_lt number cores) (cores * banks + (i * cores + number)) (i * banks + (number - cores))

-- the slots that come in to a seat, in their order
abbrev pub incoming : ℕ → ℕ → ℕ → ℕ → ℕ
incoming cores banks number i = 4 * incoming_link cores banks number (i / 4) + i % 4

-- the links on which messages go, in the messages' order
abbrev pub links_of : ℕ → ℕ → ℕ → List Message → List ℕ
links_of cores banks number ms = map (λ m. link_to cores banks number m.to) ms

-- each number once, where it comes first
abbrev pub once : List ℕ → List ℕ
once [] = []
once (x ∷ xs) = x ∷ filter (λ y. not (x == y)) (once xs)

-- all four slots of each link of these messages were found full, one link after the other, and none was looked at twice
abbrev pub found_full : ℕ → ℕ → ℕ → List Message → List (ℕ × ℕ)
found_full cores banks number ms = flat_map (λ link. ones link 4) (once (links_of cores banks number ms))

-- n incoming slots from this one on, going round, were found empty
abbrev pub found_empty : ℕ → ℕ → ℕ → ℕ → ℕ → List (ℕ × ℕ)
found_empty cores banks number start zero = []
found_empty cores banks number start (suc n) =
    found_empty cores banks number start n
    ++ (incoming cores banks number ((start + n) % incoming_count cores banks number), 0) ∷ []

-- each slot that comes in to the seat of this number was found empty by one of these looks
pub record AllFoundEmpty (z : SetUp) (number : ℕ) (looks : List (ℕ × ℕ)) : Type 0 where
  pub each : (k : ℕ) → k < slot_count z → to_of z k ≡ number → (i : ℕ) × (slice_get looks i ≡ Some (k, 0))

-- for each of these messages, each slot from the seat of this number to where the message goes was found full by one of
-- these looks
pub record AllFoundFull (z : SetUp) (number : ℕ) (ms : List Message) (looks : List (ℕ × ℕ)) : Type 0 where
  pub each : (i : ℕ) (m : Message) → slice_get ms i ≡ Some m → (k : ℕ) → k < slot_count z → from_of z k ≡ number →
      m.to ≡ node_of z (to_of z k) → (j : ℕ) × (slice_get looks j ≡ Some (k, 1))
