-- The rule that the seats of a shared machine keep: what seats hold and what lies in slots is together one reached
-- state. A machine has a seat for each core and each bank, and links between them; it is a table of words and slots.
use Rattle.std.specs.Prelude.{◌≡◌, ℕ, zero, suc, ◌+◌, ◌-◌, ◌*◌, ◌/◌, ◌%◌, ◌<◌, ◌^◌, false, cond, ltb, List, []}
use Rattle.std.specs.Prelude.{◌∷◌, ◌++◌, length, Option, Some, None, option_to_list, slice_index_or}
use Rattle.std.specs.FinMap.{empty, entries}
use mathlib.Core.Option.{some}
use mathlib.Core.Option as maybe
use lib.ListN.{get_elem?}
use Rattle.atomic_table.specs.Table.{State}
use Rattle.physiological_order.specs.declared.operation.Record.{Record}
use Rattle.physiological_order.specs.Order.{of_core}
use Rattle.network.specs.declared.message.Node.{Node}
use Rattle.network.specs.declared.message.Node.TheVariants.{Core, Bank}
use Rattle.network.specs.declared.message.Message.{Message}
use Rattle.network.specs.declared.counts.Counts.{Counts}
use Rattle.network.specs.Mail.{no_mail}
use Rattle.machine_table.specs.Opening.{dram_of, open_bank, open_core}
use Rattle.machine_theorem.specs.Bags.{weigh}
use Rattle.machine_theorem.specs.States as moves
use Rattle.machine_theorem.specs.Moves.{Reached}
use Rattle.seat_views.specs.declared.views.View.{View}
use Rattle.seat_views.specs.Seated.{over, with_value_at, Shown}
use Rattle.seat_rule.specs.declared.views.SetUp.{SetUp}
use Rattle.seat_rule.specs.declared.views.Stage.{Stage}
use Rattle.seat_rule.specs.declared.views.Stage.TheVariants.{Idle, Writing, Reading}
use Rattle.seat_rule.specs.declared.views.Hold.{Hold}

-- Seats, links and slots

-- a seat for each core, and then one for each bank
abbrev pub seat_count : SetUp → ℕ
seat_count z = z.config.cores + z.config.banks

-- A link goes from a core to a bank, or from a bank to a core: first come those from cores. A link has four slots,
-- those of link l are 4 * l to 4 * l + 3, and each has a word of its own number: 0 if it is empty, 1 if it is full. One
-- more word, the last, counts completions.
abbrev pub slot_count : SetUp → ℕ
slot_count z = 8 * z.config.cores * z.config.banks

-- the seats at the two ends of a link
unfoldable pub source : SetUp → ℕ → ℕ
source z l =
    cond (ltb l (z.config.cores * z.config.banks)) (l / z.config.banks)
    (z.config.cores + (l - z.config.cores * z.config.banks) / z.config.cores)

unfoldable pub target : SetUp → ℕ → ℕ
target z l =
    cond (ltb l (z.config.cores * z.config.banks)) (z.config.cores + l % z.config.banks)
    ((l - z.config.cores * z.config.banks) % z.config.cores)

-- the seats at the two ends of a slot's link
abbrev pub from_of : SetUp → ℕ → ℕ
from_of z k = source z (k / 4)

abbrev pub to_of : SetUp → ℕ → ℕ
to_of z k = target z (k / 4)

-- the node of a seat
unfoldable pub node_of : SetUp → ℕ → Node
node_of z j = cond (ltb j z.config.cores) (Core j) (Bank (j - z.config.cores))

-- A slot

-- a slot is empty, out with the seat that writes it, full, or out with the seat that reads its message
pub data Phase : Type 0 where
  free : Phase
  writing : Phase
  full : Message → Phase
  reading : Message → Phase

-- the message that a slot has: it is in flight until its reader has given the slot back
abbrev pub content : Phase → List Message
content free = []
content writing = []
content (full m) = m ∷ []
content (reading m) = m ∷ []

-- the slots that are at home, each with its value
abbrev pub Homes : Type 0
Homes = List (maybe.Option (Option Message))

-- a slot's word is 1 exactly when it has a message, and at home it has its message or none
abbrev pub InPhase : ℕ → Homes → ℕ → Phase → Type 0
InPhase word homes k free = (word ≡ 0) × (get_elem? homes k ≡ some (some None))
InPhase word homes k writing = word ≡ 0
InPhase word homes k (full m) = (word ≡ 1) × (get_elem? homes k ≡ some (some (Some m)))
InPhase word homes k (reading m) = word ≡ 1

-- a seat that is out is out with a slot of a link at whose end it is: it writes at the source, and reads at the target
abbrev pub At : (ℕ → ℕ) → (ℕ → ℕ) → ℕ → (ℕ → Phase) → ℕ → Stage → Type 0
At from to slots phases j Idle = Unit {0}
At from to slots phases j (Writing k) = (k < slots) × (from k ≡ j) × (phases k ≡ writing)
At from to slots phases j (Reading k m) = (k < slots) × (to k ≡ j) × (phases k ≡ reading m)

-- a slot that is out is out with the seat at its end
abbrev pub Busy : (ℕ → ℕ) → (ℕ → ℕ) → (ℕ → Stage) → ℕ → Phase → Type 0
Busy from to stages k free = Unit {0}
Busy from to stages k writing = stages (from k) ≡ Writing k
Busy from to stages k (full m) = Unit {0}
Busy from to stages k (reading m) = stages (to k) ≡ Reading k m

-- a message in a slot goes to the node at the end of the slot's link
abbrev pub Addressed : (ℕ → Node) → ℕ → Phase → Type 0
Addressed goes k free = Unit {0}
Addressed goes k writing = Unit {0}
Addressed goes k (full m) = m.to ≡ goes k
Addressed goes k (reading m) = m.to ≡ goes k

-- A seat

-- the messages of a seat, all in flight
abbrev pub bag_of_hold : Hold → List Message
bag_of_hold h = h.outbox ++ (option_to_list h.hand ++ h.held)

-- nothing was counted
abbrev pub no_counts : Counts
no_counts = no_mail.counts

-- what the seat of a number holds as the machine opens
abbrev pub opening_hold : SetUp → ℕ → Hold
opening_hold z j = record {
  core = open_core z.config j;
  bank = open_bank z.config (j - z.config.cores);
  dram = dram_of z.config (j - z.config.cores) (entries z.memory);
  issued = [];
  records = [];
  counts = no_counts;
  outbox = [];
  hand = None;
  held = [];
  put = [];
  taken = [];
  looks = [];
  seen = [];
  stage = Idle;
}

-- a set-up, and with it what is left of a seat that was joined to another: any constants
abbrev pub no_set_up : SetUp
no_set_up = record {
  config = record {
    cores = 1;
    banks = 1;
    sets = 1;
    ways = 1;
    bank_sets = 1;
    bank_ways = 1;
    line_words = 1;
    lease = 1;
    messages = 1;
    opening_time = 0;
    private_write = false;
  };
  memory = empty;
}

abbrev pub no_hold : Hold
no_hold = opening_hold no_set_up 0

-- The whole

-- the lists f 0 to f (n - 1), one after the other
abbrev pub gather : ℕ → (ℕ → List Message) → List Message
gather zero f = []
gather (suc n) f = f n ++ gather n f

-- what n seats count together
abbrev pub counts_of : ℕ → (ℕ → Counts) → Counts
counts_of n f = record {
  renewals = over n (λ j. (f j).renewals);
  upgrades = over n (λ j. (f j).upgrades);
  flushes = over n (λ j. (f j).flushes);
  write_backs = over n (λ j. (f j).write_backs);
}

-- the state that seats make, with these messages in flight and these records
abbrev pub state_of : SetUp → ℕ → (ℕ → Hold) → List Message → List Record → moves.State
state_of z n seats bag log = record {
  cores = λ c. (seats c).core;
  banks = λ b. (seats (z.config.cores + b)).bank;
  drams = λ b. (seats (z.config.cores + b)).dram;
  bag = bag;
  issued = λ c. (seats c).issued;
  records = log;
  counts = counts_of n (λ j. (seats j).counts);
}

-- moves reach this state from the opening
abbrev pub MovesReach : SetUp → ℕ → (ℕ → Hold) → List Message → List Record → Type 0
MovesReach z n seats bag log = Reached z.config z.memory (state_of z n seats bag log)

-- all messages in flight: those of the seats, and those in slots
abbrev pub in_flight : ℕ → ℕ → (ℕ → Hold) → (ℕ → Phase) → List Message
in_flight n slots seats phases = gather n (λ j. bag_of_hold (seats j)) ++ gather slots (λ k. content (phases k))

-- the one list is a beginning of the other
abbrev pub IsPrefix : List Record → List Record → Type 0
IsPrefix xs ys = (rest : List Record) × (ys ≡ xs ++ rest)

-- what messages weigh that were put or taken, each with its slot: the weight is of the slot's link and the message
abbrev pub weigh_links : (ℕ → Message → ℕ) → List (ℕ × Message) → ℕ
weigh_links h [] = 0
weigh_links h (x ∷ xs) = h (x.0 / 4) x.1 + weigh_links h xs

-- n seats, and slots from seats to seats
pub record RuleIsKept (z : SetUp) (n : ℕ) (from to : ℕ → ℕ) (slots : ℕ) (s : State (Option Message) (View Hold)) :
    Type 0 where
  -- what each seat holds, made or not, where each slot stands, and all records by number
  pub seats : ℕ → Hold
  pub phases : ℕ → Phase
  pub log : List Record
  -- each seat's view is of what it holds
  pub shown : Shown (opening_hold z) n s.views seats
  -- a word for each slot, and one that counts the records
  pub wide : length s.words ≡ slots + 1
  pub homes : length s.homes ≡ slots
  pub count : slice_index_or s.words slots 0 ≡ length log
  -- slots and seats that are out agree, and messages in slots are on their way
  pub each_slot : (k : ℕ) → k < slots → InPhase (slice_index_or s.words k 0) s.homes k (phases k)
  pub each_seat : (j : ℕ) → At from to slots phases j (seats j).stage
  pub busy : (k : ℕ) → k < slots → Busy from to (λ j. (seats j).stage) k (phases k)
  pub addressed : (k : ℕ) → k < slots → Addressed (λ i. node_of z (to i)) k (phases k)
  -- on each link, what was put is what was taken and what its slots have: no message is lost, doubled or changed
  pub links : (h : ℕ → Message → ℕ) →
      over n (λ j. weigh_links h (seats j).put) ≡
      over n (λ j. weigh_links h (seats j).taken) + over slots (λ k. weigh (h (k / 4)) (content (phases k)))
  -- all parts, all messages and all records are one reached state
  pub reached : MovesReach z n seats (in_flight n slots seats phases) log
  -- what a seat has seen is a beginning of the records; each seat has the records of its core, and they are all
  pub seen : (j : ℕ) → IsPrefix (seats j).seen log
  pub total : length log ≡ over n (λ j. length (seats j).records)
  pub bounded : (j : ℕ) → length (seats j).records < 2 ^ 32
  pub own : (j : ℕ) → of_core j log ≡ (seats j).records

-- the rule of a machine with this set-up
abbrev pub Holds : SetUp → State (Option Message) (View Hold) → Type 0
Holds z = RuleIsKept z (seat_count z) (from_of z) (to_of z) (slot_count z)

-- one seat may hold b in place of a: with any other messages, and for all that the other seats hold, moves lead from
-- the state before to the state afterwards
abbrev pub Changes : SetUp → ℕ → ℕ → Hold → Hold → Type 0
Changes z n id a b =
    (seats : ℕ → Hold) (xs : List Message) (log : List Record) → seats id ≡ a →
    MovesReach z n seats (bag_of_hold a ++ xs) log → MovesReach z n (with_value_at seats id b) (bag_of_hold b ++ xs) log
