-- What is known of a closed machine: of its seats, its slots and all records.
use Rattle.std.specs.Prelude.{◌≡◌, ℕ, ◌+◌, ◌/◌, ◌==◌, ◌<◌, ◌≤◌, List, length, Option, Some, None, if◌then◌else◌}
use Rattle.std.specs.Prelude.{option_to_list}
use mathlib.Core.Option.{some}
use lib.ListN.{get_elem?}
use Rattle.physiological_order.specs.declared.operation.Record.{Record}
use Rattle.physiological_order.specs.Order.{of_core}
use Rattle.network.specs.declared.message.Message.{Message}
use Rattle.private_cache.specs.CopyTable.{copy_of}
use Rattle.machine_theorem.specs.Bags.{weigh}
use Rattle.machine_theorem.specs.Coherence.{owner_in}
use Rattle.machine_theorem.specs.Consistent.{Consistent}
use Rattle.machine_theorem.specs.Ownership.{ownership_in}
use Rattle.seat_views.specs.Seated.{over}
use Rattle.seat_rule.specs.declared.views.SetUp.{SetUp}
use Rattle.seat_rule.specs.declared.views.Stage.TheVariants.{Idle}
use Rattle.seat_rule.specs.declared.views.Hold.{Hold}
use Rattle.seat_rule.specs.Rule.{Phase, free, writing, full, reading, content, seat_count, slot_count, state_of}
use Rattle.seat_rule.specs.Rule.{bag_of_hold, in_flight, MovesReach, IsPrefix, weigh_links}

-- One reached state, which is consistent: each seat has the records of its core, these are all, and they begin with
-- what any seat has seen. On each link, the messages put are those taken and those in its slots.
pub record Whole (z : SetUp) (seats : ℕ → Hold) (phases : ℕ → Phase) (log : List Record) : Type 0 where
  pub reached : MovesReach z (seat_count z) seats (in_flight (seat_count z) (slot_count z) seats phases) log
  pub consistent : Consistent z.config z.memory
      (state_of z (seat_count z) seats (in_flight (seat_count z) (slot_count z) seats phases) log)
  pub own : (j : ℕ) → of_core j log ≡ (seats j).records
  pub seen : (j : ℕ) → IsPrefix (seats j).seen log
  pub total : length log ≡ over (seat_count z) (λ j. length (seats j).records)
  pub links : (h : ℕ → Message → ℕ) →
      over (seat_count z) (λ j. weigh_links h (seats j).put) ≡
      over (seat_count z) (λ j. weigh_links h (seats j).taken)
      + over (slot_count z) (λ k. weigh (h (k / 4)) (content (phases k)))

-- how many messages of a list of slots and messages are of a link
abbrev pub on_link : ℕ → List (ℕ × Message) → ℕ
on_link link = weigh_links (λ l m. if l == link then 1 else 0)

-- on each link no message was taken more often than it was put, counted by any weight of link and message
abbrev pub NoneTakenTwice : SetUp → (ℕ → Hold) → Type 0
NoneTakenTwice z seats =
    (weight : ℕ → Message → ℕ) →
    over (seat_count z) (λ j. weigh_links weight (seats j).taken)
    ≤ over (seat_count z) (λ j. weigh_links weight (seats j).put)

-- and on each link at most four more messages were put than taken
abbrev pub FourAtMostLie : SetUp → (ℕ → Hold) → Type 0
FourAtMostLie z seats =
    (link : ℕ) →
    over (seat_count z) (λ j. on_link link (seats j).put)
    ≤ over (seat_count z) (λ j. on_link link (seats j).taken) + 4

-- what lies in a slot that no seat has taken out
abbrev pub lies : Phase → Option Message
lies free = None
lies writing = None
lies (full m) = Some m
lies (reading m) = None

-- the slot isn't out with a seat: of its messages, only the one that lies in it is in flight
abbrev pub IsNotOut : Phase → Type 0
IsNotOut phase = content phase ≡ option_to_list (lies phase)

-- the owners of a line, place by place: the Exclusive copies in the cores' caches, and the grants and returns of the
-- line among the messages of each seat and in each slot
abbrev pub owners_by_place : SetUp → (ℕ → Hold) → (ℕ → Phase) → ℕ → ℕ
owners_by_place z seats phases line =
    over z.config.cores (λ c. owner_in (copy_of (seats c).core.cache line))
    + (over (seat_count z) (λ j. weigh (ownership_in line) (bag_of_hold (seats j)))
    + over (slot_count z) (λ k. weigh (ownership_in line) (content (phases k))))

-- each hold that is known is that of the seat of its number
abbrev pub Agrees : (ℕ → Hold) → List (ℕ × Hold) → Type 0
Agrees seats known = (i : ℕ) (p : ℕ × Hold) → get_elem? known i ≡ some p → seats p.0 ≡ p.1

-- all seats are known, and none is out with a slot
abbrev pub AllIdle : SetUp → List (ℕ × Hold) → Type 0
AllIdle z known =
    (j : ℕ) → j < seat_count z →
    (i : ℕ) × (h : Hold) × (get_elem? known i ≡ some (j, h)) × (h.stage ≡ Idle)

-- There is one reached state of which every hold that is known is a part. It has as many records as were counted, and
-- if all seats are known and idle, each slot is at home, and has its message or none.
pub record Closes (z : SetUp) (known : List (ℕ × Hold)) (count : ℕ) (slots : List (Option Message)) : Type 0 where
  pub seats : ℕ → Hold
  pub phases : ℕ → Phase
  pub log : List Record
  pub whole : Whole z seats phases log
  pub counted : length log ≡ count
  pub agrees : Agrees seats known
  pub lying : AllIdle z known → (k : ℕ) → k < slot_count z → get_elem? slots k ≡ some (lies (phases k))
  pub home : AllIdle z known → (k : ℕ) → k < slot_count z → IsNotOut (phases k)
