-- What each kind of step of a seat answers: a look at a slot's word, a put, a take, a change that the seat makes by
-- itself, and a completion. There are no other steps.
use Rattle.std.specs.Prelude.{◌≡◌, ℕ, zero, suc, ◌+◌, ◌*◌, ◌⊎◌, ◌<◌, length, List, [], ◌∷◌, ◌++◌, Option, Some, None}
use Rattle.std.specs.Prelude.{remove, slice_get}
use Rattle.atomic_table.specs.Table.{Me, Step, rest}
use Rattle.physiological_order.specs.declared.operation.Op.{Op}
use Rattle.physiological_order.specs.declared.operation.Record.{Record}
use Rattle.physiological_order.specs.Order.{flat, of_core, Legal}
use Rattle.network.specs.declared.message.Message.{Message}
use Rattle.core_pts.specs.CoreTable.{CoreState}
use Rattle.machine_table.specs.Step.{record_of}
use Rattle.machine_theorem.specs.Bags.{weigh}
use Rattle.seat_views.specs.declared.views.View.{View}
use Rattle.seat_views.specs.Seated.{with_hold}
use Rattle.seat_rule.specs.declared.views.SetUp.{SetUp}
use Rattle.seat_rule.specs.declared.views.Stage.{Stage}
use Rattle.seat_rule.specs.declared.views.Stage.TheVariants.{Idle, Writing, Reading}
use Rattle.seat_rule.specs.declared.views.Hold.{Hold}
use Rattle.seat_rule.specs.Rule.{node_of, bag_of_hold, MovesReach, IsPrefix}

-- a seat's view, and the slots that are out with it
abbrev pub SeatState : Type 0
SeatState = Me (Option Message) (View Hold)

-- what the seat id holds is a part of some reached state, and it has the records of its core
unfoldable pub Standing : SetUp → ℕ → ℕ → Hold → Type 0
Standing z n id a =
    (seats : ℕ → Hold) × (xs : List Message) × (log : List Record) × (seats id ≡ a) ×
    MovesReach z n seats (bag_of_hold a ++ xs) log × (of_core id log ≡ a.records)

-- Looks

-- after a look at the word of slot k, which found r
abbrev pub looked : Hold → ℕ → ℕ → Stage → Hold
looked h k r st = record h { looks = h.looks ++ (k, r) ∷ []; stage = st }

-- a look at a link's source: an empty slot is out with the seat, which writes it; a full one stays
abbrev pub saw_out : Step (Option Message) → SeatState → ℕ → SeatState → Type 0
saw_out st m r m' =
    ((r ≡ 0) × (m'.0 ≡ with_hold m.0 (looked m.0.mine st.word 0 (Writing st.word))) ×
    (m'.1 ≡ (st.word, None) ∷ m.1))
    ⊎ ((r ≡ 1) × (m'.0 ≡ with_hold m.0 (looked m.0.mine st.word 1 Idle)) × (m'.1 ≡ m.1))

-- a look at a link's target: a full slot is out with the seat, with a message that goes to the seat's node; an empty
-- one stays
abbrev pub saw_in : SetUp → Step (Option Message) → SeatState → ℕ → SeatState → Type 0
saw_in z st m r m' =
    ((r ≡ 0) × (m'.0 ≡ with_hold m.0 (looked m.0.mine st.word 0 Idle)) × (m'.1 ≡ m.1))
    ⊎ ((r ≡ 1) ×
    ((x : Message) × (m'.0 ≡ with_hold m.0 (looked m.0.mine st.word 1 (Reading st.word x))) ×
    (m'.1 ≡ (st.word, Some x) ∷ m.1) × (x.to ≡ node_of z m.0.number)))

-- Puts and takes

-- what no put and no take changes
pub record SamePart (a b : Hold) : Type 0 where
  pub core : b.core ≡ a.core
  pub bank : b.bank ≡ a.bank
  pub dram : b.dram ≡ a.dram
  pub issued : b.issued ≡ a.issued
  pub records : b.records ≡ a.records
  pub counts : b.counts ≡ a.counts
  pub seen : b.seen ≡ a.seen

-- one of the seat's messages is put into slot k, and the seat has the others
abbrev pub HoldPuts : Hold → ℕ → Message → Hold → Type 0
HoldPuts a k m b =
    SamePart a b × (b.stage ≡ Idle) × (b.put ≡ a.put ++ (k, m) ∷ []) × (b.taken ≡ a.taken) ×
    ((f : Message → ℕ) → weigh f (bag_of_hold b) + f m ≡ weigh f (bag_of_hold a))

-- the message of slot k is taken, and the seat has it and its others
abbrev pub HoldTakes : Hold → ℕ → Message → Hold → Type 0
HoldTakes a k m b =
    SamePart a b × (b.stage ≡ Idle) × (b.put ≡ a.put) × (b.taken ≡ a.taken ++ (k, m) ∷ []) ×
    ((f : Message → ℕ) → weigh f (bag_of_hold b) ≡ weigh f (bag_of_hold a) + f m)

-- the message at index i of the outbox is put into slot k
abbrev pub put_hold : Hold → ℕ → Message → ℕ → Hold
put_hold a k m i = record a { outbox = remove a.outbox i; put = a.put ++ (k, m) ∷ []; stage = Idle }

-- the message of slot k is taken into the hand
abbrev pub take_hold : Hold → ℕ → Message → Hold
take_hold a k m = record a { hand = Some m; taken = a.taken ++ (k, m) ∷ []; stage = Idle }

-- the slot that was taken out last is given back, and the view is w
abbrev pub gave : SetUp → ℕ → View Hold → SeatState → SeatState → Type 0
gave z n w m m' = (m'.0 ≡ w) × (m'.1 ≡ rest m.1) × Standing z n w.number w.mine

-- Changes by the seat alone

-- what no such change changes
abbrev pub Serves : Hold → Hold → Type 0
Serves a b =
    (b.stage ≡ a.stage) × (b.put ≡ a.put) × (b.taken ≡ a.taken) × (b.records ≡ a.records) × (b.seen ≡ a.seen)
    × (b.looks ≡ a.looks)

-- the view is w
abbrev pub stood : SetUp → ℕ → View Hold → SeatState → SeatState → Type 0
stood z n w m m' = (m'.0 ≡ w) × (m'.1 ≡ m.1) × Standing z n w.number w.mine

-- Completions

-- the core of the seat is now this, and all records are those of the log and then this one, which is the seat's
abbrev pub complete_hold : Hold → CoreState → List Record → Record → Hold
complete_hold a core log new = record a { core = core; records = a.records ++ new ∷ []; seen = log ++ new ∷ [] }

-- the record of an operation that the seat completes with the number r
abbrev pub drawn : SeatState → Op → Option ℕ → ℕ → ℕ → Record
drawn m op received ts r = record_of m.0.number r m.0.mine.core op received ts

-- What is known of a completion that found r, and of its record:
pub record finished (z : SetUp) (n : ℕ) (core : CoreState) (op : Op) (received : Option ℕ) (ts : ℕ) (m : SeatState)
    (r : ℕ) (m' : SeatState) : Type 0 where
  -- its number counts all records before it, which begin with what the seat had seen
  pub log : List Record
  pub number : length log ≡ r
  pub begins : IsPrefix m.0.mine.seen log
  -- it is above the numbers of the seat's earlier records, and its place is the next one
  pub above : (k : ℕ) (earlier : Record) → slice_get m.0.mine.records k ≡ Some earlier → earlier.number < r
  pub place : (drawn m op received ts r).place ≡ length m.0.mine.records
  -- with it the records are legal for lists of which this seat's is what it was issued, and the seat has those of its
  -- own core
  pub legal : (issued : ℕ → List Op) × (issued m.0.number ≡ m.0.mine.issued) ×
      Legal (flat z.memory) issued (log ++ drawn m op received ts r ∷ [])
  pub own :
      of_core m.0.number (log ++ drawn m op received ts r ∷ []) ≡ m.0.mine.records ++ drawn m op received ts r ∷ []
  -- they stand by number
  pub by_number : (k : ℕ) (done : Record) → slice_get (log ++ drawn m op received ts r ∷ []) k ≡ Some done →
      done.number ≡ k
  -- the seat now holds it, and has seen all records up to it
  pub view : m'.0 ≡ with_hold m.0 (complete_hold m.0.mine core log (drawn m op received ts r))
  pub carried : m'.1 ≡ m.1
  pub standing : Standing z n m.0.number (complete_hold m.0.mine core log (drawn m op received ts r))

-- Looks in a row

-- after looks, at a stage
abbrev pub looking : Hold → List (ℕ × ℕ) → Stage → Hold
looking h xs st = record h { looks = h.looks ++ xs; stage = st }

-- the first n slots of a link were found full
abbrev pub ones : ℕ → ℕ → List (ℕ × ℕ)
ones link zero = []
ones link (suc n) = ones link n ++ (4 * link + n, 1) ∷ []
