-- What the calls of a mailbox change.
use Rattle.std.specs.Prelude.{◌≡◌, ℕ, ◌+◌, ◌*◌, ◌%◌, ◌<◌, Bool, true, false, List, [], ◌∷◌, ◌++◌, take}
use Rattle.std.specs.Prelude.{Some, None, slice_get, remove, ◌==◌}
use Rattle.std.specs.List.{list_any}
use Rattle.network.specs.declared.message.Message.{Message}
use Rattle.seat_rule.specs.declared.views.Hold.{Hold}
use Rattle.seat_rule.specs.Rule.{node_of, seat_count}
use Rattle.seat_rule.specs.declared.views.Stage.TheVariants.{Idle, Reading}
use Rattle.seat_rule.specs.Plays.{SamePart, SeatState, Standing, looking, ones}
use Rattle.seat_views.specs.Seated.{with_hold}
use Rattle.mailboxes.specs.declared.machine.Machine.{Machine}
use Rattle.mailboxes.specs.declared.mailbox.Mailbox.{Mailbox}
use Rattle.seat_rule.specs.declared.views.SetUp.{SetUp}
use Rattle.mailboxes.specs.declared.taken.Take.{Take}
use Rattle.mailboxes.specs.declared.taken.Take.TheVariants.{Taken, Nothing, HandFull}
use Rattle.mailboxes.specs.Places.{link_to, links_of, incoming, incoming_count, found_full, found_empty}

-- what the proofs know of the seat
abbrev pub hold : Mailbox → Hold
hold p = p.seat.me.0.mine

-- the seat is one of the machine's
abbrev pub IsAt : Machine → Mailbox → Type 0
IsAt m p =
    (p.seat.table_id ≡ m.table.shared.table_id) × (p.number < m.set_up.config.cores + m.set_up.config.banks)
    × (p.cores ≡ m.set_up.config.cores) × (p.banks ≡ m.set_up.config.banks)

-- what the seat holds is a part of a reached state
abbrev pub Stands : Machine → Mailbox → Type 0
Stands m p = Standing m.set_up (seat_count m.set_up) p.number (hold p)

-- the seat stays that of its number and machine, and its part, operations, records and counts stay
pub record Stays (p q : Mailbox) : Type 0 where
  pub table : q.seat.table_id ≡ p.seat.table_id
  pub number : q.number ≡ p.number
  pub cores : q.cores ≡ p.cores
  pub banks : q.banks ≡ p.banks
  pub part : SamePart (hold p) (hold q)

-- what comes in stays: the hand, the held list, the messages that were taken, and the cursor
pub record SameIncoming (p q : Mailbox) : Type 0 where
  pub hand : q.inbox.hand ≡ p.inbox.hand
  pub held : q.inbox.held ≡ p.inbox.held
  pub taken : (hold q).taken ≡ (hold p).taken
  pub cursor : q.cursor ≡ p.cursor

-- what goes out stays: the outbox and the messages that were put; and so does the held list
pub record SameOutgoing (p q : Mailbox) : Type 0 where
  pub outbox : (hold q).outbox ≡ (hold p).outbox
  pub held : q.inbox.held ≡ p.inbox.held
  pub put : (hold q).put ≡ (hold p).put

-- the message m at i of the outbox was put into the s-th slot of this link, once and unchanged: the slots before were
-- found full, and this one empty. Before, these looks were made
abbrev pub PutInto : ℕ → List (ℕ × ℕ) → ℕ → ℕ → Message → Mailbox → List Message → Mailbox → List Message → Type 0
PutInto link looks i s m p out q left =
    (s < 4) × (slice_get out i ≡ Some m) × (left ≡ remove out i)
    × ((hold q).put ≡ (hold p).put ++ (4 * link + s, m) ∷ [])
    × ((hold q).looks ≡ (hold p).looks ++ (looks ++ (ones link s ++ (4 * link + s, 0) ∷ [])))
    × SameIncoming p q

-- nothing was put, after these looks
abbrev pub PutNothing : List (ℕ × ℕ) → Mailbox → List Message → Mailbox → List Message → Type 0
PutNothing looks p out q left =
    ((hold q).looks ≡ (hold p).looks ++ looks) × (left ≡ out) × ((hold q).put ≡ (hold p).put) × SameIncoming p q

-- the message at i was put into a slot of the link, or all four were found full
abbrev pub PutAt : ℕ → ℕ → Bool → Mailbox → List Message → Mailbox → List Message → Type 0
PutAt link i true p out q left = (s : ℕ) × (m : Message) × PutInto link [] i s m p out q left
PutAt link i false p out q left = PutNothing (ones link 4) p out q left

-- the oldest message of the outbox whose link has a free slot was put there: the slots of the links of all older ones
-- were found full, and its own link is none of theirs. So messages of one link go out in their order. Or nothing was
-- put, and the slots of the links of all messages were found full. No slot was looked at twice
abbrev pub Puts : Bool → Mailbox → List Message → Mailbox → List Message → Type 0
Puts true p out q left =
    (i : ℕ) × (s : ℕ) × (m : Message) × PutInto (link_to p.cores p.banks p.number m.to)
    (found_full p.cores p.banks p.number (take i out)) i s m p out q left
    × (list_any (λ l. l == link_to p.cores p.banks p.number m.to)
    (links_of p.cores p.banks p.number (take i out)) ≡ false)
Puts false p out q left = PutNothing (found_full p.cores p.banks p.number out) p out q left

-- the message m of this slot is in the hand: the slot was found full. Before, these looks were made
abbrev pub TakenFrom : SetUp → List (ℕ × ℕ) → ℕ → Message → Mailbox → Mailbox → Type 0
TakenFrom z looks k m p q =
    (q.inbox.hand ≡ Some m) × (m.to ≡ node_of z p.number) × ((hold q).taken ≡ (hold p).taken ++ (k, m) ∷ [])
    × ((hold q).looks ≡ (hold p).looks ++ (looks ++ (k, 1) ∷ [])) × SameOutgoing p q

-- nothing was taken, after these looks
abbrev pub TakenNothing : List (ℕ × ℕ) → Mailbox → Mailbox → Type 0
TakenNothing looks p q =
    ((hold q).looks ≡ (hold p).looks ++ looks) × (q.inbox.hand ≡ p.inbox.hand) × ((hold q).taken ≡ (hold p).taken)
    × (q.cursor ≡ p.cursor) × SameOutgoing p q

-- of this many slots that come in, from a place on and going round, f.0 is the first that was found full: the k before
-- it were empty. Its message is out with the seat, and f.1 is the place after it
abbrev pub FindsFull : SetUp → ℕ → ℕ → ℕ → ℕ × ℕ → SeatState → SeatState → Type 0
FindsFull z number start slots f s t =
    let cores = z.config.cores in
    let banks = z.config.banks in
    let place = λ (k : ℕ). (start + k) % incoming_count cores banks number in
    (k : ℕ) × (m : Message) × (k < slots) × (f.0 ≡ incoming cores banks number (place k))
    × (f.1 ≡ (place k + 1) % incoming_count cores banks number) × (m.to ≡ node_of z number)
    × (t ≡ (
      with_hold s.0 (looking s.0.mine (found_empty cores banks number start k ++ (f.0, 1) ∷ []) (Reading f.0 m)),
      (f.0, Some m) ∷ [],
    ))

-- all of them were found empty
abbrev pub FindsNone : SetUp → ℕ → ℕ → ℕ → SeatState → SeatState → Type 0
FindsNone z number start slots s t =
    t ≡ (
      with_hold s.0
          (looking s.0.mine (found_empty z.config.cores z.config.banks number start slots) Idle),
      [],
    )

-- with an empty hand, the first slot that comes in and was found full was emptied into the hand, from the cursor on and
-- going round; the cursor is now after it. Or all slots that come in were found empty. A full hand stays, and nothing
-- was looked at
abbrev pub Takes : SetUp → Take → Mailbox → Mailbox → Type 0
Takes z Taken p q =
    let count = incoming_count p.cores p.banks p.number in
    (p.inbox.hand ≡ None) × ((n : ℕ) × (m : Message) × (n < count)
    × TakenFrom z (found_empty p.cores p.banks p.number p.cursor n)
    (incoming p.cores p.banks p.number ((p.cursor + n) % count)) m p q
    × (q.cursor ≡ ((p.cursor + n) % count + 1) % count))
Takes z Nothing p q =
    (p.inbox.hand ≡ None)
    × TakenNothing (found_empty p.cores p.banks p.number p.cursor (incoming_count p.cores p.banks p.number)) p q
Takes z HandFull p q = ((m : Message) × (p.inbox.hand ≡ Some m)) × (hold q ≡ hold p) × (q.cursor ≡ p.cursor)
