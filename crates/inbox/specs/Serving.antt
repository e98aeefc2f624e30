-- In which order a seat serves its messages, and where they are afterwards.
use Rattle.std.specs.Prelude.{◌≡◌, ℕ, ◌+◌, ◌-◌, ◌||◌, ◌⊎◌, Bool, true, false, not, cond, nat_eq, IsTrue}
use Rattle.std.specs.Prelude.{List, [], ◌∷◌, ◌++◌, length, remove, slice_get, Option, Some, None, Result}
use Rattle.std.specs.Prelude.{Ok, Err}
use Rattle.std.specs.List.{find, list_any}
use Rattle.inbox.specs.declared.answer.Answer.{Answer}
use Rattle.inbox.specs.declared.answer.Answer.TheVariants.{Delivered, Dropped, Started, Held, Refused}
use Rattle.inbox.specs.declared.answer.Refusal.{Refusal}
use Rattle.inbox.specs.declared.answer.Refusal.TheVariants.{Full, NoMemory, Exhausted}
use Rattle.inbox.specs.declared.answer.Served.{Served}
use Rattle.inbox.specs.declared.answer.Served.TheVariants as served
use Rattle.inbox.specs.Inboxes.{InboxState, inbox}

-- where a message lies: in the hand, or at an index of the held list
pub data Place : Type 0 where
  in_hand : Place
  held_at : ℕ → Place

-- whether nothing was done because there was no place
abbrev pub lacks_place : Refusal → Bool
lacks_place Full = true
lacks_place NoMemory = false
lacks_place Exhausted = false

module _ {T : Type 0} where
  -- a message that is sent to the held list, if there is one
  abbrev pub sent_list : Option T → List T
  sent_list None = []
  sent_list (Some m) = m ∷ []

  -- The order of serving: the message in the hand comes first, and then the held messages, the oldest first.
  abbrev pub held_from : ℕ → List T → List (Place × T)
  held_from i [] = []
  held_from i (m ∷ ms) = (held_at i, m) ∷ held_from (i + 1) ms

  abbrev pub order_of : Option T → List T → List (Place × T)
  order_of None held = held_from 0 held
  order_of (Some m) held = (in_hand, m) ∷ held_from 0 held

  -- for how many messages the held list has places, of 256, if this one leaves its own
  abbrev pub places : List T → Place → ℕ
  places held in_hand = 256 - length held
  places held (held_at i) = 257 - length held

  -- how many places an answer takes, the message's own among them
  abbrev pub needs : Answer T → ℕ
  needs (Delivered sent) = length (sent_list sent)
  needs Dropped = 0
  needs (Started sent) = 1 + length (sent_list sent)
  needs Held = 1
  needs (Refused r) = 0

  -- a message that is to be held is refused, if there is no place for it
  abbrev pub fitted : ℕ → Answer T → Answer T
  fitted n (Delivered sent) = Delivered sent
  fitted n Dropped = Dropped
  fitted n (Started sent) = Started sent
  fitted n Held = cond (nat_eq n 0) (Refused Full) Held
  fitted n (Refused r) = Refused r

  -- The serving goes on past a message that finds no place, and past a held one that stays held.
  abbrev pub finds_no_place : Answer T → Bool
  finds_no_place (Delivered sent) = false
  finds_no_place Dropped = false
  finds_no_place (Started sent) = false
  finds_no_place Held = false
  finds_no_place (Refused r) = lacks_place r

  abbrev pub stays_held : Answer T → Bool
  stays_held (Delivered sent) = false
  stays_held Dropped = false
  stays_held (Started sent) = false
  stays_held Held = true
  stays_held (Refused r) = false

  abbrev pub is_passed : Place → Answer T → Bool
  is_passed in_hand answer = finds_no_place answer
  is_passed (held_at i) answer = stays_held answer || finds_no_place answer

  -- the part stays as it is
  abbrev pub is_quiet : Answer T → Bool
  is_quiet (Delivered sent) = false
  is_quiet Dropped = false
  is_quiet (Started sent) = false
  is_quiet Held = true
  is_quiet (Refused r) = true

  -- what the serving of a message answers
  abbrev pub result_of : Answer T → Result Served Refusal
  result_of (Delivered sent) = Ok served.Delivered
  result_of Dropped = Ok served.Dropped
  result_of (Started sent) = Ok served.Started
  result_of Held = Ok served.Held
  result_of (Refused r) = Err r

  -- Where the messages are after an answer to the one in the hand. One that has to wait goes to the end of the held
  -- list, before what is sent on its behalf.
  abbrev pub after_hand : Answer T → T → List T → InboxState T
  after_hand (Delivered sent) m held = inbox None (held ++ sent_list sent)
  after_hand Dropped m held = inbox None held
  after_hand (Started sent) m held = inbox None ((held ++ m ∷ []) ++ sent_list sent)
  after_hand Held m held = inbox None (held ++ m ∷ [])
  after_hand (Refused r) m held = inbox (Some m) held

  -- The held list after an answer to the message at an index. One that has to wait stays where it is.
  abbrev pub after_held : Answer T → ℕ → List T → List T
  after_held (Delivered sent) i held = remove held i ++ sent_list sent
  after_held Dropped i held = remove held i
  after_held (Started sent) i held = held ++ sent_list sent
  after_held Held i held = held
  after_held (Refused r) i held = held

  abbrev pub after : Answer T → Place × T → InboxState T → InboxState T
  after answer (in_hand, m) b = after_hand answer m b.held
  after answer (held_at i, m) b = inbox b.hand (after_held answer i b.held)

  -- the answer if no message is served: that there was no place, if one found none; otherwise that all are held, or
  -- that there is none
  abbrev pub none_served : Bool → List T → Result Served Refusal
  none_served true held = Err Full
  none_served false [] = Ok served.Nothing
  none_served false (m ∷ ms) = Ok served.Held

  module _ {P : Type 0} (table : P → T → ℕ → Answer T × P) where
    -- the answer to a message if the held list has this many places, and the part afterwards
    abbrev pub asked : P → T → ℕ → Answer T × P
    asked p m n = (fitted n (table p m n).0, (table p m n).1)

    abbrev pub answer_to : List T → P → Place × T → Answer T × P
    answer_to held p x = asked p x.1 (places held x.0)

    -- the first message of a list of them that isn't passed is served
    abbrev pub is_served : List T → P → Place × T → Bool
    is_served held p x = not (is_passed x.0 (answer_to held p x).0)

    abbrev pub served_of : List T → P → List (Place × T) → Option (Place × T)
    served_of held p xs = find (is_served held p) xs

    -- whether one of them finds no place
    abbrev pub is_refused : List T → P → List (Place × T) → Bool
    is_refused held p xs = list_any (λ x. finds_no_place (answer_to held p x).0) xs

    -- the answer, the messages and the part after the serving of a message, or of none
    abbrev pub serve_by : Bool → Option (Place × T) → InboxState T → P → Result Served Refusal × InboxState T × P
    serve_by refused None b p = (none_served refused b.held, b, p)
    serve_by refused (Some x) b p =
        (result_of (answer_to b.held p x).0, after (answer_to b.held p x).0 x b, (answer_to b.held p x).1)

    -- What serving does: of the messages in their order, the first that isn't passed is served.
    abbrev pub serve : InboxState T → P → Result Served Refusal × InboxState T × P
    serve b p =
        serve_by (is_refused b.held p (order_of b.hand b.held)) (served_of b.held p (order_of b.hand b.held)) b p

    module _ (takes_memory : P → T → Bool) where
      -- the answer is the table's; or the part takes memory for the message, which would be consumed or start
      -- something, but allocation failed and nothing changed
      abbrev pub Answers : P → T → ℕ → Answer T → P → Type 0
      Answers p m n answer q =
          ((answer, q) ≡ table p m n)
          ⊎ ((answer ≡ Refused NoMemory) × (q ≡ p) × IsTrue (takes_memory p m) × (is_quiet (table p m n).0 ≡ false))

      -- the first of these messages that isn't passed is one that the part takes memory for
      abbrev pub WantsMemory : List T → P → List (Place × T) → Type 0
      WantsMemory held p xs = (x : Place × T) × (served_of held p xs ≡ Some x) × IsTrue (takes_memory p x.1)

      -- it was done so; or the part takes memory for the message that would be served, but allocation failed and
      -- nothing changed
      abbrev pub Serves : InboxState T → P → Result Served Refusal → InboxState T → P → Type 0
      Serves b p result c q =
          ((result, c, q) ≡ serve b p)
          ⊎ ((result ≡ Err NoMemory) × (c ≡ b) × (q ≡ p) × WantsMemory b.held p (order_of b.hand b.held))

  -- the part has a case for each message
  pub record HaveCases {P : Type 0} (has_case : P → T → Bool) (b : InboxState T) (p : P) : Type 0 where
    pub hand : (m : T) → b.hand ≡ Some m → IsTrue (has_case p m)
    pub held : (i : ℕ) (m : T) → slice_get b.held i ≡ Some m → IsTrue (has_case p m)
