-- What a serving can do, for any table: the few things that may happen to the messages of a seat and to its part.
use Rattle.std.specs.Prelude.{◌≡◌, ℕ, ◌+◌, Bool, true, false, List, [], ◌∷◌, ◌++◌, remove, slice_get, Option, Some}
use Rattle.std.specs.Prelude.{None, Result, Ok, Err, option_to_list}
use Rattle.inbox.specs.declared.answer.Answer.{Answer}
use Rattle.inbox.specs.declared.answer.Answer.TheVariants.{Delivered, Dropped, Started, Held, Refused}
use Rattle.inbox.specs.declared.answer.Refusal.{Refusal}
use Rattle.inbox.specs.declared.answer.Refusal.TheVariants.{NoMemory}
use Rattle.inbox.specs.declared.answer.Served.{Served}
use Rattle.inbox.specs.declared.answer.Served.TheVariants as served
use Rattle.inbox.specs.Inboxes.{InboxState, inbox}
use Rattle.inbox.specs.Serving.{Place, in_hand, held_at, is_quiet, order_of, places, sent_list, Serves, WantsMemory}

-- no message was consumed, and nothing was started
abbrev pub is_stay : Result Served Refusal → Bool
is_stay (Ok served.Delivered) = false
is_stay (Ok served.Dropped) = false
is_stay (Ok served.Started) = false
is_stay (Ok served.Held) = true
is_stay (Ok served.Nothing) = true
is_stay (Err r) = true

module _ {T : Type 0} where
  -- a weight of lists is that of their messages together
  pub record IsWeight (f : T → ℕ) (weigh : List T → ℕ) : Type 0 where
    pub none : weigh [] ≡ 0
    pub one_more : (m : T) (ms : List T) → weigh (m ∷ ms) ≡ f m + weigh ms

  -- the same messages in any order, each as often: for any weight they weigh the same
  abbrev pub SameMessages : List T → List T → Type 0
  SameMessages xs ys = (f : T → ℕ) (weigh : List T → ℕ) → IsWeight f weigh → weigh xs ≡ weigh ys

  -- all messages of a seat
  abbrev pub messages_of : InboxState T → List T
  messages_of b = option_to_list b.hand ++ b.held

  -- the message lies there
  abbrev pub LiesAt : InboxState T → Place → T → Type 0
  LiesAt b in_hand m = b.hand ≡ Some m
  LiesAt b (held_at i) m = slice_get b.held i ≡ Some m

  -- the messages but for the one that lies there
  abbrev pub others : InboxState T → Place → List T
  others b in_hand = b.held
  others b (held_at i) = option_to_list b.hand ++ remove b.held i

  module _ {P : Type 0} (table : P → T → ℕ → Answer T × P) where
    -- a message that isn't consumed and starts nothing leaves the part as it is
    abbrev pub LeavesPart : Type 0
    LeavesPart = (p : P) (m : T) (n : ℕ) → is_quiet (table p m n).0 ≡ true → (table p m n).1 ≡ p

    -- the message lies there, and the part was asked about it: it answered this, and was then q
    abbrev pub IsAsked : InboxState T → P → Place → T → Answer T → P → Type 0
    IsAsked b p at m answer q = LiesAt b at m × (table p m (places b.held at) ≡ (answer, q))

    -- what a serving of the messages b by the part p did, if it gave the result, the messages c and the part q
    pub data Effect (b : InboxState T) (p : P) (result : Result Served Refusal) (c : InboxState T) (q : P) : Type 0
      where
        -- one message was consumed, and another was sent for it, if there was one to send; the others are there
        delivered : (at : Place) (m : T) (sent : Option T) → IsAsked b p at m (Delivered sent) q →
            result ≡ Ok served.Delivered → SameMessages (messages_of b) (m ∷ others b at) →
            SameMessages (messages_of c) (sent_list sent ++ others b at) → Effect b p result c q
        -- one message was consumed without effect, and the others are there
        dropped : (at : Place) (m : T) → IsAsked b p at m Dropped q → result ≡ Ok served.Dropped →
            SameMessages (messages_of b) (m ∷ others b at) → SameMessages (messages_of c) (others b at) →
            Effect b p result c q
        -- something was started for one message, and another was sent for it, if there was one to send; all are there
        started : (at : Place) (m : T) (sent : Option T) → IsAsked b p at m (Started sent) q →
            result ≡ Ok served.Started → SameMessages (messages_of b) (m ∷ others b at) →
            SameMessages (messages_of c) (sent_list sent ++ messages_of b) → Effect b p result c q
        -- the message in the hand went to the end of the held list
        moved : (m : T) → IsAsked b p in_hand m Held q → result ≡ Ok served.Held →
            c ≡ inbox None (b.held ++ m ∷ []) → SameMessages (messages_of c) (messages_of b) → q ≡ p →
            Effect b p result c q
        -- nothing changed
        unchanged : is_stay result ≡ true → c ≡ b → q ≡ p → Effect b p result c q

-- each serving does one of these
abbrev pub EffectLaw : Type 0 → Type 0 → Type 0
EffectLaw T P =
    (table : P → T → ℕ → Answer T × P) (takes_memory : P → T → Bool) (b : InboxState T) (p : P)
    (result : Result Served Refusal) (c : InboxState T) (q : P) → LeavesPart table →
    Serves table takes_memory b p result c q → Effect table b p result c q

-- the table itself never answers NoMemory
abbrev pub NeverNoMemory : {T P : Type 0} → (P → T → ℕ → Answer T × P) → Type 0
NeverNoMemory {T} {P} table = (p : P) (m : T) (n : ℕ) → (table p m n).0 ≡ Refused NoMemory → ⊥

-- then NoMemory is answered only where the part takes memory for the message that would be served
abbrev pub MemoryLaw : Type 0 → Type 0 → Type 0
MemoryLaw T P =
    (table : P → T → ℕ → Answer T × P) (takes_memory : P → T → Bool) (b : InboxState T) (p : P)
    (result : Result Served Refusal) (c : InboxState T) (q : P) → NeverNoMemory table →
    Serves table takes_memory b p result c q → result ≡ Err NoMemory →
    WantsMemory table takes_memory b.held p (order_of b.hand b.held)
