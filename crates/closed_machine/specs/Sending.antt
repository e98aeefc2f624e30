-- What a contract sees of what a seat sends by, and what sending makes of it.
use Rattle.std.specs.Prelude.{ℕ, ◌+◌, ◌-◌, ◌^◌, Bool, ◌&&◌, nat_lt, List, [], ◌∷◌, ◌++◌, length, Option, Some, None}
use Rattle.network.specs.declared.counts.Counts.{Counts}
use Rattle.network.specs.declared.message.Message.{Message}
use Rattle.network.specs.Mail.{counted}
use Rattle.seat_rule.specs.Rule.{no_counts}

-- the messages to be put, the oldest first, how many of the counted kinds the seat sent, and how many messages in all
pub record OutboxState : Type 0 where
  pub messages : List Message
  pub counts : Counts
  pub sent : ℕ

-- nothing was sent
abbrev pub no_outbox : OutboxState
no_outbox = record { messages = []; counts = no_counts; sent = 0 }

-- there is place for one more of 256 messages
abbrev pub has_outbox_place : OutboxState → Bool
has_outbox_place o = nat_lt (length o.messages) 256

-- the seat sent fewer messages than the 2 ^ 64 - 1 that it can send
abbrev pub can_still_send : OutboxState → Bool
can_still_send o = nat_lt o.sent (2 ^ 64 - 1)

-- a message was sent, and is counted: it went to the held list of the seat itself
abbrev pub noted : OutboxState → Message → OutboxState
noted o m = record o { counts = counted o.counts m.body; sent = o.sent + 1 }

-- a message was sent: it is at the end, and is counted
abbrev pub sent_out : OutboxState → Message → OutboxState
sent_out o m = record { messages = o.messages ++ m ∷ []; counts = counted o.counts m.body; sent = o.sent + 1 }

-- one more message can be sent: there is place for it, and a number
abbrev pub can_send_out : OutboxState → Bool
can_send_out o = has_outbox_place o && can_still_send o

-- a message was sent, if there is one
abbrev pub sent_if : OutboxState → Option Message → OutboxState
sent_if o None = o
sent_if o (Some m) = sent_out o m
