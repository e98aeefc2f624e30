-- The messages in flight as data, and what sending and taking make of them.
use Rattle.std.specs.Prelude.{ℕ, ◌+◌, ◌-◌, ◌^◌, ◌≤◌, nat_lt, Bool, ◌&&◌, List, [], ◌∷◌, ◌++◌, length}
use Rattle.network.specs.declared.counts.Counts.{Counts}
use Rattle.network.specs.declared.message.Body.{Body}
use Rattle.network.specs.declared.message.Body.TheVariants.{RenewRep, UpgradeRep, FlushRep, WbRep}
use Rattle.network.specs.declared.message.Message.{Message}
use Rattle.network.specs.NumberedMessages.{without_number}

-- the messages in flight by rising number, the number that the next one gets, and how many of the counted kinds were
-- sent so far
pub record Mail : Type 0 where
  pub messages : List (ℕ × Message)
  pub next : ℕ
  pub counts : Counts

-- nothing was sent
abbrev pub no_mail : Mail
no_mail = record {
  messages = [];
  next = 0;
  counts = record {
    renewals = 0;
    upgrades = 0;
    flushes =
        0;
    write_backs = 0;
  };
}

-- a message that is counted when it is sent
abbrev pub counted : Counts → Body → Counts
counted counts (RenewRep rts) = record counts { renewals = counts.renewals + 1 }
counted counts (UpgradeRep rts) = record counts { upgrades = counts.upgrades + 1 }
counted counts (FlushRep line) = record counts { flushes = counts.flushes + 1 }
counted counts (WbRep line) = record counts { write_backs = counts.write_backs + 1 }
counted counts _ = counts

-- whether the numbers are not used up: 2 ^ 64 - 1 is given to no message
abbrev pub has_number : Mail → Bool
has_number mail = nat_lt mail.next (2 ^ 64 - 1)

-- whether one more message can be sent, if at most this many may be in flight
abbrev pub has_capacity : ℕ → Mail → Bool
has_capacity capacity mail = nat_lt (length mail.messages) capacity && has_number mail

-- a message is sent: it gets the next number, and is counted
abbrev pub sent : Mail → Message → Mail
sent mail message =
    record {
      messages = mail.messages ++ (mail.next, message) ∷ [];
      next = mail.next + 1;
      counts =
          counted mail.counts message.body;
    }

-- the message with a number is taken
abbrev pub taken : Mail → ℕ → Mail
taken mail number = record mail { messages = without_number number mail.messages }

-- it is taken, and another message is sent in answer
abbrev pub answered : Mail → ℕ → Message → Mail
answered mail number message = sent (taken mail number) message

-- no more messages were counted than were sent
pub record AreCounts (counts : Counts) (next : ℕ) : Type 0 where
  pub renewals : counts.renewals ≤ next
  pub upgrades : counts.upgrades ≤ next
  pub flushes : counts.flushes ≤ next
  pub write_backs : counts.write_backs ≤ next
