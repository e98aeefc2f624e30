-- What contracts see of the messages in flight.
use Rattle.std.specs.Prelude.{ℕ, ◌≡◌, ◌-◌, ◌<◌, ◌^◌}
use Rattle.network.specs.declared.counts.Counts.{Counts}
use Rattle.network.specs.Mail.{Mail, AreCounts}
use Rattle.network.specs.Stored.{Linked}

-- the messages in flight between these cores and banks, how many there may be, how many slots are kept for them, the
-- empty ones of taken messages included, and how many more can be sent before the next allocation
pub record Flight : Type 0 where
  pub cores : ℕ
  pub banks : ℕ
  pub capacity : ℕ
  pub slots : ℕ
  pub reserved : ℕ
  pub mail : Mail

-- the second network is the first one with this mail in flight; its slots and its reserve may be others
abbrev pub IsWithMail : Mail → Flight → Flight → Type 0
IsWithMail mail p q = q ≡ record p { slots = q.slots; reserved = q.reserved; mail = mail }

-- the second network is the first one but for what is in flight, its slots and its reserve
abbrev pub SameNetwork : Flight → Flight → Type 0
SameNetwork p q = IsWithMail q.mail p q

-- what contracts see, if at most `capacity` messages may be in flight and these counts were sent
abbrev pub flight_of : ℕ → Counts → Linked → Flight
flight_of capacity counts linked =
    record {
      cores = linked.cores;
      banks = linked.banks;
      capacity = capacity;
      slots = linked.slots;
      reserved = linked.room - linked.slots;
      mail =
          record { messages = linked.messages; next = linked.next; counts = counts };
    }

-- what is true of all that is kept: there is room for all messages that may be in flight, the numbers are below 2 ^
-- 64, and the counts are not above the next number
pub record IsKept (capacity : ℕ) (counts : Counts) (linked : Linked) : Type 0 where
  pub fits : capacity ≡ linked.capacity
  pub numbered : linked.next < 2 ^ 64
  pub counts_below : AreCounts counts linked.next
