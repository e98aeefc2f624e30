-- The messages that a list of events sends, and how they are counted.
use Rattle.std.specs.Prelude.{◌≡◌, ℕ, ◌+◌, nat_lt, Bool, true, false, List, [], ◌∷◌, ◌++◌, if◌then◌else◌}
use Rattle.network.specs.declared.counts.Counts.{Counts}
use Rattle.network.specs.declared.message.Body.{Body}
use Rattle.network.specs.declared.message.Body.TheVariants.{RenewRep, UpgradeRep, FlushRep, WbRep}
use Rattle.network.specs.declared.message.Message.{Message}
use Rattle.network.specs.Mail.{Mail}
use Rattle.machine_table.specs.declared.event.Event.{Event}
use Rattle.machine_table.specs.declared.event.Answer.{Answer}
use Rattle.machine_table.specs.Machine.{Machine}
use Rattle.interleaving_core.specs.StepAnswers.{Ran}

-- the last message of a list, if it has one
abbrev pub last_of : List (ℕ × Message) → List (ℕ × Message)
last_of [] = []
last_of (message ∷ []) = message ∷ []
last_of (message ∷ next ∷ messages) = last_of (next ∷ messages)

-- what one event sent: if the number of the next message rose, the last message that is then in flight
abbrev pub newly_sent : Mail → Mail → List (ℕ × Message)
newly_sent before after = if nat_lt before.next after.next then last_of after.messages else []

-- what a list of events sent, event by event
abbrev pub all_sent : (m : Machine) (events : List Event) (answers : List Answer) (after : Machine) →
    Ran m events answers after → List (ℕ × Message)
all_sent m [] [] after ran = []
all_sent m (event ∷ events) (answer ∷ answers) after (next, step, rest) =
    newly_sent m.mail next.mail ++ all_sent next events answers after rest
all_sent m [] (answer ∷ answers) after never = []
all_sent m (event ∷ events) [] after never = []

-- the messages have the numbers from this one on, one after the other, and that is the next one
abbrev pub AreNext : ℕ → List (ℕ × Message) → ℕ → Type 0
AreNext number [] next = next ≡ number
AreNext number (message ∷ messages) next = (message.0 ≡ number) × AreNext (number + 1) messages next

-- the kinds that are counted
abbrev pub is_renewal : Body → Bool
is_renewal (RenewRep rts) = true
is_renewal _ = false

abbrev pub is_upgrade : Body → Bool
is_upgrade (UpgradeRep rts) = true
is_upgrade _ = false

abbrev pub is_flush : Body → Bool
is_flush (FlushRep line) = true
is_flush _ = false

abbrev pub is_write_back : Body → Bool
is_write_back (WbRep line) = true
is_write_back _ = false

-- how many messages are of a kind
abbrev pub how_many : (Body → Bool) → List (ℕ × Message) → ℕ
how_many is [] = 0
how_many is (message ∷ messages) = (if is message.1.body then 1 else 0) + how_many is messages

-- each count rose by how many of its kind were sent
pub record AreCounted (before : Counts) (messages : List (ℕ × Message)) (after : Counts) : Type 0 where
  pub renewals : after.renewals ≡ before.renewals + how_many is_renewal messages
  pub upgrades : after.upgrades ≡ before.upgrades + how_many is_upgrade messages
  pub flushes : after.flushes ≡ before.flushes + how_many is_flush messages
  pub write_backs : after.write_backs ≡ before.write_backs + how_many is_write_back messages
