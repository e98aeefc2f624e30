-- What is added up over the seats of a closed machine.
use Rattle.std.specs.Prelude.{◌≡◌, ℕ, ◌+◌, ◌++◌, ◌⊎◌, List, Some, option_to_list, slice_get}
use Rattle.network.specs.declared.counts.Counts.{Counts}
use Rattle.network.specs.declared.message.Message.{Message}
use Rattle.inbox.specs.Inboxes.{InboxState}
use Rattle.closed_machine.specs.declared.run.Run.{Run}
use Rattle.closed_machine.specs.declared.parts.CorePart.{CorePart}
use Rattle.closed_machine.specs.declared.parts.BankPart.{BankPart}
use Rattle.closed_machine.specs.Sending.{OutboxState}

-- a part that the run has, of a core or of a bank, has this number, and this outbox and inbox were left with it
abbrev pub Left : Run → ℕ → OutboxState → InboxState Message → Type 0
Left run number outbox inbox =
    ((i : ℕ) × (p : CorePart) × (slice_get run.cores.items i ≡ Some p) ×
    (p.number ≡ number) × (p.outbox ≡ outbox) × (p.inbox ≡ inbox))
    ⊎ ((i : ℕ) × (p : BankPart) × (slice_get run.banks.items i ≡ Some p) ×
    (p.number ≡ number) × (p.outbox ≡ outbox) × (p.inbox ≡ inbox))

-- what each seat counted, by the number of its part
abbrev pub AreCountsOf : Run → (ℕ → Counts) → Type 0
AreCountsOf run each =
    ((i : ℕ) (p : CorePart) → slice_get run.cores.items i ≡ Some p → each p.number ≡ p.outbox.counts)
    × ((i : ℕ) (p : BankPart) → slice_get run.banks.items i ≡ Some p → each p.number ≡ p.outbox.counts)

-- two counts, added up
abbrev pub plus : Counts → Counts → Counts
plus a b = record {
  renewals = a.renewals + b.renewals;
  upgrades = a.upgrades + b.upgrades;
  flushes = a.flushes + b.flushes;
  write_backs = a.write_backs + b.write_backs;
}

-- the messages that a seat left: those to be put, the one in the hand, and those that waited
abbrev pub messages_left : OutboxState → InboxState Message → List Message
messages_left outbox inbox = outbox.messages ++ (option_to_list inbox.hand ++ inbox.held)
