-- What an outbox ends as, once a `&mut` to its messages has ended.
use Rattle.std.specs.Borrow.{Fml, MutBor, Lends}
use Rattle.std.specs.Prelude.{ℕ, List}
use Rattle.network.specs.declared.message.Message.{Message}
use Rattle.network.specs.contracts.message.Message as message
use Rattle.inbox.specs.Queues.{values_of}
use Rattle.inbox.specs.contracts.queue.Queue as queue
use Rattle.closed_machine.specs.Sending.{OutboxState}
use Rattle.closed_machine.specs.contracts.outbox.Outbox.{the_row}

-- it has the messages that were left there; what was sent and counted doesn't change
abbrev pub lends_queue : MutBor OutboxState → MutBor (List (ℕ × Message)) → Fml
lends_queue o r = Lends the_row (queue.the_row message.the_row) o r (λ w. record (o.now) { messages = values_of w })
