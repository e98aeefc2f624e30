-- What a seat holds when it holds what it stores.
use Rattle.std.specs.Prelude.{List}
use Rattle.physiological_order.specs.declared.operation.Op.{Op}
use Rattle.network.specs.declared.message.Message.{Message}
use Rattle.inbox.specs.Inboxes.{InboxState}
use Rattle.seat_rule.specs.declared.views.Hold.{Hold}
use Rattle.seat_rule.specs.Serving.{bank_now, core_now}
use Rattle.mailboxes.specs.declared.sending.SendingCore.{SendingCore}
use Rattle.mailboxes.specs.declared.sending.SendingBank.{SendingBank}

-- a core's seat that stores this part, these operations and these messages that came in
abbrev pub stored_core : Hold → SendingCore → List Op → InboxState Message → Hold
stored_core a part issued inbox =
    core_now a part.core issued part.outbox.counts part.outbox.messages inbox.hand inbox.held

-- and a bank's seat
abbrev pub stored_bank : Hold → SendingBank → InboxState Message → Hold
stored_bank a part inbox =
    bank_now a part.bank part.dram part.outbox.counts part.outbox.messages inbox.hand inbox.held
