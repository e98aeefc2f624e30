-- What a core's seat answers to a message to its core.
use Rattle.std.specs.Prelude.{ℕ, ◌<◌, Bool, true, false, List}
use Rattle.physiological_order.specs.declared.operation.Op.{Op}
use Rattle.network.specs.declared.message.Message.{Message}
use Rattle.core_pts.specs.CoreTable.{core_has_case, core_table}
use Rattle.inbox.specs.declared.answer.Answer.{Answer}
use Rattle.mailboxes.specs.declared.machine.Machine.{Machine}
use Rattle.mailboxes.specs.declared.mailbox.Mailbox.{Mailbox}
use Rattle.mailboxes.specs.declared.sending.SendingCore.{SendingCore}
use Rattle.mailboxes.specs.BoxMoves.{IsAt, Stands, hold}
use Rattle.mailboxes.specs.PartServing.{reacts}
use Rattle.mailboxes.specs.Places.{AllLinked}
use Rattle.mailboxes.specs.Ties.{CoreTied}

-- the core answers by its table
abbrev pub sending_core_table : SendingCore → Message → ℕ → Answer Message × SendingCore
sending_core_table p m places =
    let r = reacts true p.outbox places p.core (core_table p.core m) in
    (r.0, record { core = r.1; outbox = r.2 })

abbrev pub sending_core_has_case : SendingCore → Message → Bool
sending_core_has_case p m = core_has_case p.core m

-- the seat takes no memory
abbrev pub sending_core_takes_memory : SendingCore → Message → Bool
sending_core_takes_memory p m = false

-- the mailbox is that of a core's seat, and the part and these operations are what the seat stores besides
abbrev pub IsCoreMail : Machine → Mailbox → Type 0
IsCoreMail m b = IsAt m b × (b.number < m.set_up.config.cores) × Stands m b

pub record CorePartOf (b : Mailbox) (p : SendingCore) (ops : List Op) : Type 0 where
  pub tied : CoreTied (hold b) p.core ops (hold b).records p.outbox
  pub linked : AllLinked b.cores b.banks b.number p.outbox.messages
