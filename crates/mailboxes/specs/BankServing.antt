-- What a bank's seat answers to a message to its bank, or to the DRAM behind it.
use Rattle.std.specs.Prelude.{ℕ, Bool, false}
use Rattle.network.specs.declared.message.Node.{Node}
use Rattle.network.specs.declared.message.Node.TheVariants as node
use Rattle.network.specs.declared.message.Message.{Message}
use Rattle.llc_bank.specs.BankTable.{bank_has_case, bank_table}
use Rattle.dram_mts.specs.Table.{dram_has_case, dram_table, needs_memory}
use Rattle.inbox.specs.declared.answer.Answer.{Answer}
use Rattle.inbox.specs.declared.answer.Answer.TheVariants.{Held}
use Rattle.mailboxes.specs.declared.sending.SendingBank.{SendingBank}
use Rattle.mailboxes.specs.PartServing.{reacts}

-- the bank answers what goes to it, and the DRAM what goes to that
abbrev pub reacts_at : Node → SendingBank → Message → ℕ → Answer Message × SendingBank
reacts_at (node.Core c) p m places = (Held, p)
reacts_at (node.Bank b) p m places =
    let r = reacts false p.outbox places p.bank (bank_table p.bank m) in
    (r.0, record p { bank = r.1; outbox = r.2 })
reacts_at (node.Dram d) p m places =
    let r = reacts false p.outbox places p.dram (dram_table p.dram m) in
    (r.0, record p { dram = r.1; outbox = r.2 })

abbrev pub sending_bank_table : SendingBank → Message → ℕ → Answer Message × SendingBank
sending_bank_table p m places = reacts_at m.to p m places

-- the part that the message goes to has a case for it
abbrev pub bank_has_case_at : Node → SendingBank → Message → Bool
bank_has_case_at (node.Core c) p m = false
bank_has_case_at (node.Bank b) p m = bank_has_case p.bank m
bank_has_case_at (node.Dram d) p m = dram_has_case p.dram m

abbrev pub sending_bank_has_case : SendingBank → Message → Bool
sending_bank_has_case p m = bank_has_case_at m.to p m

-- the seat takes memory for a line that the DRAM was never given before
abbrev pub takes_memory_at : Node → SendingBank → Message → Bool
takes_memory_at (node.Core c) p m = false
takes_memory_at (node.Bank b) p m = false
takes_memory_at (node.Dram d) p m = needs_memory p.dram m

abbrev pub sending_bank_takes_memory : SendingBank → Message → Bool
sending_bank_takes_memory p m = takes_memory_at m.to p m
