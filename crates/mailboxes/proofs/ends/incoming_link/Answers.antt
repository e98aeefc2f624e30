use Rattle.std.proofs.Common.{◌-◌, arith}
use Rattle.mailboxes.proofs.LinkEnds.{core_in, bank_in, core_end, bank_end, up_within, down_within}
use Rattle.mailboxes.proofs.ends.incoming_link.Goals as goal

pub returns-then-number-config-clause-within : goal.returns-then-number-config-clause-within
returns-then-number-config-clause-within c =
    let g = c.args.config.now in
    let lt = c.if-number-config.true in
    up_within g.cores g.banks c.args.from c.args.number
    (core_in g.cores g.banks c.args.number c.args.from lt c.requires.from) lt

pub returns-then-number-config-clause-end : goal.returns-then-number-config-clause-end
returns-then-number-config-clause-end c =
    let g = c.args.config.now in
    let lt = c.if-number-config.true in
    core_end g c.args.number c.args.from lt (core_in g.cores g.banks c.args.number c.args.from lt c.requires.from)

pub returns-else-number-config-clause-within : goal.returns-else-number-config-clause-within
returns-else-number-config-clause-within c =
    let g = c.args.config.now in
    let le = c.if-number-config.false in
    let number = c.requires.number in
    down_within g.cores g.banks c.args.from (c.args.number - g.cores)
    (bank_in g.cores g.banks c.args.number c.args.from le c.requires.from) (omega arith)

pub returns-else-number-config-clause-end : goal.returns-else-number-config-clause-end
returns-else-number-config-clause-end c =
    let g = c.args.config.now in
    let le = c.if-number-config.false in
    bank_end g c.args.number c.args.from le c.requires.number
    (bank_in g.cores g.banks c.args.number c.args.from le c.requires.from)
