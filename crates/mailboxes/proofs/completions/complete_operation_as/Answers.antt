use Rattle.std.proofs.Common.{arith}
use Rattle.mailboxes.proofs.completions.complete_operation_as.Goals as goal

pub fetch_add-requires : goal.fetch_add-requires
fetch_add-requires g c =
    let d = c.requires.table in
    let t = c.requires.attempt in (
      d.0,
      omega (arith, d.1, c.requires.word.0),
      c.completions_keep_the_rule.ensures c.args.table.now.key c.args.table.now.table_id.slots c.args.word
          c.args.seat.now.id c.args.seat.now.me g.C.End.op g.C.End.received g.C.End.ts g.C.End.core g.C.End.set_up d.2
          c.requires.word.0 c.requires.choice.0 c.requires.word.1 c.requires.live.1 c.requires.live.0 t.0 t.1 t.2,
    )
