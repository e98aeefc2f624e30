use Rattle.std.proofs.Common.{refl, sym, ap, ◌∙◌}
use Rattle.closed_machine.specs.LastWrites.{written}
use Rattle.closed_machine.proofs.AllWords.{none_more, one_more}
use Rattle.closed_machine.proofs.values.update_last_writes.Goals as goal

pub returns-in-None : goal.returns-in-None
returns-in-None c =
    λ before last.
    let op = c.args.next.now.op in
    none_more c.args.lasts.now before c.args.next.now last
    (ap (written op) (sym c.addr-addr.ensures) ∙ sym c.written_value.ensures ∙ c.in-None.is)

pub returns-in_ok-insert-in-Some : goal.returns-in_ok-insert-in-Some
returns-in_ok-insert-in-Some c =
    λ before last.
    let op = c.args.next.now.op in
    let at = c.word-at.ensures.number in
    one_more c.args.lasts.now before c.args.next.now last c.word-at.result _ c.last_write_with-last.result c.get.result
    c.insert.new.self (at ∙ c.addr-addr.ensures)
    (ap (written op) at ∙ sym c.written_value.ensures ∙ c.in-Some.is, refl, refl)
    c.get.ensures c.last_write_with-last.ensures.first c.last_write_with-last.ensures.after
    c.in_ok-insert-in-Some.ensures.inserted
