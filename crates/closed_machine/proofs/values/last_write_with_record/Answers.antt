use Rattle.std.proofs.Common.{refl, sym, ◌∙◌}
use Rattle.closed_machine.proofs.LeftValues.{other_word, new_write}
use Rattle.closed_machine.proofs.values.last_write_with_record.Goals as goal

pub returns-in-None : goal.returns-in-None
returns-in-None c =
    λ before last.
    other_word c.args.addr before c.args.next.now c.args.last (sym c.written_value.ensures ∙ c.in-None.is) last

pub returns-in-Some : goal.returns-in-Some
returns-in-Some c =
    λ before last.
    new_write c.args.addr before c.args.next.now c.args.last _ c.last_write_with.result
    (sym c.written_value.ensures ∙ c.in-Some.is, refl, refl) c.last_write_with.ensures.first
    c.last_write_with.ensures.after last
