use Rattle.std.proofs.Common.{sym, ap, ◌∙◌}
use Rattle.std.specs.Result.{result_ok}
use Rattle.mailboxes.proofs.CoreFacts.{advance_moves, part_of}
use Rattle.mailboxes.proofs.core_seat.CoreSeat.advance.Goals as goal

pub change_core_hold-requires-clause-change : goal.change_core_hold-requires-clause-change
change_core_hold-requires-clause-change c =
    let p = c.args.self.now in
    advance_moves c.args.machine.now p.mail p.part p.issued.items c.requires (part_of p) c.advance.new.self
    (sym c.advance.ensures ∙ ap (λ r. (r, c.advance.new.self)) (ap result_ok c.in-Ok.is))
