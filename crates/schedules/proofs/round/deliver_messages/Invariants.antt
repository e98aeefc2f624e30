use Rattle.std.proofs.Common.{List, drop}
use Rattle.schedules.specs.Parts.{for_each, delivery}
use Rattle.schedules.specs.Notes.{at}
use Rattle.schedules.proofs.Parts.{IsLeft}
use Rattle.schedules.proofs.round.deliver_messages.Given as goal

abbrev pub invariant-loop-number : goal.invariant-loop-number
invariant-loop-number g l = (programs : List g.row.P.Denot) →
    let acts = g.P.Program.acts in
    IsLeft acts g.W.Watcher.watches (for_each acts (delivery acts l.fn.is_fair) l.fn.numbers)
    (for_each acts (delivery acts l.fn.is_fair) (drop l.number-index l.numbers))
    (at l.fn.system programs l.fn.log) (at l.system programs l.log)
