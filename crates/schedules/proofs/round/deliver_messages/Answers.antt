use Rattle.std.proofs.Common.{◌+◌, drop, None}
use Rattle.std.proofs.lemmas.List.{drop_all}
use Rattle.std.proofs.lemmas.Result.{err_from_is_err_and}
use Rattle.schedules.specs.Parts.{for_each, delivery}
use Rattle.schedules.specs.Notes.{at}
use Rattle.schedules.proofs.Parts.{none_made, left_then, left_first, left_from}
use Rattle.schedules.proofs.round.deliver_messages.Goals as goal

pub loop-number-init : goal.loop-number-init
loop-number-init g c programs o u did = did

pub returns-in_err-deliver_or_make_room : goal.returns-in_err-deliver_or_make_room
returns-in_err-deliver_or_make_room g c programs =
    let a = c.args in
    let l = c.loop-number in
    let acts = g.P.Program.acts in
    let number = c.number-item.result in
    let e = err_from_is_err_and c.from_residual.result c.from_residual.ensures.1 in
    let left = left_from a.numbers.now l.number-index number c.loop-number-test.true c.number-item.is in
    rw (e.1, e.2) (left_first acts _ _ (at l.system programs l.log) _
    (for_each acts (delivery acts a.is_fair) a.numbers.now) (delivery acts a.is_fair number)
    (for_each acts (delivery acts a.is_fair) (drop (l.number-index + 1) a.numbers.now))
    (rw left at (l.invariant programs)) _ (c.in_err-deliver_or_make_room.ensures programs))

pub loop-number-preserved : goal.loop-number-preserved
loop-number-preserved g c programs =
    let a = c.args in
    let l = c.loop-number in
    let acts = g.P.Program.acts in
    let number = c.number-item.result in
    let left = left_from a.numbers.now l.number-index number c.loop-number-test.true c.number-item.is in
    left_then acts _ (for_each acts (delivery acts a.is_fair) a.numbers.now) (delivery acts a.is_fair number)
    (for_each acts (delivery acts a.is_fair) (drop (l.number-index + 1) a.numbers.now))
    (rw left at (l.invariant programs)) (c.in_ok-deliver_or_make_room.ensures programs)

pub returns : goal.returns
returns g c programs =
    let l = c.loop-number in
    (rw (drop_all l.number-index c.args.numbers.now c.loop-number-test.false) at (l.invariant programs))
    None _ (none_made g.P.Program.acts _ _)
