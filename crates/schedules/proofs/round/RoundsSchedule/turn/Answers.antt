use Rattle.std.proofs.Common.{◌≡◌, ◌∙◌, Some, refl, rules}
use Rattle.std.proofs.lemmas.Result.{err_from_is_err_and}
use Rattle.programs.specs.declared.ends.End.TheVariants.{NoMemory}
use Rattle.schedules.specs.Parts.{Lists, one, for_each, delivery}
use Rattle.schedules.specs.RoundSchedule.{core_turns, deliveries, numbers_in_flight}
use Rattle.schedules.specs.Notes.{at, end_in}
use Rattle.schedules.proofs.Parts.{did_then, did_first, did_as, list_made, list_refused}
use Rattle.schedules.proofs.round.RoundsSchedule.turn.Goals as goal

pub returns-in_err-core_turns-clause-did : goal.returns-in_err-core_turns-clause-did
returns-in_err-core_turns-clause-did g c =
    let acts = g.P.Program.acts in
    let s = c.self.inside in
    let e = err_from_is_err_and c.from_residual.result c.from_residual.ensures.1 in
    rw (← c.self.view_is, e.1, e.2) (did_first acts _ _ _ (core_turns acts s.cores) (deliveries acts s.is_fair) _
    c.in_err-core_turns.ensures)

pub returns-then-is_err-clause-did : goal.returns-then-is_err-clause-did
returns-then-is_err-clause-did g c =
    let acts = g.P.Program.acts in
    let s = c.self.inside in
    rw (← c.self.view_is, c.seek_message-first.ensures.same) (did_then acts _ _ (core_turns acts s.cores)
    (deliveries acts s.is_fair) c.in_ok-core_turns.ensures (Some NoMemory) (list_refused acts _ _ _))

pub returns-clause-did : goal.returns-clause-did
returns-clause-did g c =
    let acts = g.P.Program.acts in
    let s = c.self.inside in
    let n = c.core_turns.new in
    let here = c.seek_message-first.ensures.same in
    let seen : c.as_slice.result.now ≡ numbers_in_flight c.seek_message-first.new.self =
    c.as_slice.ensures.value ∙ search rules in
    let numbers : c.as_slice.result.now ≡ numbers_in_flight n.system = rw here at seen in
    rw (← c.self.view_is) (did_then acts _ _ (core_turns acts s.cores) (deliveries acts s.is_fair)
    c.in_ok-core_turns.ensures (end_in c.deliver_messages.result) (did_then acts _ _ (one Lists)
    (λ t. for_each acts (delivery acts s.is_fair) (numbers_in_flight t.machine) t)
    (list_made acts _ (at n.system n.programs n.log))
    (end_in c.deliver_messages.result)
    (did_as acts _ _ _ (for_each acts (delivery acts s.is_fair) (numbers_in_flight n.system))
    (λ t. for_each acts (delivery acts s.is_fair) (numbers_in_flight t.machine) t) refl
    (end_in c.deliver_messages.result) (rw (numbers, here) at (c.deliver_messages.ensures n.programs)))))
