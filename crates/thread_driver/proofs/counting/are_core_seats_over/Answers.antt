use Rattle.std.proofs.Common.{◌≡◌, ◌<◌, ◌≤◌, None, ⊎_elim, sym, ap, subst, ◌∙◌, arith}
use Rattle.std.specs.Prelude.{slice_get}
use Rattle.std.proofs.lemmas.Bool.{cases_lt}
use Rattle.std.proofs.lemmas.Option.{slice_get_within}
use Rattle.mailboxes.specs.declared.core_seat.CoreSeat.{CoreSeat}
use Rattle.thread_driver.proofs.Lists.{both_none, here, some_is}
use Rattle.thread_driver.proofs.counting.are_core_seats_over.Goals as goal

pub loop-i-preserved : goal.loop-i-preserved
loop-i-preserved g c = λ k p a lt at_p at_a.
    let i = c.loop-i.i in
    let v = c.index-cores-i.result in
    let y = c.index-programs-i.result in
    let at_v = here c.args.cores.now i v (omega arith) c.index-cores-i.is in
    let at_y = here c.args.programs.now i y (omega arith) c.index-programs-i.is in
    let both = both_none v.part.core.open_op (g.P.Program.acts.next y)
    (sym c.is_over.ensures ∙ c.if-not-is_over.false) in
    ⊎_elim
    (λ (before : k < i). c.loop-i.invariant k p a before at_p at_a)
    (λ (not_before : i ≤ k).
    let is : k ≡ i = omega arith in
    let p_is : v ≡ p = some_is (sym at_v ∙ ap (slice_get c.args.cores.now) (sym is) ∙ at_p) in
    let a_is : y ≡ a = some_is (sym at_y ∙ ap (slice_get c.args.programs.now) (sym is) ∙ at_a) in (
      subst (λ (q : CoreSeat). q.part.core.open_op ≡ None) p_is both.0,
      subst (λ b. g.P.Program.acts.next b ≡ None) a_is both.1,
    ))
    (cases_lt k i)

pub returns-clause-done : goal.returns-clause-done
returns-clause-done g c = λ yet i p a at_p at_a.
    let lt = slice_get_within c.args.cores.now i p at_p in
    c.loop-i.invariant i p a (omega arith) at_p at_a
