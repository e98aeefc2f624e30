use Rattle.std.proofs.Common.{◌≡◌, sym, ◌∙◌, arith}
use Rattle.inbox.proofs.Walks.{past-end}
use Rattle.inbox.proofs.inbox.Inbox.held.Goals as goal

pub returns-in_default : goal.returns-in_default
returns-in_default g c =
    let cells = c.self.inside.held in
    rw (← c.self.view_is) (sym (past-end cells c.loop.counter c.args.at (sym c.loop.invariant ∙ c.in_default.is)
    (omega (arith, c.loop-test.true))))

pub next-next-requires : goal.next-next-requires
next-next-requires g c = (c.loop.counter, sym c.loop.invariant ∙ c.in-Some.is)

pub loop-preserved : goal.loop-preserved
loop-preserved g c = c.next-next.ensures c.loop.counter (sym c.loop.invariant ∙ c.in-Some.is)

pub returns-in_default-next : goal.returns-in_default-next
returns-in_default-next g c =
    let cells = c.self.inside.held in
    rw (← c.self.view_is) (sym (past-end cells c.loop.counter c.args.at (sym c.loop.invariant ∙ c.in_default-next.is)
    (omega (arith, c.loop-test.false, c.loop.auto.counter-end))))

pub get-requires : goal.get-requires
get-requires g c = (c.loop.counter, sym c.loop.invariant ∙ c.in-Some-next.is)

pub returns : goal.returns
returns g c =
    let n = c.loop.counter in
    let end : n ≡ c.args.at = omega (arith, c.loop-test.false, c.loop.auto.counter-end) in
    rw (← c.self.view_is, ← end) (sym (c.get.ensures.value n (sym c.loop.invariant ∙ c.in-Some-next.is)))
