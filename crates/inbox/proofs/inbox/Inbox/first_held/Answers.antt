use Rattle.std.proofs.Common.{sym, refl, ◌∙◌}
use Rattle.inbox.proofs.inbox.Inbox.first_held.Goals as goal

pub get-message-requires : goal.get-message-requires
get-message-requires g c = (c.loop.counter, sym c.loop.invariant.0 ∙ c.in-Some.is)

pub returns-then-passes : goal.returns-then-passes
returns-then-passes g c =
    let is = c.get-message.ensures.here c.loop.counter (sym c.loop.invariant.0 ∙ c.in-Some.is) in
    rw (← c.self.view_is, c.loop.invariant.1, is, ← c.passes.ensures, c.if-passes.true) refl

pub next-next-requires : goal.next-next-requires
next-next-requires g c = (c.loop.counter, sym c.loop.invariant.0 ∙ c.in-Some.is)

pub loop-preserved : goal.loop-preserved
loop-preserved g c =
    let here = sym c.loop.invariant.0 ∙ c.in-Some.is in
    let is = c.get-message.ensures.here c.loop.counter here in (
      c.next-next.ensures c.loop.counter here,
      rw (c.loop.invariant.1, is, ← c.passes.ensures, c.if-passes.false) refl,
    )
