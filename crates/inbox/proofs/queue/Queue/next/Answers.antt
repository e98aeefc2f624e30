use Rattle.std.proofs.Common.{ap, ◌∙◌}
use Rattle.std.specs.Option.{is_some}
use Rattle.inbox.proofs.queue.Queue.next.Goals as goal

pub next-requires : goal.next-requires
next-requires g c =
    let at = c.requires in
    let met = c.looked_up.ensures.met c.self.inside.list.lists 0 at.0 c.args.cell c.lists-lists.ensures.once
    (rw c.self.view_is at.1) in
    ap is_some met.cell

pub returns : goal.returns
returns g c k e =
    let met = c.looked_up.ensures.met c.self.inside.list.lists 0 k c.args.cell c.lists-lists.ensures.once
    (rw c.self.view_is e) in
    rw (← c.self.view_is) (c.next.ensures ∙ met.next)
