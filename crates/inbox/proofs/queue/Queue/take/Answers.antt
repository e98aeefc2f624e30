use Rattle.std.proofs.Common.{◌∙◌, ◌+◌, sym, ap, map, drop}
use Rattle.std.specs.Option.{is_some}
use Rattle.inbox.specs.Queues.{cells_of}
use Rattle.inbox.proofs.HeldLists.{at-drop, without-at}
use Rattle.inbox.proofs.Walks.{listed-at}
use Rattle.inbox.proofs.queue.Queue.take.Goals as goal

pub unlink-requires : goal.unlink-requires
unlink-requires g c =
    let at = c.requires in
    let met = c.looked_up.ensures.met c.self.inside.list.lists 0 at.0 c.args.cell c.lists-lists.ensures.once
    (rw c.self.view_is at.1) in
    ap is_some met.cell

pub returns-clause-value : goal.returns-clause-value
returns-clause-value g c k e =
    let cells = cells_of c.self.inside.list in
    let met = c.looked_up.ensures.met c.self.inside.list.lists 0 k c.args.cell c.lists-lists.ensures.once
    (rw c.self.view_is e) in
    let found = listed-at cells (drop (k + 1) cells) k c.args.cell met.value met.is in
    rw (← c.self.view_is) (found ∙ sym met.cell ∙ c.unlink.ensures.value)

pub returns-clause-others : goal.returns-clause-others
returns-clause-others g c k e =
    let ls = c.self.inside.list.lists in
    let xs = cells_of c.self.inside.list in
    let left = ap (λ a. map (λ p. p.1) (cells_of a)) c.unlink.ensures.after
    ∙ ap (map (λ p. p.1)) (c.taken_off.ensures.each ls c.args.cell 0)
    ∙ without-at xs k c.args.cell (λ i j p q. (c.lists-lists.ensures.once.once 0 0 i j c.args.cell p q).1)
    (sym (at-drop xs k) ∙ rw c.self.view_is e) in
    rw (← c.self.view_is) left
