use Rattle.std.proofs.Common.{◌≡◌, ◌+◌, ◌∷◌, Some, drop, ap, ◌∙◌, sym}
use Rattle.std.specs.Option.{is_some}
use Rattle.inbox.specs.Queues.{cells_of}
use Rattle.inbox.proofs.Walks.{listed-at}
use Rattle.inbox.proofs.queue.Queue.get.Goals as goal

pub get-requires : goal.get-requires
get-requires g c =
    let at = c.requires in
    let met = c.looked_up.ensures.met c.self.inside.list.lists 0 at.0 c.args.cell c.lists-lists.ensures.once
    (rw c.self.view_is at.1) in
    ap is_some met.cell

pub returns-clause-here : goal.returns-clause-here
returns-clause-here g c k e =
    let met = c.looked_up.ensures.met c.self.inside.list.lists 0 k c.args.cell c.lists-lists.ensures.once
    (rw c.self.view_is e) in
    let f : Some met.value ≡ Some c.get.result.now = sym met.cell ∙ c.get.ensures in
    let same : met.value ≡ c.get.result.now = cc in
    rw (← c.self.view_is)
    (met.is ∙ ap (λ v. (c.args.cell, v) ∷ drop (k + 1) (cells_of c.self.inside.list)) same)

pub returns-clause-value : goal.returns-clause-value
returns-clause-value g c k e =
    let cells = cells_of c.self.inside.list in
    let met = c.looked_up.ensures.met c.self.inside.list.lists 0 k c.args.cell c.lists-lists.ensures.once
    (rw c.self.view_is e) in
    let found = listed-at cells (drop (k + 1) cells) k c.args.cell met.value met.is in
    rw (← c.self.view_is) (found ∙ sym met.cell ∙ c.get.ensures)
