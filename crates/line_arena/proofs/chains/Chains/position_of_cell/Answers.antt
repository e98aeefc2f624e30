use Rattle.std.proofs.Common.{Some, sym, ap, ◌∙◌}
use Rattle.line_arena.specs.Rings.{node, or_blank}
use Rattle.line_arena.proofs.chains.Chains.position_of_cell.Goals as goal

pub returns : goal.returns
returns g c =
    let n = c.get-node.result.now in let is = c.get-node.ensures in
    is ∙ ap (λ it. Some (node n.prev n.next n.list it)) (sym (ap (λ o. (or_blank o).item) is))
