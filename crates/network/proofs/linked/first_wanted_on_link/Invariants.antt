use Rattle.std.proofs.Common.{◌≡◌, [], drop, get_or, map}
use Rattle.line_arena.specs.CellLists.{first_cell}
use Rattle.network.specs.Requests.{is_wanted}
use Rattle.network.specs.Search.{first_message}
use Rattle.network.proofs.linked.first_wanted_on_link.Given as goal

abbrev pub invariant-loop : goal.invariant-loop
invariant-loop l =
    let cells = get_or l.arena.lists l.list [] in
    (l.next ≡ first_cell (drop l.counter cells))
    × (first_message (is_wanted l.wanted) (map (λ a. a.1) cells)
    ≡ first_message (is_wanted l.wanted) (map (λ a. a.1) (drop l.counter cells)))
