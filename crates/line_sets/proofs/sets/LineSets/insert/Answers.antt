use Rattle.std.proofs.Common.{arith, sym, ap, ◌∙◌, not}
use Rattle.std.specs.Option.{is_some}
use Rattle.line_sets.proofs.ListedChanges.{can-count, counted, exchanged, in-count, next-fits, recounted, still-room}
use Rattle.line_sets.proofs.StoredSets.{table_of, is-found, is-missing, read-value, used, used-last}
use Rattle.line_sets.proofs.StoredSets.{written-there}
use Rattle.line_sets.proofs.Walks.{is-none}
use Rattle.line_sets.proofs.sets.LineSets.insert.Goals as goal

pub update_set_count-requires : goal.update_set_count-requires
update_set_count-requires g c =
    let found = is-found c.self.invariant.0 c.lists-lists.ensures.once c.looked_up.ensures c.self.view_is
    c.requires.in_table (sym c.cell_of_line.ensures ∙ c.in-Some.is) in
    can-count g.V.Listed.is_listed c.args.set c.args.line found.stored found.low (read-value found c.get.ensures)
    c.self.invariant.4
    c.count_if_unlisted.ensures.count c.count_if_unlisted-2.ensures.one

pub add-requires-clause-absent : goal.add-requires-clause-absent
add-requires-clause-absent g c = is-missing c.args.set c.args.line c.self.invariant.0 c.self.view_is
    c.requires.in_table (sym c.cell_of_line.ensures ∙ c.in_default.is)

pub get_mut-requires : goal.get_mut-requires
get_mut-requires g c =
    let found = is-found c.self.invariant.0 c.lists-lists.ensures.once c.looked_up.ensures c.self.view_is
    c.requires.in_table (sym c.cell_of_line.ensures ∙ c.in-Some.is) in ap is_some found.cell

pub move_to_back-requires-clause-cell : goal.move_to_back-requires-clause-cell
move_to_back-requires-clause-cell g c =
    let found = is-found c.self.invariant.0 c.lists-lists.ensures.once c.looked_up.ensures c.self.view_is
    c.requires.in_table (sym c.cell_of_line.ensures ∙ c.in-Some.is) in
    ap is_some (written-there c.in-Some.cell (c.args.line, c.args.value) c.self.inside.arena.lists
    (ap is_some found.cell))

pub invariant_of-self-2 : goal.invariant_of-self-2
invariant_of-self-2 g c =
    let found = is-found c.self.invariant.0 c.lists-lists.ensures.once c.looked_up.ensures c.self.view_is
    c.requires.in_table (sym c.cell_of_line.ensures ∙ c.in-Some.is) in let was = read-value found c.get.ensures in
    let moved = rw (written-there c.in-Some.cell (c.args.line, c.args.value) c.self.inside.arena.lists
    (ap is_some found.cell)) at c.move_to_back.ensures in
    let new = used c.args.value found c.taken_off.ensures moved in
    let before = c.count_if_listed-before.ensures.count in
    let after = c.count_if_listed-after.ensures.count in (
      new.stored,
      counted g.V.Listed.is_listed new was before after c.self.invariant.1,
      c.change.ensures.order _ _ c.self.invariant.2 (exchanged g.V.Listed.is_listed new was before after),
      still-room g.V.Listed.is_listed c.self.invariant.0 new.cells c.self.invariant.3
          (λ room. c.change.ensures.kept _ c.self.invariant.2 (λ lt. room)),
      c.update_set_count.ensures ∙ recounted g.V.Listed.is_listed new was c.count_if_unlisted.ensures.count
          c.count_if_unlisted-2.ensures.count c.self.invariant.4,
    )

pub returns : goal.returns
returns g c =
    let found = is-found c.self.invariant.0 c.lists-lists.ensures.once c.looked_up.ensures c.self.view_is
    c.requires.in_table (sym c.cell_of_line.ensures ∙ c.in-Some.is) in
    let moved = rw (written-there c.in-Some.cell (c.args.line, c.args.value) c.self.inside.arena.lists
    (ap is_some found.cell)) at c.move_to_back.ensures in
    rw (← c.self.view_is) (ap (table_of c.self.inside.ways) (used c.args.value found c.taken_off.ensures moved).are)

pub next-requires : goal.next-requires
next-requires g c =
    let found = is-found c.self.invariant.0 c.lists-lists.ensures.once c.looked_up.ensures c.self.view_is
    c.requires.in_table (sym c.cell_of_line.ensures ∙ c.in-Some.is) in
    ap is_some (written-there c.in-Some.cell (c.args.line, c.args.value) c.self.inside.arena.lists
    (ap is_some found.cell))

pub invariant_of-self : goal.invariant_of-self
invariant_of-self g c =
    let found = is-found c.self.invariant.0 c.lists-lists.ensures.once c.looked_up.ensures c.self.view_is
    c.requires.in_table (sym c.cell_of_line.ensures ∙ c.in-Some.is) in let was = read-value found c.get.ensures in
    let last = sym c.next.ensures ∙ is-none c.next.result (c.is_none.ensures ∙ ap not c.if-is_none.true) in
    let new = used-last c.args.value found last in let before = c.count_if_listed-before.ensures.count in
    let after = c.count_if_listed-after.ensures.count in (
      new.stored,
      counted g.V.Listed.is_listed new was before after c.self.invariant.1,
      c.change.ensures.order _ _ c.self.invariant.2 (exchanged g.V.Listed.is_listed new was before after),
      still-room g.V.Listed.is_listed c.self.invariant.0 new.cells c.self.invariant.3
          (λ room. c.change.ensures.kept _ c.self.invariant.2 (λ lt. room)),
      c.update_set_count.ensures ∙ recounted g.V.Listed.is_listed new was c.count_if_unlisted.ensures.count
          c.count_if_unlisted-2.ensures.count c.self.invariant.4,
    )

pub returns-then-is_none : goal.returns-then-is_none
returns-then-is_none g c =
    let found = is-found c.self.invariant.0 c.lists-lists.ensures.once c.looked_up.ensures c.self.view_is
    c.requires.in_table (sym c.cell_of_line.ensures ∙ c.in-Some.is) in
    let last = sym c.next.ensures ∙ is-none c.next.result (c.is_none.ensures ∙ ap not c.if-is_none.true) in
    rw (← c.self.view_is) (ap (table_of c.self.inside.ways) (used-last c.args.value found last).are)

pub get-requires : goal.get-requires
get-requires g c =
    let found = is-found c.self.invariant.0 c.lists-lists.ensures.once c.looked_up.ensures c.self.view_is
    c.requires.in_table (sym c.cell_of_line.ensures ∙ c.in-Some.is) in ap is_some found.cell

pub overflow_sub-self : goal.overflow_sub-self
overflow_sub-self g c =
    let found = is-found c.self.invariant.0 c.lists-lists.ensures.once c.looked_up.ensures c.self.view_is
    c.requires.in_table (sym c.cell_of_line.ensures ∙ c.in-Some.is) in
    in-count g.V.Listed.is_listed found c.get.ensures c.self.invariant.1 c.count_if_listed-before.ensures.count

pub overflow_add-self : goal.overflow_add-self
overflow_add-self g c =
    let fits = next-fits g.V.Listed.is_listed c.self.invariant.0 c.args.value c.self.invariant.1
    c.count_if_listed-after.ensures.count in
    omega (arith, fits)
