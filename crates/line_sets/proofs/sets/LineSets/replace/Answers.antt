use Rattle.std.proofs.Common.{arith, sym, ap, ◌∙◌, true≢false}
use Rattle.std.specs.Option.{is_some}
use Rattle.line_sets.proofs.ListedChanges.{can-count, counted, exchanged, in-count, next-fits, recounted, still-room}
use Rattle.line_sets.proofs.StoredSets.{table_of, is-found, is-missing, read-value, written}
use Rattle.line_sets.proofs.sets.LineSets.replace.Goals as goal

pub update_set_count-requires : goal.update_set_count-requires
update_set_count-requires g c =
    let found = is-found c.self.invariant.0 c.lists-lists.ensures.once c.looked_up.ensures c.self.view_is
    c.requires.in_table (sym c.cell_of_line.ensures ∙ c.in-Some.is) in
    can-count g.V.Listed.is_listed c.args.set c.args.line found.stored found.low (read-value found c.get.ensures)
    c.self.invariant.4
    c.count_if_unlisted.ensures.count c.count_if_unlisted-in-Some.ensures.one

pub get_mut-requires : goal.get_mut-requires
get_mut-requires g c =
    let found = is-found c.self.invariant.0 c.lists-lists.ensures.once c.looked_up.ensures c.self.view_is
    c.requires.in_table (sym c.cell_of_line.ensures ∙ c.in-Some.is) in ap is_some found.cell

pub get-requires : goal.get-requires
get-requires g c =
    let found = is-found c.self.invariant.0 c.lists-lists.ensures.once c.looked_up.ensures c.self.view_is
    c.requires.in_table (sym c.cell_of_line.ensures ∙ c.in-Some.is) in ap is_some found.cell

pub overflow_sub-self : goal.overflow_sub-self
overflow_sub-self g c =
    let found = is-found c.self.invariant.0 c.lists-lists.ensures.once c.looked_up.ensures c.self.view_is
    c.requires.in_table (sym c.cell_of_line.ensures ∙ c.in-Some.is) in
    in-count g.V.Listed.is_listed found c.get.ensures c.self.invariant.1 c.count_if_listed-before.ensures.count

pub overflow_add-self : goal.overflow_add-self
overflow_add-self g c =
    let fits = next-fits g.V.Listed.is_listed c.self.invariant.0 c.args.value c.self.invariant.1
    c.count_if_listed-after.ensures.count in
    omega (arith, fits)

pub invariant_of-self : goal.invariant_of-self
invariant_of-self g c =
    let found = is-found c.self.invariant.0 c.lists-lists.ensures.once c.looked_up.ensures c.self.view_is
    c.requires.in_table (sym c.cell_of_line.ensures ∙ c.in-Some.is) in let was = read-value found c.get.ensures in
    let new = written c.args.value found in let before = c.count_if_listed-before.ensures.count in
    let after = c.count_if_listed-after.ensures.count in (
      new.stored,
      counted g.V.Listed.is_listed new was before after c.self.invariant.1,
      c.change.ensures.order _ _ c.self.invariant.2 (exchanged g.V.Listed.is_listed new was before after),
      still-room g.V.Listed.is_listed c.self.invariant.0 new.cells c.self.invariant.3
          (λ room. c.change.ensures.kept _ c.self.invariant.2 (λ lt. room)),
      c.update_set_count.ensures ∙ recounted g.V.Listed.is_listed new was c.count_if_unlisted.ensures.count
          c.count_if_unlisted-in-Some.ensures.count
          c.self.invariant.4,
    )

pub returns-in-Some : goal.returns-in-Some
returns-in-Some g c =
    let found = is-found c.self.invariant.0 c.lists-lists.ensures.once c.looked_up.ensures c.self.view_is
    c.requires.in_table (sym c.cell_of_line.ensures ∙ c.in-Some.is) in
    rw (← c.self.view_is) (ap (table_of c.self.inside.ways) (written c.args.value found).are)

pub returns-in_default : goal.returns-in_default
returns-in_default g c =
    let none = ap is_some (is-missing c.args.set c.args.line c.self.invariant.0 c.self.view_is c.requires.in_table
    (sym c.cell_of_line.ensures ∙ c.in_default.is)) in absurd (true≢false (sym c.requires.there ∙ none))
