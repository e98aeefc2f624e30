use Rattle.std.proofs.Common.{arith, refl, sym, ap, ◌∙◌}
use Rattle.std.specs.Option.{is_some}
use Rattle.line_sets.proofs.ListedChanges.{can-count, counted, exchanged, in-count, recounted, still-room}
use Rattle.line_sets.proofs.StoredSets.{table_of, is-found, is-missing, nothing-cut, cut-off, read-value}
use Rattle.line_sets.proofs.sets.LineSets.remove.Goals as goal

pub update_set_count-requires : goal.update_set_count-requires
update_set_count-requires g c =
    let found = is-found c.self.invariant.0 c.lists-lists.ensures.once c.looked_up.ensures c.self.view_is c.requires
    (sym c.take_line.ensures.value ∙ c.in-Some.is) in
    can-count g.V.Listed.is_listed c.args.set c.args.line found.stored found.low
    (read-value found c.unlink-line.ensures.value)
    c.self.invariant.4 c.count_if_unlisted.ensures.count (omega arith)

pub returns-in_default-clause-value : goal.returns-in_default-clause-value
returns-in_default-clause-value g c = sym (is-missing c.args.set c.args.line c.self.invariant.0 c.self.view_is
    c.requires (sym c.take_line.ensures.value ∙ c.in_default.is))

pub returns-in_default-clause-after : goal.returns-in_default-clause-after
returns-in_default-clause-after g c =
    c.self.view_is ∙ ap (table_of c.args.self.now.ways) (nothing-cut c.args.set c.args.line c.self.invariant.0
    c.self.view_is c.requires (sym c.take_line.ensures.value ∙ c.in_default.is))

pub unlink-line-requires : goal.unlink-line-requires
unlink-line-requires g c =
    let found = is-found c.self.invariant.0 c.lists-lists.ensures.once c.looked_up.ensures c.self.view_is c.requires
    (sym c.take_line.ensures.value ∙ c.in-Some.is) in ap is_some found.cell

pub invariant_of-self-2 : goal.invariant_of-self-2
invariant_of-self-2 g c =
    let found = is-found c.self.invariant.0 c.lists-lists.ensures.once c.looked_up.ensures c.self.view_is c.requires
    (sym c.take_line.ensures.value ∙ c.in-Some.is) in let was = read-value found c.unlink-line.ensures.value in
    let new = cut-off found c.taken_off.ensures c.unlink-line.ensures.after c.in-Some.ensures.cut in
    let before = c.count_if_listed-before.ensures.count in (
      new.stored,
      omega (arith, counted g.V.Listed.is_listed new was {m = 0} before refl c.self.invariant.1),
      c.change.ensures.order _ _ c.self.invariant.2 (exchanged g.V.Listed.is_listed new was {m = 0} before refl),
      still-room g.V.Listed.is_listed c.self.invariant.0 new.cells c.self.invariant.3
          (λ room. c.change.ensures.kept _ c.self.invariant.2 (λ lt. room)),
      c.update_set_count.ensures ∙ recounted g.V.Listed.is_listed new was c.count_if_unlisted.ensures.count refl
          c.self.invariant.4,
    )

pub returns-clause-value : goal.returns-clause-value
returns-clause-value g c =
    let found = is-found c.self.invariant.0 c.lists-lists.ensures.once c.looked_up.ensures c.self.view_is c.requires
    (sym c.take_line.ensures.value ∙ c.in-Some.is) in
    rw (← c.self.view_is) (sym (read-value found c.unlink-line.ensures.value))

pub returns-clause-after : goal.returns-clause-after
returns-clause-after g c =
    let found = is-found c.self.invariant.0 c.lists-lists.ensures.once c.looked_up.ensures c.self.view_is c.requires
    (sym c.take_line.ensures.value ∙ c.in-Some.is) in
    rw (← c.self.view_is) (ap (table_of c.self.inside.ways)
    (cut-off found c.taken_off.ensures c.unlink-line.ensures.after c.in-Some.ensures.cut).are)

pub overflow_sub-self : goal.overflow_sub-self
overflow_sub-self g c =
    let found = is-found c.self.invariant.0 c.lists-lists.ensures.once c.looked_up.ensures c.self.view_is c.requires
    (sym c.take_line.ensures.value ∙ c.in-Some.is) in
    in-count g.V.Listed.is_listed found c.unlink-line.ensures.value c.self.invariant.1
    c.count_if_listed-before.ensures.count
