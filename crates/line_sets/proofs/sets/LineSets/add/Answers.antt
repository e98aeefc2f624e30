use Rattle.std.proofs.Common.{arith, refl, ap, ◌∙◌}
use Rattle.line_sets.proofs.ListedChanges.{can-count, counted, exchanged, next-fits, recounted, still-room}
use Rattle.line_sets.proofs.StoredSets.{table_of, is-free, is-new, is-ok, put-new, small-cell}
use Rattle.line_sets.proofs.sets.LineSets.add.Goals as goal

pub unwrap-cell-requires : goal.unwrap-cell-requires
unwrap-cell-requires g c =
    let fresh = is-new c.self.invariant.0 c.self.view_is c.requires.in_table c.requires.absent c.requires.way in
    is-ok c.push_back-pushed.result (λ err. is-free fresh (c.push_back-pushed.ensures.full.0 err))

pub push-requires-clause-room : goal.push-requires-clause-room
push-requires-clause-room g c =
    (is-new c.self.invariant.0 c.self.view_is c.requires.in_table c.requires.absent c.requires.way).row_room

pub push-requires-clause-cell : goal.push-requires-clause-cell
push-requires-clause-cell g c =
    let fresh = is-new c.self.invariant.0 c.self.view_is c.requires.in_table c.requires.absent c.requires.way in
    let after = rw c.unwrap-cell.ensures at c.push_back-pushed.ensures.after in
    small-cell c.args.value fresh c.lists-lists.ensures.cells (rw (← c.cell.view_is) at after)

pub invariant_of-self : goal.invariant_of-self
invariant_of-self g c =
    let fresh = is-new c.self.invariant.0 c.self.view_is c.requires.in_table c.requires.absent c.requires.way in
    let after = rw c.unwrap-cell.ensures at c.push_back-pushed.ensures.after in
    let free = rw c.unwrap-cell.ensures at c.push_back-pushed.ensures.fresh in
    let is = c.count_if_listed-after.ensures.count in
    let new = put-new c.cell.inside.0 c.args.value fresh (rw (← c.cell.view_is) at free)
    (rw (← c.cell.view_is) at after) c.push.ensures in (
      new.stored,
      omega (arith, counted g.V.Listed.is_listed new fresh.absent {n = 0} refl is c.self.invariant.1),
      c.change.ensures.order _ _ c.self.invariant.2 (exchanged g.V.Listed.is_listed new fresh.absent {n = 0} refl is),
      still-room g.V.Listed.is_listed c.self.invariant.0 new.cells c.self.invariant.3
          (λ room. c.change.ensures.kept _ c.self.invariant.2 (λ lt. room)),
      c.update_set_count.ensures ∙ recounted g.V.Listed.is_listed new fresh.absent refl
          c.count_if_unlisted.ensures.count
          c.self.invariant.4,
    )

pub update_set_count-requires : goal.update_set_count-requires
update_set_count-requires g c =
    let fresh = is-new c.self.invariant.0 c.self.view_is c.requires.in_table c.requires.absent c.requires.way in
    can-count g.V.Listed.is_listed c.args.set c.args.line fresh.stored fresh.low fresh.absent c.self.invariant.4 refl
    c.count_if_unlisted.ensures.one

pub returns : goal.returns
returns g c =
    let fresh = is-new c.self.invariant.0 c.self.view_is c.requires.in_table c.requires.absent c.requires.way in
    let after = rw c.unwrap-cell.ensures at c.push_back-pushed.ensures.after in
    let free = rw c.unwrap-cell.ensures at c.push_back-pushed.ensures.fresh in
    rw (← c.self.view_is) (ap (table_of c.self.inside.ways)
    (put-new c.cell.inside.0 c.args.value fresh (rw (← c.cell.view_is) at free)
    (rw (← c.cell.view_is) at after) c.push.ensures).are)

pub overflow_add-self : goal.overflow_add-self
overflow_add-self g c =
    let fits = next-fits g.V.Listed.is_listed c.self.invariant.0 c.args.value c.self.invariant.1
    c.count_if_listed-after.ensures.count in
    omega (arith, fits)
