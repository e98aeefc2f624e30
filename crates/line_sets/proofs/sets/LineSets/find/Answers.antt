use Rattle.std.proofs.Common.{sym, ap, ◌∙◌}
use Rattle.std.specs.Option.{is_some}
use Rattle.line_sets.proofs.StoredSets.{is-found, is-missing, read-value}
use Rattle.line_sets.proofs.sets.LineSets.find.Goals as goal

pub returns-in_default : goal.returns-in_default
returns-in_default g c = sym (is-missing c.args.set c.args.line c.self.invariant.0 c.self.view_is c.requires
    (sym c.cell_of_line.ensures ∙ c.in_default.is))

pub get-requires : goal.get-requires
get-requires g c =
    let found = is-found c.self.invariant.0 c.lists-lists.ensures.once c.looked_up.ensures c.self.view_is c.requires
    (sym c.cell_of_line.ensures ∙ c.in-Some.is) in ap is_some found.cell

pub returns : goal.returns
returns g c =
    let found = is-found c.self.invariant.0 c.lists-lists.ensures.once c.looked_up.ensures c.self.view_is c.requires
    (sym c.cell_of_line.ensures ∙ c.in-Some.is) in rw (← c.self.view_is) (sym (read-value found c.get.ensures))
