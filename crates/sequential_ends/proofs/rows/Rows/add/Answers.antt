use Rattle.std.proofs.Common.{ℕ, sym, ap, ◌∙◌}
use Rattle.std.specs.Global.{Vec}
use Rattle.std.specs.Str.{bytes_eq}
use Rattle.indexmap.proofs.CallerLemmas.{insert_entry-new}
use Rattle.sequential_ends.proofs.RowLists.{is_none, ordered_of, row_there, row_new}
use Rattle.sequential_ends.proofs.rows.Rows.add.Goals as goal

pub returns-then-contains_key-clause-added : goal.returns-then-contains_key-clause-added
returns-then-contains_key-clause-added c =
    rw (← c.self.view_is) (row_there c.self.inside.rows.entries c.args.row c.args.order
    (sym c.contains_key.ensures ∙ c.if-contains_key.true))

pub returns-clause-added : goal.returns-clause-added
returns-clause-added c =
    let absent = sym c.contains_key.ensures ∙ c.if-contains_key.false in
    rw (← c.self.view_is) (ap ordered_of (c.in_ok-insert.ensures.entries
    ∙ insert_entry-new (λ (a b : Vec ℕ). bytes_eq a.items b.items) c.self.inside.rows c.args.row c.args.order
    (is_none _ absent)) ∙ row_new c.self.inside.rows.entries c.args.row c.args.order absent)
