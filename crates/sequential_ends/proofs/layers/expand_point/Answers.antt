use Rattle.std.proofs.Common.{Bool, if◌then◌else◌, sym, ap, ◌∙◌}
use Rattle.litmus_reader.specs.TestViews.{test_of}
use Rattle.sequential_machine.specs.Turns.{values_at}
use Rattle.sequential_ends.specs.Rows.{rows_in, with_row}
use Rattle.sequential_ends.proofs.RowLists.{ordered_added}
use Rattle.sequential_ends.proofs.KeptOrders.{end_led}
use Rattle.sequential_ends.proofs.layers.expand_point.Goals as goal

pub returns-in-Ok-true-clause-ends : goal.returns-in-Ok-true-clause-ends
returns-in-Ok-true-clause-ends c = λ p is.
    let ends = rows_in c.args.ends.now in
    let others = with_row ends (values_at (test_of c.args.test.now) p) in
    sym (ap (λ (b : Bool). if b then ends else others) (sym (c.in-Ok-true.ensures.moved p is)
    ∙ c.in-Ok-true.field-0-test))

pub returns-clause-ends : goal.returns-clause-ends
returns-clause-ends c = λ p is.
    let ends = rows_in c.args.ends.now in
    let others = with_row ends (values_at (test_of c.args.test.now) p) in
    ap rows_in c.in_ok-add.ensures.added ∙ sym (ordered_added c.args.ends.now _)
    ∙ ap (with_row ends) (c.in_ok-values.ensures p is)
    ∙ sym (ap (λ (b : Bool). if b then ends else others) (sym (c.in-Ok-false.ensures.moved p is)
    ∙ c.in-Ok-false.field-0-test))

pub returns-clause-orders : goal.returns-clause-orders
returns-clause-orders c = λ p is led each.
    rw (c.in_ok-add.ensures.added) (end_led (test_of c.args.test.now) c.args.has_orders c.args.ends.now p _
    c.args.order.now _ each led (sym (c.in-Ok-false.ensures.moved p is) ∙ c.in-Ok-false.field-0-test)
    (c.in_ok-values.ensures p is) c.in_ok-from_slice.ensures.items)
