use Rattle.std.proofs.Common.{ℕ, ◌+◌, Bool, List, [], Option, option_map, sym, ap, ◌∙◌, arith, length, map, take}
use Rattle.std.specs.Borrow.{Bor}
use Rattle.litmus_reader.specs.TestViews.{test_of}
use Rattle.sequential_machine.specs.Turns.{Point}
use Rattle.litmus_reader.specs.Litmus.{Litmus}
use Rattle.sequential_ends.specs.Packed.{packed, IsRowOf}
use Rattle.sequential_ends.specs.Rows.{rows_in}
use Rattle.sequential_ends.specs.Orders.{IsOrderOf}
use Rattle.sequential_ends.specs.Layers.{with_turns, with_end, behind}
use Rattle.sequential_ends.proofs.Packing.{fold_next, get_packed, each_at, none_missing, passed_on}
use Rattle.sequential_ends.proofs.LayerPoints.{behind_grows, HasLists}
use Rattle.sequential_ends.proofs.layers.next_layer.Goals as goal
use Rattle.sequential_ends.proofs.layers.next_layer.Goals.{in-Some+in_default-added, in_default}

abbrev Borrowed : Type 0
Borrowed = Bor (List ℕ) × Bor (List ℕ)

abbrev now_of : Option Borrowed → Option (List ℕ × List ℕ)
now_of o = option_map (λ row. (row.0.now, row.1.now)) o

pub returns-in-Err-clause-many : goal.returns-in-Err-clause-many
returns-in-Err-clause-many c = λ points are told.
    let test = test_of c.args.test.now in
    let i = c.loop-number.number in
    let found = get_packed points c.args.layer.now i (c.in-Some.row.now, c.in-Some.order.now) are.0
    (sym c.get.ensures ∙ ap now_of c.in-Some.is) in
    let p = found.0 in
    let lists = each_at (HasLists test) points i p are.1 found.1 in
    let before = behind test (take i points) in
    let more = c.expand_point-added.ensures.many p before (found.2, lists) (c.loop-number.invariant.1 points are)
    (c.in-Err.is ∙ passed_on _ _ told) in
    let next = ap length (fold_next
    (λ (next : List Point) (q : Point). with_turns test q test.threads next) [] points i p
    found.1) in
    let grows = behind_grows test points (i + 1) in omega (arith, more, next, grows)

pub returns-in-Err-clause-small : goal.returns-in-Err-clause-small
returns-in-Err-clause-small c = λ told. c.expand_point-added.ensures.small (c.in-Err.is ∙ passed_on _ _ told)

abbrev IsLed : Bool → Litmus → List ℕ × List ℕ → Type 0
IsLed has test row = (p : Point) × IsRowOf test p row.0 × IsOrderOf has test row.1 p

pub loop-number-preserved : goal.loop-number-preserved
loop-number-preserved c =
    let test = test_of c.args.test.now in
    let i = c.loop-number.number in
    elim c.match-get.branch [
      | in-Some+in_default-added w ↦ (
        rw (w.next-is) w.in_default-added.ensures.few,
        λ points are.
            let found = get_packed points c.args.layer.now i (w.in-Some.row.now, w.in-Some.order.now) are.0
            (sym c.get.ensures ∙ ap now_of w.in-Some.is) in
            let lists = each_at (HasLists test) points i found.0 are.1 found.1 in
            ap rows_in w.next-is ∙ w.in_default-added.ensures.next found.0 (behind test (take i points))
            (found.2, lists)
            (c.loop-number.invariant.1 points are)
            ∙ ap (map packed) (sym (fold_next (λ (next : List Point) (q : Point). with_turns test q test.threads next)
            [] points i found.0 found.1)),
        λ points are.
            let found = get_packed points c.args.layer.now i (w.in-Some.row.now, w.in-Some.order.now) are.0
            (sym c.get.ensures ∙ ap now_of w.in-Some.is) in
            let lists = each_at (HasLists test) points i found.0 are.1 found.1 in
            ap rows_in w.ends-is ∙ w.in_default-added.ensures.ends found.0 (found.2, lists)
            ∙ ap (λ (ends : List (List ℕ)). with_end test ends found.0) (c.loop-number.invariant.2 points are)
            ∙ sym (fold_next (with_end test) (rows_in c.args.ends.now) points i found.0 found.1),
        λ led.
            let here = each_at (IsLed c.args.has_orders test) c.args.layer.now i
            (w.in-Some.row.now, w.in-Some.order.now) led (sym c.get.ensures ∙ ap now_of w.in-Some.is) in
            rw (w.next-is) (w.in_default-added.ensures.led here.0 here.1 here.2 (c.loop-number.invariant.3 led)),
        λ led each.
            let here = each_at (IsLed c.args.has_orders test) c.args.layer.now i
            (w.in-Some.row.now, w.in-Some.order.now) led (sym c.get.ensures ∙ ap now_of w.in-Some.is) in
            rw (w.ends-is) (w.in_default-added.ensures.orders here.0 here.1 here.2
            (c.loop-number.invariant.4 led each)),
      )
      | in_default w ↦
          let lt = c.loop-number-test.true in
          let end = c.len-number-end.ensures.count in
          absurd (none_missing c.args.layer.now i (omega (arith, lt, end))
          (sym c.get.ensures ∙ ap now_of w.in_default.is))
    ]
