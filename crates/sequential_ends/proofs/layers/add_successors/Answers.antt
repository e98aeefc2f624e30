use Rattle.std.proofs.Common.{◌≡◌, ◌+◌, ℕ, List, [], Some, None, sym, ap, ◌∙◌, arith, length, map, drop}
use Rattle.std.specs.Prelude.{slice_index_or}
use Rattle.std.proofs.lemmas.List.{length-map}
use Rattle.litmus_reader.specs.TestViews.{test_of}
use Rattle.litmus_reader.specs.ThreadSteps.{next_operation}
use Rattle.sequential_machine.specs.Turns.{Point, resumed, thread_started, operation_at}
use Rattle.sequential_ends.specs.Packed.{packed, packed_lists, IsRowOf}
use Rattle.sequential_ends.specs.Layers.{with_turns, has_turn}
use Rattle.sequential_ends.specs.Rows.{rows_in, with_ordered}
use Rattle.sequential_ends.proofs.KeptOrders.{turn_led}
use Rattle.sequential_ends.proofs.Packing.{list_next, turn_added, turns_next, has_next, or_true, or_false, passed_on}
use Rattle.sequential_ends.proofs.LayerPoints.{turns_grow}
use Rattle.sequential_ends.proofs.layers.add_successors.Goals as goal
use Rattle.sequential_ends.proofs.layers.add_successors.Goals.{in-Some+in_ok-after+in_ok-led+in_default-add_point_row}
use Rattle.sequential_ends.proofs.layers.add_successors.Goals.{in_default}

pub returns-in-Err-clause-many : goal.returns-in-Err-clause-many
returns-in-Err-clause-many c = λ p points is from told.
    let test = test_of c.args.test.now in
    let t = c.loop-thread.thread in
    let lt = c.loop-thread-test.true in
    let end = c.threads-thread-end.ensures.count in
    let lists = is.1 in
    let whole = c.split_first_list.ensures.split p.words (packed_lists p.received) is.0 in
    let left = c.loop-thread.invariant.2 p is in
    let parts = c.split_first_list-in-loop-thread.ensures.split _ _ (left
    ∙ list_next p.received t (omega (arith, lt, end, lists))) in
    let gives : operation_at test p t ≡ Some c.in-Some.op =
    sym (c.next.ensures ∙ ap next_operation (c.thread_after_received.ensures ∙ ap (resumed
    (thread_started test t)) parts.0)) ∙ c.in-Some.is in
    let row = c.in_ok-after.ensures p t (omega (arith, lt, end, lists)) whole.0 whole.1 left in
    let more = c.add_point_row.ensures.many (c.in-Err.is ∙ passed_on _ _ told) in
    let added = with_ordered c.loop-thread.next (c.in_ok-after.after.items, c.in_ok-led.led.items) in
    let rows = sym (length-map added (λ (r : List ℕ × List ℕ). r.0))
    ∙ ap length (turn_added test p t points c.in-Some.op c.loop-thread.next
    (c.in_ok-after.after.items, c.in_ok-led.led.items) (c.loop-thread.invariant.4 p points is from) row gives)
    ∙ length-map (with_turns test p (t + 1) points) packed in
    let grows = turns_grow test p (t + 1) c.args.test.now.threads points (omega (arith, lt, end)) in
    omega (arith, more, rows, grows)

pub returns-in-Err-clause-small : goal.returns-in-Err-clause-small
returns-in-Err-clause-small c = λ told. c.add_point_row.ensures.small (c.in-Err.is ∙ passed_on _ _ told)

parts : (c : goal.Joined-next) (p : Point) → IsRowOf (test_of c.args.test.now) p c.args.row.now →
    (c.split_first_list-in-loop-thread.result.0.now ≡ slice_index_or p.received c.loop-thread.thread [])
    × (c.split_first_list-in-loop-thread.result.1.now ≡ packed_lists (drop (c.loop-thread.thread + 1) p.received))
parts c p is =
    let lt = c.loop-thread-test.true in
    let end = c.threads-thread-end.ensures.count in
    let lists = is.1 in
    c.split_first_list-in-loop-thread.ensures.split _ _ (c.loop-thread.invariant.2 p is
    ∙ list_next p.received c.loop-thread.thread (omega (arith, lt, end, lists)))

gives : (c : goal.Joined-next) (p : Point) → IsRowOf (test_of c.args.test.now) p c.args.row.now →
    operation_at (test_of c.args.test.now) p c.loop-thread.thread ≡ c.next.result
gives c p is =
    sym (c.next.ensures ∙ ap next_operation (c.thread_after_received.ensures
    ∙ ap (resumed (thread_started (test_of c.args.test.now) c.loop-thread.thread)) (parts c p is).0))

pub loop-thread-preserved : goal.loop-thread-preserved
loop-thread-preserved c =
    let test = test_of c.args.test.now in
    let t = c.loop-thread.thread in
    let lt = c.loop-thread-test.true in
    let end = c.threads-thread-end.ensures.count in
    let before = c.loop-thread.invariant.0 in
    let shorter = c.split_first_list-in-loop-thread.ensures.shorter in
    elim c.match-next.branch [
      | in-Some+in_ok-after+in_ok-led+in_default-add_point_row w ↦ (
        omega (arith, before, shorter),
        rw (w.next-is) w.in_default-add_point_row.ensures.few,
        λ p is. (parts c p is).1,
        λ p is. w.moved-is ∙ or_true (has_turn test p t)
            ∙ sym (has_next test p t (Some w.in-Some.op) (gives c p is ∙ w.in-Some.is)),
        λ p points is from.
            let whole = c.split_first_list.ensures.split p.words (packed_lists p.received) is.0 in
            let left = c.loop-thread.invariant.2 p is in
            let lists = is.1 in
            let row = w.in_ok-after.ensures p t (omega (arith, lt, end, lists)) whole.0 whole.1 left in
            ap rows_in (w.next-is ∙ w.in_default-add_point_row.ensures.added)
            ∙ turn_added test p t points w.in-Some.op c.loop-thread.next
            (w.in_ok-after.after.items, w.in_ok-led.led.items) (c.loop-thread.invariant.4 p points is from) row
            (gives c p is ∙ w.in-Some.is),
        λ p is led each.
            let whole = c.split_first_list.ensures.split p.words (packed_lists p.received) is.0 in
            let lists = is.1 in
            let row = w.in_ok-after.ensures p t (omega (arith, lt, end, lists)) whole.0 whole.1
            (c.loop-thread.invariant.2 p is) in
            rw (w.next-is, w.in_default-add_point_row.ensures.added) (turn_led test c.args.has_orders c.loop-thread.next
            p t w.in-Some.op _ c.args.order.now _ (c.loop-thread.invariant.5 p is led each) is.1 led
            (omega (arith, lt, end)) (gives c p is ∙ w.in-Some.is) row w.in_ok-led.ensures),
      )
      | in_default w ↦ (
        omega (arith, before, shorter),
        rw (w.next-is) c.loop-thread.invariant.1,
        λ p is. (parts c p is).1,
        λ p is. w.moved-is ∙ c.loop-thread.invariant.3 p is ∙ or_false (has_turn test p t)
            ∙ sym (has_next test p t None (gives c p is ∙ w.in_default.is)),
        λ p points is from. ap rows_in w.next-is ∙ c.loop-thread.invariant.4 p points is from
            ∙ ap (map packed) (sym (turns_next test p t points None (gives c p is ∙ w.in_default.is))),
        λ p is led each. rw (w.next-is) (c.loop-thread.invariant.5 p is led each),
      )
    ]
