use Rattle.std.proofs.Common.{◌≡◌, ℕ, suc, ◌+◌, ◌-◌, ◌*◌, ◌^◌, ◌≤◌, min, Err, ap₂, List, [], ◌∷◌, refl, sym, ap, ◌∙◌}
use Rattle.std.proofs.Common.{subst, arith, length, map, ⊎_elim}
use Rattle.std.proofs.lemmas.Bool.{cases_eq}
use Rattle.std.proofs.lemmas.Nat.{mul-le}
use Rattle.litmus_reader.specs.TestViews.{test_of}
use Rattle.litmus_reader.proofs.Lemmas.{well_formed}
use Rattle.sequential_ends.specs.Packed.{packed}
use Rattle.sequential_ends.specs.Layers.{layer, ends_before, with_ends, kept_at, states_before}
use Rattle.sequential_ends.proofs.Packing.{plus_one}
use Rattle.sequential_ends.proofs.LayerPoints.{lists_in}
use Rattle.sequential_ends.proofs.EveryEnd.{layer_few, layer_empty, layer_long, each_is_end, each_end_is, few_kept}
use Rattle.sequential_ends.proofs.EveryEnd.{stops}
use Rattle.std.proofs.lemmas.List.Elements.{All-from_recursion, recursion_from_All}
use Rattle.std.proofs.lemmas.List.Sorted.{All-permutation}
use Rattle.sequential_ends.specs.Orders.{IsEndOrder, AreLed, AreEndOrders}
use Rattle.sequential_ends.specs.Rows.{rows_in, with_ordered}
use Rattle.sequential_ends.proofs.KeptOrders.{opening_led}
use Rattle.sequential_ends.proofs.ends.list_ends.Goals as goal

pub loop-alloc-init : goal.loop-alloc-init
loop-alloc-init c =
    let has = c.args.has_orders in
    let test = test_of c.args.test.now in
    let row = c.in_ok-opening_row.field-0.items in
    let order = c.new.result.items in
    let is = c.in_ok-add.ensures.added
    ∙ ap (λ (rows : List (List ℕ × List ℕ)). with_ordered rows (row, order)) c.new-layer.ensures in
    let one = ap length is in
    let some = c.if-most_states-eq0.false in
    record {
      layer_is = ap rows_in is ∙ ap (λ (ws : List ℕ). ws ∷ []) c.in_ok-opening_row.ensures;
      rows_are = ap rows_in c.new-rows.ensures;
      states_are = refl;
      led = subst (λ (rows : List (List ℕ × List ℕ)). AreLed has test rows) (sym is)
          (opening_led test has row order c.in_ok-opening_row.ensures c.new.ensures.items);
      orders = subst (λ (ends : List (List ℕ × List ℕ)). AreEndOrders has test ends) (sym c.new-rows.ensures) tt;
      few = omega (arith, one, some);
      kept = λ j lt. absurd (omega (arith, lt));
    }

pub returns-then-most_states-eq0-clause-many : goal.returns-then-most_states-eq0-clause-many
returns-then-most_states-eq0-clause-many c = λ enough told.
    let same : 1 + c.threads.result ≡ enough = cc in
    let none = c.if-most_states-eq0.true in
    let threads = c.threads.ensures.count in
    let few = c.threads.ensures.few.1 in
    stops (test_of c.args.test.now) 0 c.args.most_states enough (λ j lt. absurd (omega (arith, lt)))
    (omega (arith, none)) (omega (arith, none)) (omega (arith, same, threads, few))

pub returns-in-Err-TooMany-clause-many : goal.returns-in-Err-TooMany-clause-many
returns-in-Err-TooMany-clause-many c = λ enough told.
    let test = test_of c.args.test.now in
    let k = c.loop-alloc.turns in
    let inv = c.loop-alloc.invariant in
    let refused = c.in-Err-TooMany.is ∙ ap Err c.in-Err-TooMany.field-0-is in
    let more = c.next_layer.ensures.many (layer test k) (inv.layer_is, lists_in test k) refused in
    let small = c.next_layer.ensures.small refused in
    let long = layer_long test k c.loop-alloc.layer inv.layer_is in
    let is = c.len-in-loop-alloc-2.ensures.count in
    let short = c.len-in-loop-alloc-2.ensures.small in
    let few = inv.few in
    let same : c.saturating_mul-enough.result ≡ enough = cc in
    stops test k c.args.most_states enough inv.kept (omega (arith, more, long, is, few))
    (omega (arith, small, is, short))
    (sym same ∙ c.saturating_mul-enough.ensures
    ∙ ap₂ (λ (n threads : ℕ). min (n * (1 + threads)) (2 ^ 64 - 1)) (c.len-in-Err-TooMany.ensures.count ∙ long)
    c.threads-in-Err-TooMany.ensures.count)

pub overflow_add-turns : goal.overflow_add-turns
overflow_add-turns c =
    let test = test_of c.args.test.now in
    let small = c.args.test.now.cells.small in
    let some = c.loop-alloc-test.true in
    let is = c.len.ensures.count in
    let le = layer_few test c.loop-alloc.turns c.loop-alloc.layer c.loop-alloc.invariant.layer_is
    (omega (arith, some, is)) in
    let most = mul-le test.threads (length test.cells) 16 (2 ^ 63) c.args.test.now.few.1 (omega (arith, small)) in
    omega (arith, le, most)

pub loop-alloc-smaller : goal.loop-alloc-smaller
loop-alloc-smaller c =
    let some = c.loop-alloc-test.true in
    let is = c.len.ensures.count in
    let le = layer_few (test_of c.args.test.now) c.loop-alloc.turns c.loop-alloc.layer c.loop-alloc.invariant.layer_is
    (omega (arith, some, is)) in omega (arith, le)

pub loop-alloc-preserved : goal.loop-alloc-preserved
loop-alloc-preserved c =
    let test = test_of c.args.test.now in
    let k = c.loop-alloc.turns in
    let inv = c.loop-alloc.invariant in
    let next = c.in-Ok.ensures in
    let long = layer_long test k c.loop-alloc.layer inv.layer_is in
    let room = next.few in
    let is = c.len-in-loop-alloc-2.ensures.count in
    let few = inv.few in
    let sum = c.saturating_add-states.ensures in
    let old = inv.states_are in
    let len = c.len-in-loop-alloc.ensures.count in
    let more : states_before test (k + 1) ≡ states_before test k + length (layer test k) =
    ap (states_before test) (sym (plus_one k)) in
    record {
      layer_is = next.next (layer test k) (inv.layer_is, lists_in test k)
          ∙ ap (λ (n : ℕ). map packed (layer test n)) (plus_one k);
      rows_are = next.ends (layer test k) (inv.layer_is, lists_in test k)
          ∙ ap (λ (es : List (List ℕ)). with_ends test es (layer test k)) inv.rows_are
          ∙ ap (ends_before test) (plus_one k);
      states_are = omega (arith, sum, old, len, long, more);
      led = next.led inv.led;
      orders = next.orders inv.led inv.orders;
      few = omega (arith, room, few);
      kept = λ j lt.
          ⊎_elim
          (λ (e : j ≡ k). subst (λ (i : ℕ). kept_at test i ≤ c.args.most_states) (sym e)
          (let after = layer_long test (suc k) c.in-Ok.next (next.next (layer test k)
          (inv.layer_is, lists_in test k)) in omega (arith, room, few, is, long, after)))
          (λ (ne : j ≡ k → ⊥). inv.kept j (omega (arith, lt, ne)))
          (cases_eq j k);
    }

pub returns-clause-states : goal.returns-clause-states
returns-clause-states c =
    let inv = c.loop-alloc.invariant in
    let over = c.loop-alloc-test.false in
    let len = c.len.ensures.count in
    record {
      last = c.loop-alloc.turns;
      none_left = layer_empty (test_of c.args.test.now) c.loop-alloc.turns c.loop-alloc.layer inv.layer_is
          (omega (arith, over, len));
      count = inv.states_are;
    }

pub returns-clause-outcomes : goal.returns-clause-outcomes
returns-clause-outcomes c = λ values there.
    let test = test_of c.args.test.now in
    let inv = c.loop-alloc.invariant in
    let over = c.loop-alloc-test.false in
    let len = c.len.ensures.count in
    let none = layer_empty test c.loop-alloc.turns c.loop-alloc.layer inv.layer_is (omega (arith, over, len)) in
    c.ends_of_turns_are_outcomes.ensures.sound test values (well_formed c.args.test.now)
    (each_is_end test c.loop-alloc.turns none c.loop-alloc.rows c.sort.new.self inv.rows_are c.in_ok-sort.ensures.same
    values there)

pub returns-clause-all : goal.returns-clause-all
returns-clause-all c = λ values outcome.
    let test = test_of c.args.test.now in
    let inv = c.loop-alloc.invariant in
    let over = c.loop-alloc-test.false in
    let len = c.len.ensures.count in
    let none = layer_empty test c.loop-alloc.turns c.loop-alloc.layer inv.layer_is (omega (arith, over, len)) in
    each_end_is test c.loop-alloc.turns none c.loop-alloc.rows c.sort.new.self inv.rows_are c.in_ok-sort.ensures.same
    values (c.ends_of_turns_are_outcomes.ensures.complete test values (well_formed c.args.test.now) outcome)

pub returns-clause-few : goal.returns-clause-few
returns-clause-few c =
    let test = test_of c.args.test.now in
    let inv = c.loop-alloc.invariant in
    let over = c.loop-alloc-test.false in
    let len = c.len.ensures.count in
    let none = layer_empty test c.loop-alloc.turns c.loop-alloc.layer inv.layer_is (omega (arith, over, len)) in
    few_kept test c.loop-alloc.turns none c.loop-alloc.rows c.sort.new.self inv.rows_are c.in_ok-sort.ensures.same
    c.args.most_states inv.kept

pub returns-clause-orders : goal.returns-clause-orders
returns-clause-orders c =
    let P : List ℕ × List ℕ → Type 0 = λ end. IsEndOrder c.args.has_orders (test_of c.args.test.now) end.1 end.0 in
    recursion_from_All P c.sort.new.self (All-permutation P c.loop-alloc.rows c.sort.new.self c.in_ok-sort.ensures.same
    (All-from_recursion P c.loop-alloc.rows c.loop-alloc.invariant.orders))
