-- The order of a row leads to the row's point.
use Rattle.std.proofs.Common.{◌≡◌, ℕ, zero, suc, ◌<◌, Bool, true, false, List, [], ◌∷◌, length, Some, refl, sym, ap}
use Rattle.std.proofs.Common.{◌∙◌, subst, arith, length-append}
use Rattle.std.proofs.lemmas.Slice.Eq.{bytes_eq-Decides}
use Rattle.physiological_order.specs.declared.operation.Op.{Op}
use Rattle.litmus_reader.specs.Litmus.{Litmus}
use Rattle.sequential_machine.specs.Turns.{Point, operation_at, turned, with_received, values_at}
use Rattle.sequential_machine.specs.Turns.{point_opened, Reached, opened as nothing_done, turn as one_more}
use Rattle.sequential_machine.proofs.Lemmas.{lists_count}
use Rattle.sequential_ends.specs.Packed.{packed, IsRowOf}
use Rattle.sequential_ends.specs.Rows.{of_one_row, with_ordered}
use Rattle.sequential_ends.specs.Layers.{has_turn}
use Rattle.sequential_ends.specs.Orders.{with_turn, LedBy, IsOrderOf, IsEndOrder, AreLed, AreEndOrders, opened, turn}
use Rattle.sequential_ends.proofs.LayerPoints.{each_added, turn_over}

row_itself : (row : List ℕ × List ℕ) → of_one_row row row ≡ true
row_itself row = (bytes_eq-Decides row.0 row.0).1 refl

lists_stay : (lists : List (List ℕ)) (t v : ℕ) → length (with_received lists t v) ≡ length lists
lists_stay [] t v = refl
lists_stay (vs ∷ lists) zero v = refl
lists_stay (vs ∷ lists) (suc t) v = ap suc (lists_stay lists t v)

module _ (test : Litmus) where
  pub led_reached : (order : List ℕ) (p : Point) → LedBy test order p → Reached test (length order) p
  led_reached _ _ opened = nothing_done
  led_reached _ _ (turn {order = order} {p = p} t op led lt e) =
      subst (λ k. Reached test k (turned p t op)) (omega (arith, length-append order (t ∷ [])))
      (one_more t op (led_reached order p led) lt e)

  order_turned : (has : Bool) (p : Point) (t : ℕ) (x : Op) (order : List ℕ) → IsOrderOf has test order p →
      t < test.threads → operation_at test p t ≡ Some x → IsOrderOf has test (with_turn has order t) (turned p t x)
  order_turned true p t x order led lt e = turn t x led lt e
  order_turned false p t x order led lt e = refl

  order_opened : (has : Bool) → IsOrderOf has test [] (point_opened test)
  order_opened true = opened
  order_opened false = refl

  pub opening_led : (has : Bool) (row order : List ℕ) → row ≡ packed (point_opened test) → order ≡ [] →
      AreLed has test (with_ordered [] (row, order))
  opening_led has row order is none = (
    (
      point_opened test,
      (is, lists_count test 0 (point_opened test) nothing_done),
      subst (λ (o : List ℕ). IsOrderOf has test o (point_opened test)) (sym none) (order_opened has),
    ),
    tt,
  )

  pub turn_led : (has : Bool) (next : List (List ℕ × List ℕ)) (p : Point) (t : ℕ) (x : Op)
      (row order after : List ℕ) → AreLed has test next → length p.received ≡ test.threads →
      IsOrderOf has test order p →
      t < test.threads → operation_at test p t ≡ Some x → row ≡ packed (turned p t x) → after ≡ with_turn has order t →
      AreLed has test (with_ordered next (row, after))
  turn_led has next p t x row order after each lists led lt e is by =
      each_added of_one_row row_itself (λ r. (q : Point) × IsRowOf test q r.0 × IsOrderOf has test r.1 q) next
      (row, after) each (
        turned p t x,
        (is, lists_stay p.received t _ ∙ lists),
        subst (λ (o : List ℕ). IsOrderOf has test o (turned p t x)) (sym by) (order_turned has p t x order led lt e),
      )

  end_order : (has : Bool) (p : Point) (order : List ℕ) → IsOrderOf has test order p →
      has_turn test p test.threads ≡ false → IsEndOrder has test order (values_at test p)
  end_order true p order led over = record {
    point = p;
    led = led;
    finished = turn_over test p test.threads over;
    values_are = refl;
  }
  end_order false p order led over = led

  pub end_led : (has : Bool) (ends : List (List ℕ × List ℕ)) (p : Point) (values order after : List ℕ) →
      AreEndOrders has test ends → IsOrderOf has test order p → has_turn test p test.threads ≡ false →
      values ≡ values_at test p → after ≡ order → AreEndOrders has test (with_ordered ends (values, after))
  end_led has ends p values order after each led over is by =
      each_added of_one_row row_itself (λ end. IsEndOrder has test end.1 end.0) ends (values, after) each
      (rw (is, by) (end_order has p order led over))
