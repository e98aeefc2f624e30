-- Orders of turns, each turn by the number of its thread.
use Rattle.std.specs.Prelude.{◌≡◌, ℕ, ◌<◌, Bool, true, false, List, [], ◌∷◌, ◌++◌, Some, if◌then◌else◌}
use Rattle.std.specs.List.{AllByRecursion}
use Rattle.physiological_order.specs.declared.operation.Op.{Op}
use Rattle.litmus_reader.specs.Litmus.{Litmus}
use Rattle.sequential_machine.specs.Turns.{Point, operation_at, turned, point_opened, values_at, IsFinished}
use Rattle.sequential_ends.specs.Packed.{IsRowOf}

-- the turns of this order lead from the opening to the point
pub data LedBy (test : Litmus) : List ℕ → Point → Type 0 where
  opened : LedBy test [] (point_opened test)
  turn : {order : List ℕ} {p : Point} (t : ℕ) (op : Op) → LedBy test order p → t < test.threads →
      operation_at test p t ≡ Some op → LedBy test (order ++ t ∷ []) (turned p t op)

-- they lead to a point at which all threads have finished, and the names have these values there
pub record EndsBy (test : Litmus) (order values : List ℕ) : Type 0 where
  pub point : Point
  pub led : LedBy test order point
  pub finished : IsFinished test point
  pub values_are : values ≡ values_at test point

-- an order with a turn more, or none if none is asked for
abbrev pub with_turn : Bool → List ℕ → ℕ → List ℕ
with_turn has order t = if has then order ++ t ∷ [] else []

-- what is kept with a point: an order that leads there, or none
abbrev pub IsOrderOf : Bool → Litmus → List ℕ → Point → Type 0
IsOrderOf true test order p = LedBy test order p
IsOrderOf false test order p = order ≡ []

-- what is kept with the values of an end
abbrev pub IsEndOrder : Bool → Litmus → List ℕ → List ℕ → Type 0
IsEndOrder true test order values = EndsBy test order values
IsEndOrder false test order values = order ≡ []

-- each row is that of a point that has such an order
abbrev pub AreLed : Bool → Litmus → List (List ℕ × List ℕ) → Type 0
AreLed has test rows =
    AllByRecursion (λ row. (p : Point) × IsRowOf test p row.0 × IsOrderOf has test row.1 p) rows

abbrev pub AreEndOrders : Bool → Litmus → List (List ℕ × List ℕ) → Type 0
AreEndOrders has test ends = AllByRecursion (λ end. IsEndOrder has test end.1 end.0) ends
