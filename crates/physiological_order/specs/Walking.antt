-- A walk along arranged records.
use Rattle.std.specs.Prelude.{◌≡◌, ℕ, ◌<◌, List, length, Some, slice_get, slice_index}
use Rattle.physiological_order.specs.declared.operation.Record.{Record}
use Rattle.physiological_order.specs.Faults.{IssuedLists, issued_by}

-- the record's place is the count of its core's records before it, and its operation the one issued there
pub record IsNext (issued : IssuedLists) (places : List ℕ) (r : Record) : Type 0 where
  pub core_there : r.core < length issued
  pub place : slice_index places r.core ≡ r.place
  pub operation : slice_get (issued_by issued r.core) r.place ≡ Some r.op
