-- A store and a swap are never counted.
use Rattle.std.proofs.Common.{◌≡◌, ℕ, List, true, refl}
use Rattle.std.proofs.lemmas.Bool.{false≢true}
use Rattle.physiological_order.specs.declared.operation.Op.{Op}
use Rattle.physiological_order.specs.declared.operation.Op.TheVariants.{Load, Store, Swap}
use Rattle.physiological_order.specs.declared.operation.Record.{Record}
use Rattle.physiological_order.specs.StaleHits.{is_stale_load}
use Rattle.physiological_order.proofs.laws.stale_hits_are_loads.Goals as goal

is_load : (op : Op) (records : List Record) (r : Record) → is_stale_load op records r ≡ true → (a : ℕ) × (op ≡ Load a)
is_load (Load a) records r is = (a, refl)
is_load (Store a v) records r is = absurd (false≢true is)
is_load (Swap a v) records r is = absurd (false≢true is)

pub returns : goal.returns
returns c = is_load
