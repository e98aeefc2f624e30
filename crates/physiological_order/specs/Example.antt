-- A store and a load of one core.
use Rattle.std.specs.Prelude.{ℕ, List, [], ◌∷◌, Some, None, if◌then◌else◌, ◌==◌}
use Rattle.physiological_order.specs.declared.operation.Op.{Op}
use Rattle.physiological_order.specs.declared.operation.Op.TheVariants.{Load, Store}
use Rattle.physiological_order.specs.declared.operation.Record.{Record}

abbrev pub two_issued : ℕ → List Op
two_issued core = if core == 0 then Store 0 1 ∷ Load 0 ∷ [] else []

abbrev pub two_records : ℕ → List Record
two_records received =
    record { core = 0; place = 0; op = Store 0 1; received = None; ts = 1; number = 0 }
    ∷ record { core = 0; place = 1; op = Load 0; received = Some received; ts = 1; number = 1 } ∷ []
