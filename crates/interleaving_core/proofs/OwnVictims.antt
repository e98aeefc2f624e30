-- The victim for the line of a core's open operation.
use Rattle.std.proofs.Common.{◌≡◌, ℕ, Option, Some, None, refl, sym, ap, ◌∙◌, ◌/◌}
use Rattle.std.specs.List.{slice_get}
use Rattle.std.specs.Option.{option_map}
use Rattle.physiological_order.specs.declared.operation.Op.{Op}
use Rattle.physiological_order.specs.Order.{address}
use Rattle.private_cache.specs.CopyTable.{victim_for}
use Rattle.core_pts.specs.CoreTable.{CoreState}
use Rattle.core_pts.specs.OpenCopy.{open_victim}
use Rattle.machine_table.specs.Machine.{Machine}
use Rattle.machine_theorem.specs.Kept.{Invariant}
use Rattle.machine_theorem.proofs.Lemmas.{core_shape}
use Rattle.interleaving_core.specs.LookUps.{victim_for_core, victim_of}

-- a core has lines of the machine's words
pub own_victim :
    (m : Machine) → Invariant m → (n : ℕ) (core : CoreState) (op : Option Op) → slice_get m.cores n ≡ Some core →
    open_victim core op ≡ victim_for_core m n (option_map (λ op. (op, core.is_out)) op)
own_victim m kept n core None there = refl
own_victim m kept n core (Some op) there =
    ap (λ words. victim_for core.cache (address op / words)) (core_shape m kept n core there).line_words
    ∙ ap (victim_of (address op / m.config.line_words)) (sym there)
