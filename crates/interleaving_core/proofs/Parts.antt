-- What the shape of a machine says of its cores.
use Rattle.std.proofs.Common.{◌≡◌, ℕ, ◌<◌, Some, arith}
use Rattle.std.specs.List.{slice_get}
use Rattle.std.proofs.lemmas.Option.{slice_get_within}
use Rattle.core_pts.specs.CoreTable.{CoreState}
use Rattle.machine_table.specs.Machine.{Machine}
use Rattle.machine_theorem.specs.Kept.{Invariant}
use Rattle.machine_theorem.proofs.Lemmas.{core_shape}

pub core_below : (m : Machine) → Invariant m → (c : ℕ) (core : CoreState) → slice_get m.cores c ≡ Some core →
    core.number < m.config.cores
core_below m s c core here =
    let is = core_shape m s c core here in
    let n = is.numbered in
    let count = s.core_count in
    let within = slice_get_within m.cores c core here in
    omega arith

pub core_banks : (m : Machine) → Invariant m → (c : ℕ) (core : CoreState) → slice_get m.cores c ≡ Some core →
    core.banks ≡ m.config.banks
core_banks m s c core here = (core_shape m s c core here).banks
