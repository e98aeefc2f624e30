-- How many operations are open.
use Rattle.std.proofs.Common.{◌≡◌, ℕ, zero, suc, ◌+◌, ◌≤◌, List, [], ◌∷◌, length, set, Bool, true, false, is_some}
use Rattle.std.proofs.Common.{option_map, Option, Some, None, refl, ap, arith}
use Rattle.std.specs.List.{slice_get}
use Rattle.physiological_order.specs.declared.operation.Op.{Op}
use Rattle.core_pts.specs.CoreTable.{CoreState}
use Rattle.machine_table.specs.declared.config.Config.{Config}
use Rattle.machine_table.specs.Opening.{open_core, row}
use Rattle.interleaving_core.specs.Reservation.{owed_for, owed}

-- where a core changes, its open operation counts anew
pub owed_set : (cores : List CoreState) (c : ℕ) (old new : CoreState) → slice_get cores c ≡ Some old →
    owed (set cores c new) + owed_for old.open_op ≡ owed cores + owed_for new.open_op
owed_set [] c old new here = cc
owed_set (core ∷ cores) zero old new here = let e : Some core ≡ Some old =
    here in let o : owed_for core.open_op ≡ owed_for old.open_op = ap owed_of e in omega arith
  where
    owed_of : Option CoreState → ℕ
    owed_of None = 0
    owed_of (Some x) = owed_for x.open_op
owed_set (core ∷ cores) (suc c) old new here = let rest = owed_set cores c old new here in omega arith

pub owed_kept : (cores : List CoreState) (c : ℕ) (old new : CoreState) → slice_get cores c ≡ Some old →
    new.open_op ≡ old.open_op → owed (set cores c new) ≡ owed cores
owed_kept cores c old new here kept = let all = owed_set cores c old new here in let one =
    ap owed_for kept in omega arith

owed_most : (o : Option Op) → owed_for o ≤ 1
owed_most None = omega arith
owed_most (Some op) = omega arith

-- at most one a core
pub owed_within : (cores : List CoreState) → owed cores ≤ length cores
owed_within [] = omega arith
owed_within (core ∷ cores) = let one = owed_most core.open_op in let rest = owed_within cores in omega arith

-- where there is no open operation
pub no_open : (o : Option Op) (out : Bool) → is_some {T = Op × Bool} (option_map (λ op. (op, out)) o) ≡ false →
    o ≡ None
no_open None out none = refl
no_open (Some op) out none = absurd (let z : true ≡ false = none in cc)

-- a machine opens without operations
pub none_at_first : (c : Config) (start n : ℕ) → owed (row (open_core c) start n) ≡ 0
none_at_first c start zero = refl
none_at_first c start (suc n) = let rest = none_at_first c (start + 1) n in omega arith
