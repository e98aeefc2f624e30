-- Loads that received a value older than the newest one completed.
use Rattle.std.specs.Prelude.{ℕ, ◌<◌, ◌==◌, nat_lt, ◌&&◌, Bool, false, List, [], ◌∷◌, count_by}
use Rattle.std.specs.List.{list_any}
use Rattle.physiological_order.specs.declared.operation.Op.{Op}
use Rattle.physiological_order.specs.declared.operation.Op.TheVariants.{Load, Store, Swap}
use Rattle.physiological_order.specs.declared.operation.Record.{Record}

-- the operation is a store or a swap of the word
abbrev pub writes : Op → ℕ → Bool
writes (Load a) b = false
writes (Store a v) b = a == b
writes (Swap a v) b = a == b

-- a load for which a store or swap of the same word has a smaller number and a greater time
abbrev pub is_stale_load : Op → List Record → Record → Bool
is_stale_load (Load a) records r =
    list_any (λ s. writes s.op a && (nat_lt s.number r.number && nat_lt r.ts s.ts)) records
is_stale_load (Store a v) records r = false
is_stale_load (Swap a v) records r = false

abbrev pub stale_count : List Record → ℕ
stale_count records = count_by (λ r. is_stale_load r.op records r) records

-- each number is below the next
abbrev pub RisesByNumber : List Record → Type 0
RisesByNumber [] = Unit {0}
RisesByNumber (r ∷ []) = Unit {0}
RisesByNumber (r ∷ s ∷ rs) = (r.number < s.number) × RisesByNumber (s ∷ rs)
