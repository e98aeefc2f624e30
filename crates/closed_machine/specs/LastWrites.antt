-- The last of the writes of a word.
use Rattle.std.specs.Prelude.{◌≡◌, ◌⊎◌, ℕ, ◌<◌, ◌≤◌, ◌==◌, List, [], ◌∷◌, Option, Some, None, if◌then◌else◌}
use Rattle.std.specs.List.{AllByRecursion as Each}
use Rattle.std.specs.Ordering.{nat_cmp}
use Rattle.std.specs.FinMap.{FinMap, get}
use Rattle.physiological_order.specs.declared.operation.Op.{Op}
use Rattle.physiological_order.specs.declared.operation.Op.TheVariants.{Load, Store, Swap}
use Rattle.physiological_order.specs.declared.operation.Record.{Record}
use Rattle.physiological_order.specs.Order.{Memory}
use Rattle.closed_machine.specs.declared.values.Write.{Write}

-- what an operation writes to a word, if it does
abbrev pub written : Op → ℕ → Option ℕ
written (Load b) a = None
written (Store b v) a = if a == b then Some v else None
written (Swap b v) a = if a == b then Some v else None

-- the one time and number aren't after the other time and number
abbrev pub IsSooner : ℕ → ℕ → ℕ → ℕ → Type 0
IsSooner ts number late last = (ts < late) ⊎ ((ts ≡ late) × (number ≤ last))

-- the record writes this to the word
abbrev pub IsWrite : ℕ → Write → Record → Type 0
IsWrite a w r = (written r.op a ≡ Some w.value) × (r.ts ≡ w.ts) × (r.number ≡ w.number)

-- one of the records is so
abbrev pub Includes : (Record → Type 0) → List Record → Type 0
Includes is [] = ⊥
Includes is (r ∷ rs) = is r ⊎ Includes is rs

-- one of the records is this write of the word, and none that writes it comes after; or no record writes it
abbrev pub IsLast : ℕ → List Record → Option Write → Type 0
IsLast a rs None = Each (λ r. written r.op a ≡ None) rs
IsLast a rs (Some w) =
    Includes (IsWrite a w) rs
    × Each (λ r. (v : ℕ) → written r.op a ≡ Some v → IsSooner r.ts r.number w.ts w.number) rs

-- each word has its last write in the map, and a word that no record writes has none
abbrev pub AreLast : List Record → FinMap nat_cmp Write → Type 0
AreLast rs lasts = (a : ℕ) → IsLast a rs (get lasts a)

-- what a write leaves, or else what was there
abbrev pub written_or : Option Write → ℕ → ℕ
written_or None there = there
written_or (Some w) there = w.value

-- the value of a word, by the last writes of all words
abbrev pub value_in : Memory → FinMap nat_cmp Write → ℕ → ℕ
value_in opening lasts a = written_or (get lasts a) (opening a)
