-- Records as they complete: what stays true of those that are there, and what the next one meets.
use Rattle.std.specs.Prelude.{◌≡◌, ℕ, ◌<◌, ◌≤◌, ◌==◌, nat_le, List, [], ◌∷◌, length, Some, if◌then◌else◌, count_by}
use Rattle.std.specs.Prelude.{slice_get}
use Rattle.std.specs.List.{AllByRecursion as Each}
use Rattle.std.specs.List.Sorted.{IsPermutation}
use Rattle.physiological_order.specs.declared.operation.Op.{Op}
use Rattle.physiological_order.specs.declared.operation.Op.TheVariants.{Load, Store, Swap}
use Rattle.physiological_order.specs.declared.operation.Record.{Record}
use Rattle.physiological_order.specs.Order.{Memory, Before, address, flat_received, flat_after, of_core, Follows}

-- r after all records of its time or an earlier one: its place in an arrangement, if its number is the largest
abbrev pub placed : Record → List Record → List Record
placed r [] = r ∷ []
placed r (s ∷ ss) = if nat_le s.ts r.ts then s ∷ placed r ss else r ∷ s ∷ ss

-- the records one after another at their places
abbrev pub arranged_from : List Record → List Record → List Record
arranged_from start [] = start
arranged_from start (r ∷ rs) = arranged_from (placed r start) rs

abbrev pub arranged : List Record → List Record
arranged rs = arranged_from [] rs

-- each comes before all that follow it
abbrev pub Ascends : List Record → Type 0
Ascends [] = Unit {0}
Ascends (r ∷ rs) = Each (λ s. Before r s) rs × Ascends rs

-- each record received what the memory of its place gives
abbrev pub Receives : Memory → List Record → Type 0
Receives m [] = Unit {0}
Receives m (r ∷ rs) = (r.received ≡ flat_received m r.op) × Receives (flat_after m r.op) rs

-- the memory that the records up to a time leave
abbrev pub memory_at : Memory → List Record → ℕ → Memory
memory_at m [] t = m
memory_at m (r ∷ rs) t = memory_at (if nat_le r.ts t then flat_after m r.op else m) rs t

-- no record of r's word follows r, if r writes
abbrev pub Undisturbed : Op → ℕ → List Record → Type 0
Undisturbed (Load a) t rs = Unit {0}
Undisturbed (Store a v) t rs = Each (λ s. address s.op ≡ a → s.ts ≤ t) rs
Undisturbed (Swap a v) t rs = Each (λ s. address s.op ≡ a → s.ts ≤ t) rs

-- what is kept of the records, in the order of their numbers
pub record Kept (opening : Memory) (issued : ℕ → List Op) (records : List Record) : Type 0 where
  pub once : (k : ℕ) → k < length records → count_by (λ r. r.number == k) records ≡ 1
  pub below : Each (λ r. r.number < length records) records
  pub members : IsPermutation records (arranged records)
  pub ascends : Ascends (arranged records)
  pub program : (core : ℕ) → Follows 0 (issued core) (of_core core (arranged records))
  pub values : Receives opening (arranged records)

-- what a record meets that is completed next
pub record Fits (opening : Memory) (issued : ℕ → List Op) (records : List Record) (r : Record) : Type 0 where
  pub number : r.number ≡ length records
  pub place : r.place ≡ length (of_core r.core records)
  pub issued_there : slice_get (issued r.core) r.place ≡ Some r.op
  pub pts : Each (λ s. s.core ≡ r.core → s.ts ≤ r.ts) records
  pub value : r.received ≡ flat_received (memory_at opening (arranged records) r.ts) r.op
  pub undisturbed : Undisturbed r.op r.ts (arranged records)
