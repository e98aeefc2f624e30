-- Which write a record meets, found without an arrangement.
use Rattle.std.specs.Prelude.{◌≡◌, ℕ, Bool, true, false, ◌==◌, List, Option, Some, None, All, Contains}
use Rattle.physiological_order.specs.declared.operation.Op.{Op}
use Rattle.physiological_order.specs.declared.operation.Op.TheVariants.{Load, Store, Swap}
use Rattle.physiological_order.specs.declared.operation.Record.{Record}
use Rattle.physiological_order.specs.Order.{Before, NotAfter, address}

-- whether an operation writes a word
abbrev pub writes : ℕ → Op → Bool
writes word (Load a) = false
writes word (Store a v) = word == a
writes word (Swap a v) = word == a

-- what an operation writes; 0 for a load
abbrev pub written : Op → ℕ
written (Load a) = 0
written (Store a v) = v
written (Swap a v) = v

-- a record writes the word of another one, and comes before it
pub record IsEarlier (faulty r : Record) : Type 0 where
  pub writes : writes (address faulty.op) r.op ≡ true
  pub before : Before r faulty

-- the last of the earlier writes by time and number, if there is one
abbrev pub IsLastWrite : Record → List Record → Option Record → Type 0
IsLastWrite faulty records None = All (λ r. IsEarlier faulty r → ⊥) records
IsLastWrite faulty records (Some w) = Contains records w × IsEarlier faulty w
    × All (λ r. IsEarlier faulty r → NotAfter r w) records
