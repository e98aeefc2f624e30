-- What a history of a memory is, and when it is legal: sequential consistency by timestamps.
use Rattle.std.specs.Prelude.{◌≡◌, ℕ, ◌+◌, ◌<◌, ◌≤◌, ◌==◌, List, [], ◌∷◌, length, map, filter, Option, Some, None}
use Rattle.std.specs.Prelude.{◌⊎◌, if◌then◌else◌, slice_get, count_by, unwrap_or}
use Rattle.std.specs.List.Sorted.{IsPermutation}
use Rattle.std.specs.Ordering.{nat_cmp}
use Rattle.std.specs.FinMap as finite
use Rattle.physiological_order.specs.declared.operation.Op.{Op}
use Rattle.physiological_order.specs.declared.operation.Op.TheVariants.{Load, Store, Swap}
use Rattle.physiological_order.specs.declared.operation.Record.{Record}

-- a flat memory: a value for each word
abbrev pub Memory : Type 0
Memory = ℕ → ℕ

-- the flat memory of the words that were set; every other word is 0
abbrev pub flat : finite.FinMap nat_cmp ℕ → Memory
flat words a = unwrap_or (finite.get words a) 0

abbrev pub with_word : Memory → ℕ → ℕ → Memory
with_word m a v = λ b. if b == a then v else m b

-- the word of an operation
abbrev pub address : Op → ℕ
address (Load a) = a
address (Store a v) = a
address (Swap a v) = a

-- what an operation receives from a memory, and what memory it leaves
abbrev pub flat_received : Memory → Op → Option ℕ
flat_received m (Load a) = Some (m a)
flat_received m (Store a v) = None
flat_received m (Swap a v) = Some (m a)

abbrev pub flat_after : Memory → Op → Memory
flat_after m (Load a) = m
flat_after m (Store a v) = with_word m a v
flat_after m (Swap a v) = with_word m a v

-- the operations of a list, one after the other on one memory: what each receives, and the memory that they leave
abbrev pub replay : Memory → List Op → List (Option ℕ)
replay m [] = []
replay m (op ∷ ops) = flat_received m op ∷ replay (flat_after m op) ops

abbrev pub replay_end : Memory → List Op → Memory
replay_end m [] = m
replay_end m (op ∷ ops) = replay_end (flat_after m op) ops

-- a record comes before another: by time, and at equal times by completion number
abbrev pub Before : Record → Record → Type 0
Before r s = (r.ts < s.ts) ⊎ ((r.ts ≡ s.ts) × (r.number < s.number))

-- each comes before the next
abbrev pub Rises : List Record → Type 0
Rises [] = Unit {0}
Rises (r ∷ []) = Unit {0}
Rises (r ∷ s ∷ rs) = Before r s × Rises (s ∷ rs)

-- an arrangement of records: the same members, each once, in which each comes before the next
pub record Arrangement (records arranged : List Record) : Type 0 where
  pub same_members : IsPermutation records arranged
  pub rises : Rises arranged

-- the records' numbers are 0 to n - 1, each once
abbrev pub NumberedOnce : List Record → Type 0
NumberedOnce records = (k : ℕ) → k < length records → count_by (λ r. r.number == k) records ≡ 1

-- from place k on, each record has the next place, and the operation that was issued there
abbrev pub Follows : ℕ → List Op → List Record → Type 0
Follows k ops [] = Unit {0}
Follows k ops (r ∷ rs) = (r.place ≡ k) × (slice_get ops k ≡ Some r.op) × Follows (k + 1) ops rs

abbrev pub of_core : ℕ → List Record → List Record
of_core core rs = filter (λ r. r.core == core) rs

-- each core's records are in its program order: the lists that cores were issued, by their numbers
abbrev pub KeepsProgramOrder : (ℕ → List Op) → List Record → Type 0
KeepsProgramOrder issued arranged = (core : ℕ) → Follows 0 (issued core) (of_core core arranged)

-- one memory, worked through in the order of the list, gives each record what it received
abbrev pub ReceivesAsReplayed : Memory → List Record → Type 0
ReceivesAsReplayed opening arranged = replay opening (map (λ r. r.op) arranged) ≡ map (λ r. r.received) arranged

-- the records are what cores that run these lists in order, on one memory, would have
pub record Legal (opening : Memory) (issued : ℕ → List Op) (records : List Record) : Type 0 where
  pub numbers : NumberedOnce records
  pub arranged : List Record
  pub arrangement : Arrangement records arranged
  pub program_order : KeepsProgramOrder issued arranged
  pub values : ReceivesAsReplayed opening arranged

-- by time, and at equal times the number doesn't fall
abbrev pub NotAfter : Record → Record → Type 0
NotAfter r s = (r.ts < s.ts) ⊎ ((r.ts ≡ s.ts) × (r.number ≤ s.number))

abbrev pub NeverFalls : List Record → Type 0
NeverFalls [] = Unit {0}
NeverFalls (r ∷ []) = Unit {0}
NeverFalls (r ∷ s ∷ rs) = NotAfter r s × NeverFalls (s ∷ rs)
