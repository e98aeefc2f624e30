-- What a check of records answers.
use Rattle.std.specs.Prelude.{◌≡◌, ℕ, ◌<◌, ◌==◌, List, [], ◌∷◌, ◌++◌, length, map, count_by, slice_index_or}
use Rattle.std.specs.declared.vec.Vec.{Vec}
use Rattle.std.specs.declared.alloc.Global.{Global}
use Rattle.physiological_order.specs.declared.operation.Op.{Op}
use Rattle.physiological_order.specs.declared.operation.Record.{Record}
use Rattle.physiological_order.specs.declared.verdict.Verdict.{Verdict}
use Rattle.physiological_order.specs.declared.verdict.Verdict.TheVariants.{Legal as LegalVerdict, BadNumber}
use Rattle.physiological_order.specs.declared.verdict.Verdict.TheVariants.{OutOfProgramOrder, WrongValue}
use Rattle.physiological_order.specs.Order.{Memory, Arrangement, NumberedOnce, KeepsProgramOrder, ReceivesAsReplayed}
use Rattle.physiological_order.specs.Order.{Legal}

-- k is the least number of 0 to n - 1 that none of the n records carries
pub record LeastMissing (records : List Record) (k : ℕ) : Type 0 where
  pub below : k < length records
  pub missing : count_by (λ r. r.number == k) records ≡ 0
  pub least : (j : ℕ) → j < k → count_by (λ r. r.number == j) records ≡ 0 → ⊥

-- arranged records up to the first one with a fault, which has this number
pub record UpTo (opening : Memory) (issued : ℕ → List Op) (arranged : List Record) (number : ℕ) : Type 0 where
  pub before : List Record
  pub faulty : Record
  pub behind : List Record
  pub split : arranged ≡ before ++ faulty ∷ behind
  pub named : faulty.number ≡ number
  pub order_before : KeepsProgramOrder issued before
  pub values_before : ReceivesAsReplayed opening before

-- the first record with a fault isn't the next of its core's program order
pub record OrderFault (opening : Memory) (issued : ℕ → List Op) (arranged : List Record) (number : ℕ) : Type 0 where
  pub upto : UpTo opening issued arranged number
  pub fault : KeepsProgramOrder issued (upto.before ++ upto.faulty ∷ []) → ⊥

-- the first record with a fault is the next of its core's program order, and received another value than the memory
-- gives
pub record ValueFault (opening : Memory) (issued : ℕ → List Op) (arranged : List Record) (number : ℕ) : Type 0 where
  pub upto : UpTo opening issued arranged number
  pub in_order : KeepsProgramOrder issued (upto.before ++ upto.faulty ∷ [])
  pub fault : ReceivesAsReplayed opening (upto.before ++ upto.faulty ∷ []) → ⊥

-- what holds of arranged records, by the verdict on them
abbrev pub WalksTo : Memory → (ℕ → List Op) → List Record → Verdict → Type 0
WalksTo opening issued arranged LegalVerdict = KeepsProgramOrder issued arranged × ReceivesAsReplayed opening arranged
WalksTo opening issued arranged (BadNumber k) = ⊥
WalksTo opening issued arranged (OutOfProgramOrder number) = OrderFault opening issued arranged number
WalksTo opening issued arranged (WrongValue number) = ValueFault opening issued arranged number

-- the numbers are right, and the arrangement has this verdict
pub record IsWalked (opening : Memory) (issued : ℕ → List Op) (records : List Record)
    (verdict : Verdict) : Type 0 where
  pub numbers : NumberedOnce records
  pub arranged : List Record
  pub arrangement : Arrangement records arranged
  pub walked : WalksTo opening issued arranged verdict

-- what each verdict says
abbrev pub IsVerdict : Memory → (ℕ → List Op) → List Record → Verdict → Type 0
IsVerdict opening issued records LegalVerdict = Legal opening issued records
IsVerdict opening issued records (BadNumber k) = LeastMissing records k
IsVerdict opening issued records (OutOfProgramOrder number) =
    IsWalked opening issued records (OutOfProgramOrder number)
IsVerdict opening issued records (WrongValue number) = IsWalked opening issued records (WrongValue number)

-- the lists that cores were issued, by core
abbrev pub IssuedLists : Type 0
IssuedLists = List (Vec Op Global)

-- a core past the end was issued none
abbrev pub issued_by : IssuedLists → ℕ → List Op
issued_by lists core = slice_index_or (map (λ ops. ops.items) lists) core []
