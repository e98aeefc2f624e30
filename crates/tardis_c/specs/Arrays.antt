-- What a check of arrays answers.
use Rattle.std.specs.Prelude.{◌≡◌, ◌≢◌, ◌⊎◌, ℕ, List, map, take, slice_get, Some, All}
use Rattle.std.specs.FinMap.{empty}
use Rattle.physiological_order.specs.declared.verdict.Verdict.{Verdict}
use Rattle.physiological_order.specs.declared.verdict.Verdict.TheVariants.{Legal, BadNumber, OutOfProgramOrder}
use Rattle.physiological_order.specs.declared.verdict.Verdict.TheVariants.{WrongValue}
use Rattle.physiological_order.specs.Faults.{IsVerdict}
use Rattle.physiological_order.specs.Order.{Memory, flat}
use Rattle.tardis_c.specs.Plain.{issued_of, operation_fault, record_fault, record_of}
use Rattle.tardis_c.specs.declared.arrays.Told.{Told}
use Rattle.tardis_c.specs.declared.plain.PlainOperation.{PlainOperation}
use Rattle.tardis_c.specs.declared.plain.PlainRecord.{PlainRecord}

-- no item has a fault
abbrev pub HaveNone : {A : Type 0} → (A → ℕ) → List A → Type 0
HaveNone fault items = All (λ item. fault item ≡ 0) items

-- the item at this index has this kind of fault, and none before it has one
abbrev pub HasFirst : {A : Type 0} → (A → ℕ) → List A → (kind index : ℕ) → Type 0
HasFirst {A} fault items kind index = (kind ≢ 0) × ((item : A) × (slice_get items index ≡ Some item)
    × (fault item ≡ kind)) × HaveNone fault (take index items)

-- the kind of a verdict, and the number that it is wrong with
abbrev pub verdict_told : Verdict → Told
verdict_told Legal = record { kind = 0; number = 0 }
verdict_told (BadNumber number) = record { kind = 1; number = number }
verdict_told (OutOfProgramOrder number) = record { kind = 2; number = number }
verdict_told (WrongValue number) = record { kind = 3; number = number }

-- 0 if the records are legal, 7 if not
abbrev pub verdict_number : Verdict → ℕ
verdict_number Legal = 0
verdict_number verdict = 7

-- the verdict on the records, for what the cores were issued over a memory that opens like this
abbrev pub IsVerdictOn : Memory → List PlainOperation → List PlainRecord → Verdict → Type 0
IsVerdictOn opening operations records verdict =
    IsVerdict opening (issued_of operations) (map record_of records) verdict

-- 10 for the first operation that has a fault; else 11 for the first record that has one; else the number of the
-- verdict over a memory of zeros, or 3 if an allocation for it failed
abbrev pub IsChecked : List PlainOperation → List PlainRecord → (old new : Told) → (number : ℕ) → Type 0
IsChecked operations records old new number =
    (HasFirst operation_fault operations new.kind new.number × (number ≡ 10))
    ⊎ (HaveNone operation_fault operations × HasFirst record_fault records new.kind new.number × (number ≡ 11))
    ⊎ (HaveNone operation_fault operations × HaveNone record_fault records
    × (((verdict : Verdict) × IsVerdictOn (flat empty) operations records verdict × (new ≡ verdict_told verdict)
    × (number ≡ verdict_number verdict)) ⊎ ((new ≡ old) × (number ≡ 3))))
