-- Which operation of a history has no record.
use Rattle.std.specs.Prelude.{◌≡◌, ◌≢◌, ◌⊎◌, ◌+◌, ◌<◌, ℕ, List, get_or, length, map}
use Rattle.physiological_order.specs.declared.operation.Op.{Op}
use Rattle.physiological_order.specs.declared.operation.Record.{Record}
use Rattle.report.specs.Complete.{IsFirstLack, count_of_core}
use Rattle.tardis_c.specs.Arrays.{HaveNone, HasFirst}
use Rattle.tardis_c.specs.Plain.{issued_of, operation_fault, record_fault, record_of}
use Rattle.tardis_c.specs.declared.arrays.Told.{Told}
use Rattle.tardis_c.specs.declared.lacks.Lack.{Lack}
use Rattle.tardis_c.specs.declared.plain.PlainOperation.{PlainOperation}
use Rattle.tardis_c.specs.declared.plain.PlainRecord.{PlainRecord}

-- the core of an operation, and of a record
abbrev pub operation_core : PlainOperation → ℕ
operation_core plain = plain.core

abbrev pub record_core : PlainRecord → ℕ
record_core plain = plain.operation.core

-- each core has as many records as operations
abbrev pub HaveAll : (ℕ → List Op) → List Record → Type 0
HaveAll issued records = (core : ℕ) → count_of_core core records ≡ length (issued core)

-- the first core that hasn't, and how many records it has
pub record IsLack (issued : ℕ → List Op) (records : List Record) (lack : Lack) : Type 0 where
  pub first : IsFirstLack (lack.core + 1) issued records lack.core
  pub place_is : lack.place ≡ count_of_core lack.core records

-- some item has a fault
abbrev pub HasSome : {A : Type 0} → (A → ℕ) → List A → Type 0
HasSome fault items = (told : Told) × HasFirst fault items told.kind told.number

-- 10 if an operation has a fault; else 11 if a record has one; else 0 if each core has as many records as operations, 7
-- if some core hasn't, or 3 if an allocation failed; what is told changes on 7 alone
abbrev pub TellsLack : List PlainOperation → List PlainRecord → (old new : Lack) → (number : ℕ) → Type 0
TellsLack operations records old new number =
    (HasSome operation_fault operations × (new ≡ old) × (number ≡ 10))
    ⊎ (HaveNone operation_fault operations × HasSome record_fault records × (new ≡ old) × (number ≡ 11))
    ⊎ (HaveNone operation_fault operations × HaveNone record_fault records
    × ((HaveAll (issued_of operations) (map record_of records) × (new ≡ old) × (number ≡ 0))
    ⊎ (IsLack (issued_of operations) (map record_of records) new × (number ≡ 7))
    ⊎ ((new ≡ old) × (number ≡ 3))))

-- the first core of which two counts differ, where a core without a count has 0; and the second one of them
pub record IsFirstOther (issued done : List ℕ) (lack : Lack) : Type 0 where
  pub differ : get_or issued lack.core 0 ≢ get_or done lack.core 0
  pub first : (core : ℕ) → core < lack.core → get_or issued core 0 ≡ get_or done core 0
  pub place_is : lack.place ≡ get_or done lack.core 0
