-- What a check of a history answers: with a wrong value, the one that was expected, and who wrote it.
use Rattle.std.specs.Prelude.{◌≡◌, ◌⊎◌, ℕ, List, [], ◌∷◌, ◌++◌, map, Option, Some, None, if◌then◌else◌}
use Rattle.physiological_order.specs.declared.operation.Record.{Record}
use Rattle.physiological_order.specs.declared.verdict.Verdict.{Verdict}
use Rattle.physiological_order.specs.declared.verdict.Verdict.TheVariants.{WrongValue}
use Rattle.physiological_order.specs.Order.{Memory, Arrangement, address, flat, replay_end}
use Rattle.tardis_c.specs.Arrays.{HaveNone, HasFirst, IsVerdictOn, verdict_number, verdict_told}
use Rattle.tardis_c.specs.Plain.{operation_fault, record_fault, record_of, word_fault, words_of}
use Rattle.tardis_c.specs.Writes.{writes}
use Rattle.tardis_c.specs.declared.arrays.Told.{Told}
use Rattle.tardis_c.specs.declared.expected.Found.{Found}
use Rattle.tardis_c.specs.declared.plain.PlainOperation.{PlainOperation}
use Rattle.tardis_c.specs.declared.plain.PlainRecord.{PlainRecord}
use Rattle.tardis_c.specs.declared.plain.PlainWord.{PlainWord}

-- who wrote a word last, once these records did what they do: the one of this number, or no record
abbrev pub writer_after : Option ℕ → ℕ → List Record → Option ℕ
writer_after writer word [] = writer
writer_after writer word (r ∷ rs) = writer_after (if writes word r.op then Some r.number else writer) word rs

-- the value that the record of this number meets in its word, once those before it by time and number did what they do
-- to the opening memory, and who wrote it
pub record Expects (opening : Memory) (records : List Record) (number value : ℕ) (writer : Option ℕ) : Type 0 where
  pub arranged : List Record
  pub arrangement : Arrangement records arranged
  pub before : List Record
  pub faulty : Record
  pub behind : List Record
  pub split : arranged ≡ before ++ faulty ∷ behind
  pub named : faulty.number ≡ number
  pub value_is : value ≡ replay_end opening (map (λ r. r.op) before) (address faulty.op)
  pub writer_is : writer ≡ writer_after None (address faulty.op) before

-- a kind and a number, and nothing that was expected
abbrev pub without_expected : Told → Found
without_expected told = record { kind = told.kind; number = told.number; expected = 0; source = 0; writer = 0 }

-- a wrong value: 1 for the opening memory, 2 for a record
abbrev pub wrong_value : (number expected : ℕ) → Option ℕ → Found
wrong_value number expected None =
    record { kind = 3; number = number; expected = expected; source = 1; writer = 0 }
wrong_value number expected (Some writer) =
    record { kind = 3; number = number; expected = expected; source = 2; writer = writer }

-- what is found of records with this verdict
abbrev pub IsFound : Memory → List Record → Verdict → Found → Type 0
IsFound opening records (WrongValue number) found = (value : ℕ) × (writer : Option ℕ)
    × Expects opening records number value writer × (found ≡ wrong_value number value writer)
IsFound opening records verdict found = found ≡ without_expected (verdict_told verdict)

-- the first item that has a fault is told, and this number
abbrev pub IsRefused : {A : Type 0} → (A → ℕ) → List A → Found → (said number : ℕ) → Type 0
IsRefused fault items found said number = (told : Told) × HasFirst fault items told.kind told.number
    × (found ≡ without_expected told) × (number ≡ said)

-- 12 for the first word that has a fault; else 10 for the first operation; else 11 for the first record; else the
-- number of the verdict, or 3 if an allocation for it failed
abbrev pub IsHistory : List PlainWord → List PlainOperation → List PlainRecord → (old new : Found) →
    (number : ℕ) → Type 0
IsHistory opening operations records old new number =
    IsRefused word_fault opening new 12 number
    ⊎ (HaveNone word_fault opening × IsRefused operation_fault operations new 10 number)
    ⊎ (HaveNone word_fault opening × HaveNone operation_fault operations × IsRefused record_fault records new 11 number)
    ⊎ (HaveNone word_fault opening × HaveNone operation_fault operations × HaveNone record_fault records
    × (((verdict : Verdict) × IsVerdictOn (flat (words_of opening)) operations records verdict
    × IsFound (flat (words_of opening)) (map record_of records) verdict new × (number ≡ verdict_number verdict))
    ⊎ ((new ≡ old) × (number ≡ 3))))
