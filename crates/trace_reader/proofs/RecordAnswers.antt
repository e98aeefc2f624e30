-- What the answer about records says of their text.
use Rattle.std.proofs.Common.{◌≡◌, ℕ, List, Option, Some, None, IfSome, inl, inr}
use Rattle.std.specs.Prelude.{Result, Ok, Err, IfOk, IfErr, Vec}
use Rattle.physiological_order.specs.declared.operation.Record.{Record}
use Rattle.trace_lines.specs.declared.errors.TraceError.{TraceError}
use Rattle.text_lines.specs.Lines.{lines_of}
use Rattle.trace_reader.specs.Grammar.{AreRecords}
use Rattle.trace_reader.specs.Outcomes.{Refused, GivesList}
use Rattle.trace_reader.specs.Reading.{record_said, records_at, records_in}
use Rattle.trace_reader.proofs.LinesMeant.{lines-found, lines-only}
use Rattle.trace_reader.proofs.RecordsMeant.{Cause, Tells, records-meant}
use Rattle.trace_reader.proofs.TextAnswers.{told-once}

found : (bytes : List ℕ) (told : List Record) → records_at bytes ≡ Ok told → AreRecords bytes told
found bytes told e = lines-found record_said Tells Cause records-meant tt (lines_of bytes) told e

pub record-found : {Z : Type 0} (r : Result (Vec Record Z) TraceError) (a : Option (List ℕ)) →
    IfOk r (λ records. IfSome a (λ bytes. records_at bytes ≡ Ok records.items)) →
    IfOk r (λ records. IfSome a (λ bytes. AreRecords bytes records.items))
record-found (Ok records) None h = tt
record-found (Ok records) (Some bytes) h = found bytes records.items h
record-found (Err e) a h = tt

-- a text tells one list of records
pub records-unique : (bytes : List ℕ) (one other : List Record) → AreRecords bytes one → AreRecords bytes other →
    one ≡ other
records-unique bytes one other s t = told-once record_said Tells Cause records-meant tt bytes one other s.0 s.1 t.1

-- a text of the grammar is read as the records that it stands for
pub record-reads : (bytes : List ℕ) (records : List Record) → AreRecords bytes records → records_at bytes ≡ Ok records
record-reads bytes records t = lines-only record_said Tells Cause records-meant tt (lines_of bytes) records t.0 t.1

pub record-only : {Z : Type 0} (r : Result (Vec Record Z) TraceError) (a : Option (List ℕ)) (old new : ℕ) →
    IfOk r (λ records. IfSome a (λ bytes. records_at bytes ≡ Ok records.items)) →
    IfErr r (Refused records_in old new a) →
    IfSome a (λ bytes. (records : List Record) → AreRecords bytes records → GivesList records r)
record-only r None old new h k = tt
record-only (Ok ys) (Some bytes) old new h k = λ records t.
    records-unique bytes ys.items records (found bytes ys.items h) t
record-only (Err e) (Some bytes) old new h (inl k) = λ records t. inl k.0
record-only (Err e) (Some bytes) old new h (inr (failures, inl k)) = λ records t. inr k.0
record-only (Err e) (Some bytes) old new h (inr (failures, inr k)) = λ records t.
    let again = record-reads bytes records t in
    let refused : records_at bytes ≡ Err e = k.1 in
    absurd (cc (again, refused))
