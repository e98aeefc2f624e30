-- The verdict on a trace and records, and why there is none.
use Rattle.std.specs.Prelude.{◌≡◌, ◌⊎◌, ◌<◌, ℕ, Bool, true, false, List, length, Option, Result, Err, IfSome}
use Rattle.physiological_order.specs.declared.operation.Op.{Op}
use Rattle.physiological_order.specs.declared.operation.Record.{Record}
use Rattle.physiological_order.specs.declared.verdict.Verdict.{Verdict}
use Rattle.physiological_order.specs.declared.verdict.Verdict.TheVariants.{Legal, BadNumber, OutOfProgramOrder}
use Rattle.physiological_order.specs.declared.verdict.Verdict.TheVariants.{WrongValue}
use Rattle.physiological_order.specs.Faults.{IsVerdict}
use Rattle.physiological_order.specs.Order.{Memory}
use Rattle.report_lines.specs.declared.layout.Layout.{Layout}
use Rattle.run_results.specs.declared.results.Done.{Done}
use Rattle.run_results.specs.declared.results.RunError.{RunError}
use Rattle.run_results.specs.declared.results.RunError.TheVariants.{Read, Write, NoMemory, Trace}
use Rattle.trace_lines.specs.declared.errors.TraceError.{TraceError}
use Rattle.programs.specs.declared.steps.Step.{Step}
use Rattle.trace_reader.specs.Causes.{RecordFault}
use Rattle.trace_reader.specs.Grammar.{AreRecords}
use Rattle.trace_reader.specs.Reading.{records_at, records_in, steps_in}
use Rattle.report.specs.Complete.{AreAll, IsFirstLack, count_of_core}
use Rattle.report.specs.Refusals.{IsFault, IsRead}
use Rattle.trace_reader.specs.Outcomes.{WantsMemory}
use Rattle.report.specs.Reports.{IsTraceFault}
use Rattle.trace_reader.specs.Steps.{trace_ops}
use Rattle.trace_texts.specs.Verdicts.{check_text, lack_text}

-- The records that were read: their text is all that the source had, if that is known. Of a source whose bytes aren't
-- known this says nothing.
abbrev pub AreRead : Option (List ℕ) → List Record → Type 0
AreRead known records = IfSome known (λ bytes. AreRecords bytes records)

-- the fault of a text that has no records
abbrev pub IsRecordsFault : Option (List ℕ) → TraceError → Type 0
IsRecordsFault known e = IsFault AreRecords RecordFault records_at known e

abbrev pub is_legal : Verdict → Bool
is_legal Legal = true
is_legal (BadNumber number) = false
is_legal (OutOfProgramOrder number) = false
is_legal (WrongValue number) = false

-- the report on a verdict
abbrev pub Tells : Layout → Verdict → Bool → List ℕ → Type 0
Tells layout verdict legal text = (text ≡ check_text layout verdict) × (legal ≡ is_legal verdict)

-- the report on legal records of which each operation is to have one
abbrev pub TellsAll : Layout → (cores : ℕ) → (ℕ → List Op) → List Record → Bool → List ℕ → Type 0
TellsAll layout cores issued records legal text = (AreAll cores issued records × Tells layout Legal legal text)
    ⊎ ((core : ℕ) × IsFirstLack cores issued records core
    × (text ≡ lack_text layout (count_of_core core records) core) × (legal ≡ false))

-- the report on records that have this verdict, if each operation is to have one, and if not
abbrev pub TellsComplete : Layout → (cores : ℕ) → (ℕ → List Op) → List Record → Verdict → Bool → List ℕ → Type 0
TellsComplete layout cores issued records Legal legal text = TellsAll layout cores issued records legal text
TellsComplete layout cores issued records verdict legal text = Tells layout verdict legal text

abbrev pub TellsVerdict : (complete : Bool) → Layout → (cores : ℕ) → (ℕ → List Op) → List Record → Verdict → Bool →
    List ℕ → Type 0
TellsVerdict false layout cores issued records verdict legal text = Tells layout verdict legal text
TellsVerdict true layout cores issued records verdict legal text =
    TellsComplete layout cores issued records verdict legal text

-- the text is the report on these records, for what the trace issues over a memory: a line, or an object
pub record IsVerdictLine (opening : Memory) (complete : Bool) (layout : Layout) (lanes : List (List Step))
    (records : List Record) (legal : Bool) (text : List ℕ) : Type 0 where
  pub verdict : Verdict
  pub is_verdict : IsVerdict opening (trace_ops lanes) records verdict
  pub told : TellsVerdict complete layout (length lanes) (trace_ops lanes) records verdict legal text

-- it is the report on the trace and the records that the sources had
abbrev pub IsCheckReport : Memory → (complete : Bool) → Layout → (trace records : Option (List ℕ)) → Bool → List ℕ →
    Type 0
IsCheckReport opening complete layout trace records legal text = (lanes : List (List Step)) × (told : List Record)
    × IsRead trace lanes × AreRead records told × IsVerdictLine opening complete layout lanes told legal text

-- why there is no verdict: the trace is refused, or it was read and the records are refused; NoMemory comes from
-- reading the trace, after that from reading the records, or after both from the line
abbrev pub HasNoVerdict : (trace records : Option (List ℕ)) → RunError → Type 0
HasNoVerdict trace records (Trace e) =
    IsTraceFault trace e ⊎ (((lanes : List (List Step)) × IsRead trace lanes) × IsRecordsFault records e)
HasNoVerdict trace records NoMemory =
    WantsMemory steps_in trace ⊎ (((lanes : List (List Step)) × IsRead trace lanes) ×
    (WantsMemory records_in records ⊎ ((told : List Record) × AreRead records told)))
HasNoVerdict trace records e = ⊥

-- failures of two sources, of which the second is read after the first, are counted exactly if the answer reports them
abbrev pub ReadsCounted : {X : Type 0} → Result X RunError → (first first' second second' : ℕ) → Type 0
ReadsCounted (Err Read) first first' second second' =
    ((first < first') × (second' ≡ second)) ⊎ ((first' ≡ first) × (second < second'))
ReadsCounted came first first' second second' = (first' ≡ first) × (second' ≡ second)

-- and so are those of the sink
abbrev pub WritesCounted : Result Done RunError → (before after : ℕ) → Type 0
WritesCounted (Err Write) before after = before < after
WritesCounted came before after = after ≡ before
