-- The memory that the text of an opening gives, why there is none, and the verdict on records over it.
use Rattle.std.specs.Prelude.{◌≡◌, ◌⊎◌, ◌<◌, ℕ, Bool, List, Option, Some, IfSome}
use Rattle.std.specs.FinMap.{FinMap}
use Rattle.std.specs.Ordering.{nat_cmp}
use Rattle.physiological_order.specs.Order.{flat}
use Rattle.report_lines.specs.declared.layout.Layout.{Layout}
use Rattle.run_results.specs.declared.results.RunError.{RunError}
use Rattle.run_results.specs.declared.results.RunError.TheVariants.{Read, NoMemory, Opening, Trace}
use Rattle.trace_lines.specs.declared.errors.TraceError.{TraceError}
use Rattle.trace_reader.specs.Causes.{OpeningFault}
use Rattle.trace_reader.specs.Grammar.{IsOpening}
use Rattle.trace_reader.specs.Outcomes.{WantsMemory}
use Rattle.trace_reader.specs.Reading.{opening_in, opening_read}
use Rattle.report.specs.Refusals.{IsFault}
use Rattle.report.specs.Verdicts.{HasNoVerdict, IsCheckReport}

-- The words that were read, with their values: their text is all that the source had, if that is known. Of a source
-- whose bytes aren't known this says nothing.
abbrev pub IsOpened : Option (List ℕ) → FinMap nat_cmp ℕ → Type 0
IsOpened known words = IfSome known (λ bytes. IsOpening bytes words)

-- the fault of a text that is no opening
abbrev pub IsOpeningFault : Option (List ℕ) → TraceError → Type 0
IsOpeningFault known e = IsFault IsOpening OpeningFault opening_read known e

-- a text's fault is told as that of an opening
abbrev pub as_opening : RunError → RunError
as_opening (Trace e) = Opening e
as_opening e = e

-- why there is no opening: a failed call is counted, and no other is
abbrev pub HasNoOpening : Option (List ℕ) → (before after : ℕ) → RunError → Type 0
HasNoOpening known before after Read = before < after
HasNoOpening known before after NoMemory = (after ≡ before) × WantsMemory opening_in known
HasNoOpening known before after (Opening e) = (after ≡ before) × IsOpeningFault known e
HasNoOpening known before after e = ⊥

-- it is the report on the trace and the records, over the memory that the opening gives: of texts in memory
abbrev pub IsOpenedReport : (complete : Bool) → Layout → (opening trace records : List ℕ) → Bool → List ℕ → Type 0
IsOpenedReport complete layout opening trace records legal text = (words : FinMap nat_cmp ℕ)
    × IsOpening opening words × IsCheckReport (flat words) complete layout (Some trace) (Some records) legal text

-- why there is no such report: the opening is refused, or it was read, and there is no verdict
abbrev pub HasNoOpenedReport : (opening trace records : List ℕ) → RunError → Type 0
HasNoOpenedReport opening trace records e = HasNoOpening (Some opening) 0 0 e
    ⊎ (((words : FinMap nat_cmp ℕ) × IsOpening opening words) × HasNoVerdict (Some trace) (Some records) e)
