-- What is still to come of a text whose steps are read one after the other.
use Rattle.std.specs.Prelude.{◌≡◌, ℕ, suc, List, [], ◌++◌, Option, Some, None, ◌⊎◌}
use Rattle.trace_lines.specs.declared.errors.Kind.TheVariants.{Read}
use Rattle.trace_lines.specs.declared.errors.TraceError.{TraceError}
use Rattle.trace_lines.specs.declared.steps.Form.{Form}
use Rattle.programs.specs.declared.steps.Step.{Step}
use Rattle.text_lines.specs.Lines.{lines_of}
use Rattle.trace_reader.specs.declared.limits.TheConstants.{MOST_NUMBERED}
use Rattle.trace_reader.specs.declared.step_streams.StepStream.{StepStream}
use Rattle.trace_reader.specs.Ahead.{ahead}
use Rattle.trace_reader.specs.Outcomes.{whole, IsOfLine}
use Rattle.trace_reader.specs.Reading.{Told, behind, numbered, said_at, told_from}

-- the steps that lines tell, each with its core and with its line's number, up to the first fault, and that fault
abbrev pub StepsTold : Type 0
StepsTold = Told (ℕ × Step)

-- what a text tells, behind so many lines that left this form
abbrev pub steps_behind : ℕ → Option Form → List ℕ → StepsTold
steps_behind number form bytes = told_from MOST_NUMBERED said_at (suc number) form (lines_of bytes)

-- what a text tells from its front on
abbrev pub steps_told : List ℕ → StepsTold
steps_told bytes = steps_behind 0 None bytes

-- how many lines a stream has taken; the last of them is that of the step which was read last
abbrev pub lines_taken : StepStream → ℕ
lines_taken stream = stream.number

-- what is to come of a stream whose source has these bytes: a step that was read ahead, and what the lines behind tell
abbrev pub coming_of : StepStream → List ℕ → StepsTold
coming_of stream bytes = behind (numbered stream.number stream.held)
    (steps_behind stream.number stream.form (ahead stream.block ++ bytes))

-- the same, where the bytes are known
abbrev pub coming : StepStream → Option (List ℕ) → Option StepsTold
coming stream None = None
coming stream (Some bytes) = Some (coming_of stream bytes)

-- what is to come now, if the bytes were known before
abbrev pub where_known : Option (List ℕ) → Option StepsTold → Option StepsTold
where_known None to_come = None
where_known (Some bytes) to_come = to_come

-- What was to come begins with these steps, and loses them; where it was known, it stays known.
abbrev pub Yields : Option StepsTold → Option StepsTold → List (ℕ × (ℕ × Step)) → Type 0
Yields None new steps = Unit {0}
Yields (Some old) None steps = ⊥
Yields (Some old) (Some new) steps = old ≡ behind steps new

-- nothing but this fault is to come, or the end
abbrev pub OnlyFault : Option TraceError → Option StepsTold → Type 0
OnlyFault fault None = Unit {0}
OnlyFault fault (Some told) = told ≡ ([], fault)

-- Why no step is told. A call of the device failed. Or none did, and what is to come is the fault of this line.
abbrev pub Interrupts : ℕ → ℕ → Option StepsTold → TraceError → Type 0
Interrupts old new to_come e = ((e ≡ whole Read) × (new ≡ suc old))
    ⊎ ((new ≡ old) × IsOfLine e × OnlyFault (Some e) to_come)
