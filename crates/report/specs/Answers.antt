-- The answer of a call that reads and then writes one text to a sink.
use Rattle.std.specs.Prelude.{◌≡◌, ◌<◌, ℕ, List, Option, Result, Err}
use Rattle.byte_streams.specs.Device.{Grows}
use Rattle.byte_streams.specs.Whole.{GrowsByFront}
use Rattle.run_results.specs.declared.results.Done.{Done}
use Rattle.run_results.specs.declared.results.RunError.{RunError}
use Rattle.run_results.specs.declared.results.RunError.TheVariants.{Read, Write}

-- the call wrote one right text, and nothing else
abbrev pub IsReported : (List ℕ → Type 0) → Option (List ℕ) → Option (List ℕ) → Type 0
IsReported IsRight old new = (text : List ℕ) × IsRight text × Grows old new text

-- the call wrote a beginning of one right text
abbrev pub IsCutOff : (List ℕ → Type 0) → Option (List ℕ) → Option (List ℕ) → Type 0
IsCutOff IsRight old new = (text : List ℕ) × IsRight text × GrowsByFront old new text

-- what went out is a beginning of the text, and all of it if no write failed
abbrev pub TextGoesOut : Option (List ℕ) → Option (List ℕ) → ℕ → ℕ → List ℕ → Type 0
TextGoesOut old new failed failed' text = GrowsByFront old new text × (failed' ≡ failed → Grows old new text)

-- failures of the source and of the sink are counted exactly if the answer reports them
abbrev pub FailuresAreCounted : Result Done RunError → (read read' written written' : ℕ) → Type 0
FailuresAreCounted (Err Read) read read' written written' = (read < read') × (written' ≡ written)
FailuresAreCounted (Err Write) read read' written written' = (read' ≡ read) × (written < written')
FailuresAreCounted came read read' written written' = (read' ≡ read) × (written' ≡ written)

-- writing failed: that is counted, and the bytes that were written are a beginning of the text
abbrev pub IsWriteError : Option (List ℕ) → Option (List ℕ) → (before after : ℕ) → List ℕ → RunError → Type 0
IsWriteError old new before after text Write = GrowsByFront old new text × (before < after)
IsWriteError old new before after text e = ⊥
