-- Why a run in pieces has no whole report, and what was written of it until then.
use Rattle.std.proofs.Common.{◌≡◌, ◌≢◌, ◌<◌, ℕ, true, List, Option, Result, Ok, Err, refl, sym, subst, ◌∙◌}
use Rattle.std.specs.Prelude.{IfErr, OnOk}
use Rattle.byte_streams.specs.Whole.{GrowsByFront}
use Rattle.machine_table.specs.SetUp.{is_good}
use Rattle.run_options.specs.declared.options.StreamOptions.{StreamOptions}
use Rattle.run_results.specs.declared.results.Done.{Done}
use Rattle.run_results.specs.declared.results.RunError.{RunError}
use Rattle.run_results.specs.declared.results.RunError.TheVariants.{NoMemory, Read, Trace, Write}
use Rattle.report.specs.Answers.{FailuresAreCounted, IsCutOff, IsReported}
use Rattle.report.specs.Refusals.{IsUnread}
use Rattle.report.specs.StreamParts.{IsNotWritten, IsStopped}
use Rattle.report.specs.Streams.{HasNoStream, IsBegun, IsStreamFault, IsStreamText, stream_config}

module _ (options : StreamOptions) (known old : Option (List ℕ)) (read written : ℕ) where
  -- reading stopped behind what was written
  pub unread : (new : Option (List ℕ)) (read' between written' : ℕ) (e : RunError) → between ≡ read →
      written' ≡ written → IsReported (IsBegun options known) old new →
      IsUnread (IsStreamFault options.cores known) (Unit {0}) between read' e →
      IsStopped options known old new read read' written written' e
  unread new read' between written' Read same put begun is = (subst (λ n. n < read') same is, put, begun)
  unread new read' between written' NoMemory same put begun is = (is.0 ∙ same, put, begun)
  unread new read' between written' (Trace e) same put begun is = (is.0 ∙ same, put, begun, is.1)
  unread new read' between written' e same put begun is = absurd is

  -- a text didn't go out behind what was written
  pub not_written : (now new : Option (List ℕ)) (read' between written' : ℕ) (text : List ℕ) (e : RunError) →
      read' ≡ read → between ≡ written → IsReported (IsBegun options known) old now →
      (GrowsByFront now new text → IsCutOff (IsStreamText options known) old new) →
      IsNotWritten now new between written' text e → IsStopped options known old new read read' written written' e
  not_written now new read' between written' text NoMemory same put begun part is =
      (same, is.1 ∙ put, subst (λ c. IsReported (IsBegun options known) old c) (sym is.0) begun)
  not_written now new read' between written' text Write same put begun part is =
      (same, subst (λ n. n < written') put is.1, part is.0)
  not_written now new read' between written' text e same put begun part is = absurd is

  module _ (new : Option (List ℕ)) (read' written' : ℕ) where
    abbrev Stopped : RunError → Type 0
    Stopped e = IsStopped options known old new read read' written written' e

    pub refused : is_good (stream_config options) ≡ true → (e : RunError) → Stopped e → e ≢ Read → e ≢ Write →
        HasNoStream options known e
    refused good Read is read_not write_not = absurd (read_not refl)
    refused good Write is read_not write_not = absurd (write_not refl)
    refused good NoMemory is read_not write_not = good
    refused good (Trace e) is read_not write_not = (good, is.3)
    refused good e is read_not write_not = absurd is

    pub begun : (e : RunError) → Stopped e → e ≢ Write → IsReported (IsBegun options known) old new
    begun Read is write_not = is.2
    begun Write is write_not = absurd (write_not refl)
    begun NoMemory is write_not = is.2
    begun (Trace e) is write_not = is.2
    begun e is write_not = absurd is

    pub cut_off : (r : Result Done RunError) → IfErr r Stopped → r ≡ Err Write →
        IsCutOff (IsStreamText options known) old new
    cut_off r stopped is = (subst (λ (q : Result Done RunError). IfErr q Stopped) is stopped).2

    pub counted : (r : Result Done RunError) → OnOk r ((read' ≡ read) × (written' ≡ written)) → IfErr r Stopped →
        FailuresAreCounted r read read' written written'
    counted (Ok done) same stopped = same
    counted (Err Read) same stopped = (stopped.0, stopped.1)
    counted (Err Write) same stopped = (stopped.0, stopped.1)
    counted (Err NoMemory) same stopped = (stopped.0, stopped.1)
    counted (Err (Trace e)) same stopped = (stopped.0, stopped.1)
    counted (Err e) same stopped = absurd stopped
