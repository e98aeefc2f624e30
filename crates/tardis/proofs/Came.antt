-- What a call on the bytes of a source answers is what came of it, case by case.
use Rattle.std.proofs.Common.{◌≡◌, ◌≢◌, Bool, List, ℕ, Option, Result, Ok, Err, refl}
use Rattle.std.specs.Prelude.{IfErr, IfOk, IsErrOf}
use Rattle.report.specs.Answers.{IsCutOff, IsReported}
use Rattle.report.specs.Bytes.{OfBytes}
use Rattle.run_results.specs.declared.results.Done.{Done}
use Rattle.run_results.specs.declared.results.RunError.{RunError}
use Rattle.run_results.specs.declared.results.RunError.TheVariants.{BadConfig, Read, Write}
use Rattle.run_options.specs.declared.options.StreamOptions.{StreamOptions}
use Rattle.report.specs.Streams.{HasNoStream, IsBegun, IsStreamReport, IsStreamText}
use Rattle.tardis.specs.Answers.{CameOf, Devices, RunsStream}

pub came_of : {F K : Type 0} (d : Devices F K) (IsReport : List ℕ → Bool → List ℕ → Type 0)
    (HasNone : List ℕ → RunError → Type 0) (known : Option (List ℕ)) (old new : K) (result : Result Done RunError) →
    IfOk result (λ done. OfBytes known (λ bytes. IsReported (IsReport bytes done.all_done)
    (d.contents old) (d.contents new))) →
    IfErr result (λ e. e ≢ Read → e ≢ Write → OfBytes known (λ bytes. HasNone bytes e)) →
    (IsErrOf result Write → OfBytes known (λ bytes. (all_done : Bool)
    × IsCutOff (IsReport bytes all_done) (d.contents old) (d.contents new))) →
    IfErr result (λ e. e ≢ Write → new ≡ old) → CameOf d IsReport HasNone known old new result
came_of d IsReport HasNone known old new (Ok done) reported refused cut_off nothing = reported
came_of d IsReport HasNone known old new (Err Read) reported refused cut_off nothing = nothing (λ e. cc)
came_of d IsReport HasNone known old new (Err Write) reported refused cut_off nothing = cut_off refl
came_of d IsReport HasNone known old new (Err e) reported refused cut_off nothing =
    (refused (λ e. cc) (λ e. cc), nothing (λ e. cc))

-- the same of a trace that is run as it is read
pub streamed : {F K : Type 0} (d : Devices F K) (options : StreamOptions) (known : Option (List ℕ)) (old new : K)
    (result : Result Done RunError) →
    IfOk result (λ done. IsReported (IsStreamReport options known done.all_done) (d.contents old) (d.contents new)) →
    IfErr result (λ e. e ≢ Read → e ≢ Write → HasNoStream options known e) →
    IfErr result (λ e. e ≢ Write → IsReported (IsBegun options known) (d.contents old) (d.contents new)) →
    (IsErrOf result Write → IsCutOff (IsStreamText options known) (d.contents old) (d.contents new)) →
    (IsErrOf result BadConfig → new ≡ old) → RunsStream d options known old new result
streamed d options known old new (Ok done) reported refused begun cut_off untouched = reported
streamed d options known old new (Err Read) reported refused begun cut_off untouched = begun (λ e. cc)
streamed d options known old new (Err Write) reported refused begun cut_off untouched = cut_off refl
streamed d options known old new (Err BadConfig) reported refused begun cut_off untouched =
    (refused (λ e. cc) (λ e. cc), untouched refl)
streamed d options known old new (Err e) reported refused begun cut_off untouched =
    (refused (λ e. cc) (λ e. cc), begun (λ e. cc))
