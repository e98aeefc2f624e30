use Rattle.std.proofs.Common.{◌≡◌, ◌∙◌, Bool, true, false, List, Option, Some, None, codes, refl, subst, sym}
use Rattle.std.specs.Prelude.{IfSome, if◌then◌else◌}
use Rattle.clap.specs.Words.{Row, found_of, rows_of}
use Rattle.command_line.specs.Job.{AskForConflict, conflict_of}
use Rattle.command_line.specs.Options.{TellsAsked, cores_in_vain, counts_in_vain, json_in_vain, rows_in_vain}
use Rattle.command_line.specs.Options.{progress_in_vain, stream_in_vain}
use Rattle.command_line.specs.declared.options.Asked.{Asked}
use Rattle.command_line.specs.declared.words.Conflict.{Conflict}
use Rattle.command_line.specs.declared.words.Conflict.TheVariants.{Fair, Counts, Every, Json, Stream, Cores, Progress}
use Rattle.command_line.proofs.words.trace_job.Goals as goal

-- what can't be had together isn't a fair draw
not_fair : (counts rows json stream cores progress : Bool) → (let why : Option Conflict =
    if counts then Some Counts
    else (if rows then Some Every
    else (if json then Some Json else (if stream then Some Stream
    else (if cores then Some Cores else (if progress then Some Progress else None))))) in
    why) ≡ Some Fair → ⊥
not_fair true rows json stream cores progress e = absurd cc
not_fair false true json stream cores progress e = absurd cc
not_fair false false true stream cores progress e = absurd cc
not_fair false false false true cores progress e = absurd cc
not_fair false false false false true progress e = absurd cc
not_fair false false false false false true e = absurd cc
not_fair false false false false false false e = absurd cc

asks : (rows : List Row) (why : Conflict) (asked : Asked) → TellsAsked rows asked → conflict_of asked ≡ Some why →
    AskForConflict (codes "trace") rows why
asks rows Fair asked tells is =
    absurd (not_fair (counts_in_vain asked.trace) (rows_in_vain asked.trace) (json_in_vain asked.trace)
    (stream_in_vain asked) (cores_in_vain asked) (progress_in_vain asked) is)
asks rows Counts asked tells is = (refl, asked, tells, is)
asks rows Every asked tells is = (refl, asked, tells, is)
asks rows Json asked tells is = (refl, asked, tells, is)
asks rows Stream asked tells is = (refl, asked, tells, is)
asks rows Cores asked tells is = (refl, asked, tells, is)
asks rows Progress asked tells is = (refl, asked, tells, is)

pub returns-in-Some-clause-conflict : goal.returns-in-Some-clause-conflict
returns-in-Some-clause-conflict c =
    let rows = rows_of (found_of c.args.matches.now) in
    let tells : TellsAsked rows c.in_ok-asked.asked =
    subst (λ (o : Option Asked). IfSome o (TellsAsked rows)) c.in_ok-asked.ensures.ok_part
    c.asked_trace_run.ensures.asked in
    asks rows c.in-Some.why c.in_ok-asked.asked tells (sym c.conflict_of.ensures ∙ c.in-Some.is)
