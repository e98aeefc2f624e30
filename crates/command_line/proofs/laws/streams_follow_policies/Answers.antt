use Rattle.std.proofs.Common.{◌≡◌, Bool, true, false, Option, Some, None, refl}
use Rattle.std.specs.Prelude.{if◌then◌else◌, ◌&&◌, ◌||◌}
use Rattle.command_line.specs.Options.{cores_in_vain, counts_in_vain, is_shared, json_in_vain, rows_in_vain}
use Rattle.command_line.specs.Options.{progress_in_vain}
use Rattle.command_line.specs.declared.words.Conflict.{Conflict}
use Rattle.command_line.specs.declared.words.Conflict.TheVariants.{Counts, Every, Json, Stream, Cores, Progress}
use Rattle.command_line.proofs.laws.streams_follow_policies.Goals as goal

-- a stream that isn't asked for in vain isn't by threads
by_policy : (counts rows json counted stream shared cores progress : Bool) → (let why : Option Conflict =
    if counts then Some Counts
    else (if rows then Some Every
    else (if json then Some Json
    else (if stream && (counted || shared) then Some Stream
    else (if cores then Some Cores else (if progress then Some Progress else None))))) in
    why) ≡ None → stream ≡ true → shared ≡ false
by_policy counts rows json counted stream false cores progress none is = refl
by_policy true rows json counted true true cores progress none is = absurd cc
by_policy false true json counted true true cores progress none is = absurd cc
by_policy false false true counted true true cores progress none is = absurd cc
by_policy false false false true true true cores progress none is = absurd cc
by_policy false false false false true true cores progress none is = absurd cc
by_policy counts rows json counted false true cores progress none is = absurd cc

pub returns : goal.returns
returns c = λ command rows options file (asked, ask, streams, same, word).
    let by = by_policy (counts_in_vain asked.trace) (rows_in_vain asked.trace) (json_in_vain asked.trace)
    asked.trace.counts asked.stream (is_shared asked.trace.run.schedule) (cores_in_vain asked)
    (progress_in_vain asked) ask.2 streams in
    rw same by
