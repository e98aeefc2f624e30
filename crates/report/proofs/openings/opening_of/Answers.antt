use Rattle.std.proofs.Common.{ℕ, List, Option, subst, sym}
use Rattle.run_results.specs.declared.results.RunError.{RunError}
use Rattle.run_results.specs.declared.results.RunError.TheVariants.{NoMemory, Read, Trace}
use Rattle.trace_reader.specs.Causes.{OpeningFault}
use Rattle.trace_reader.specs.Grammar.{IsOpening}
use Rattle.trace_reader.specs.Outcomes.{WantsMemory}
use Rattle.trace_reader.specs.Reading.{opening_in}
use Rattle.report.specs.Openings.{HasNoOpening, IsOpeningFault, as_opening}
use Rattle.report.specs.Refusals.{IsUnread}
use Rattle.report.proofs.Unread.{unread}
use Rattle.report.proofs.openings.opening_of.Goals as goal

unopened : (known : Option (List ℕ)) (before after : ℕ) (e : RunError) →
    IsUnread (IsOpeningFault known) (WantsMemory opening_in known) before after e →
    HasNoOpening known before after (as_opening e)
unopened known before after Read is = is
unopened known before after NoMemory is = is
unopened known before after (Trace e) is = is
unopened known before after e is = absurd is

pub returns-in-Err-clause-refused : goal.returns-in-Err-clause-refused
returns-in-Err-clause-refused g c =
    let known = g.S.Source.remaining c.args.source.now in
    subst (HasNoOpening known _ _) (sym c.opening_refusal.ensures)
    (unopened known _ _ _ (unread IsOpening OpeningFault opening_in c.in-Err.error _ _ known c.in-Err.ensures.refused
    c.in-Err.ensures.fault c.in-Err.ensures.only))
