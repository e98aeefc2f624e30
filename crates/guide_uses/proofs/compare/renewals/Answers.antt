-- The run is the one that the driver's contract tells of.
use Rattle.std.proofs.Common.{◌∙◌, ap, subst, List, [], ◌∷◌}
use Rattle.std.specs.FinMap.{empty}
use Rattle.programs.specs.declared.steps.Step.{Step}
use Rattle.network.specs.declared.counts.Counts.{Counts}
use Rattle.machine_table.specs.Machine.{Machine}
use Rattle.machine_table.specs.Opening.{at_start}
use Rattle.programs.specs.declared.ends.End.TheVariants.{AllDone}
use Rattle.schedules.specs.declared.policy.Policy.TheVariants.{Rounds}
use Rattle.schedules.specs.Policies.{EndedBy}
use Rattle.guide_uses.specs.Renewals.{list_acts, one_core}
use Rattle.guide_uses.proofs.compare.renewals.Goals as goal

pub returns-in-AllDone : goal.returns-in-AllDone
returns-in-AllDone c =
    let m : Machine = c.run_to_end.new.system in
    let left : List (List Step) = c.run_to_end.new.programs in
    let events = c.in-AllDone.ensures.ended.0 in
    let first = c.in_ok-system.ensures.opened ∙ ap (at_start (one_core c.args.lease)) c.new.ensures in
    record {
      events = events;
      machine = m;
      left = left;
      ended = subst (λ (steps : List Step). EndedBy list_acts Rounds 1000 (at_start (one_core c.args.lease) empty)
          (steps ∷ []) events m left AllDone)
          c.new-3.ensures
          (subst (λ (k : Machine). EndedBy list_acts Rounds 1000 k (c.new-3.result ∷ []) events m left AllDone)
          first c.in-AllDone.ensures.ended.1);
      counted = ap (λ (counts : Counts). counts.renewals) c.counts.ensures;
    }
