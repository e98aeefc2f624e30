-- Each outcome is listed, and a run has no other end.
use Rattle.sequential_ends.specs.Every.{values_in}
use Rattle.guide_uses.proofs.Listed.{are_listed}
use Rattle.guide_uses.proofs.ends.ends_and_runs.Goals as goal

pub returns : goal.returns
returns c =
    are_listed _ (values_in c.in_ok-ends.ends) c.in_ok-ends.ensures.all
    c.in_ok-runs.runs.items c.in_ok-runs.ensures.outcomes
