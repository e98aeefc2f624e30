use Rattle.std.proofs.Common.{ℕ, ◌+◌, ap, ap₂, ◌∙◌}
use Rattle.streamed_runs.specs.StreamStates.{StreamState, issued_below}
use Rattle.streamed_runs.proofs.IssuedSums.{all_issued}
use Rattle.streamed_runs.proofs.streamed_run.StreamedRun.issued.Goals as goal

pub returns : goal.returns
returns c =
    let m = c.self.inside.system in
    ap₂ (λ (done opened : ℕ). done + opened) c.completed.ensures (c.from.ensures ∙ c.count_open_operations.ensures)
    ∙ all_issued m c.records_are_legal.ensures.issued m.config.cores c.self.invariant.2
    ∙ ap (λ (s : StreamState). issued_below s.machine s.machine.config.cores) c.self.view_is
