use Rattle.std.proofs.Common.{◌++◌, List, ap, ◌∙◌}
use Rattle.physiological_order.specs.declared.operation.Op.{Op}
use Rattle.machine_table.specs.Opening.{at_start}
use Rattle.machine_theorem.proofs.Lemmas.{at_start_invariant, fair}
use Rattle.interleaving_core.specs.IssuedOps.{issued_in}
use Rattle.interleaving_core.proofs.Runs.{run_issues, none_at}
use Rattle.interleaving_core.proofs.laws.cores_are_issued_what_is_answered_so.Goals as goal

pub returns : goal.returns
returns c = λ config memory after events answers good ran core.
    run_issues events answers (at_start config memory) after (at_start_invariant config memory (fair config good)) ran
    core
    ∙ ap (λ (ops : List Op). ops ++ issued_in core events answers) (none_at config.cores core)
