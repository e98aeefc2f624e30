use Rattle.machine_table.specs.Opening.{at_start}
use Rattle.machine_theorem.proofs.Lemmas.{at_start_invariant, fair}
use Rattle.interleaving_core.proofs.Throughout.{ran_invariant, throughout}
use Rattle.interleaving_core.proofs.laws.runs_are_legal_throughout.Goals as goal

pub returns : goal.returns
returns c = λ config memory m after before events said answers good came ran k.
    let opens = at_start_invariant config memory (fair config good) in
    throughout m after events answers (ran_invariant before said (at_start config memory) m opens came) ran k
