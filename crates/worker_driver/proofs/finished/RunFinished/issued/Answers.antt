use Rattle.std.proofs.Common.{[], inl, inr, ap, sym, ◌∙◌}
use Rattle.std.specs.Prelude.{slice_index_or}
use Rattle.std.proofs.lemmas.Bool.{cases_lt}
use Rattle.machine_table.specs.Machine.{Machine}
use Rattle.worker_driver.proofs.finished.RunFinished.issued.Goals as goal

pub returns : goal.returns
returns c = λ m shown.
    let run = c.args.self.now in
    let core = c.args.core in
    let list = c.closed_machines_list_what_was_issued.ensures in
    let as_shown = ap (λ (k : Machine). slice_index_or k.issued core []) shown.1 in
    elim (cases_lt core run.set_up.config.cores) [
      | inl below ↦
          c.issued.ensures.issued shown.0 below ∙ sym (list.there run shown.0 core below) ∙ as_shown
      | inr past ↦ c.issued.ensures.none past ∙ sym (list.none run shown.0 core past) ∙ as_shown
    ]
