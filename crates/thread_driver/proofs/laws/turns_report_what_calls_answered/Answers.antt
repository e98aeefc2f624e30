use Rattle.thread_driver.proofs.Reports.{bank_report, core_report, step_went}
use Rattle.thread_driver.proofs.laws.turns_report_what_calls_answered.Goals as goal

pub returns-clause-cores : goal.returns-clause-cores
returns-clause-cores g c m p q before after told turn =
    core_report g.P.Program.acts m p q before after told turn

pub returns-clause-steps : goal.returns-clause-steps
returns-clause-steps g c m p q before after told turn =
    step_went g.P.Program.acts m before after turn.done p.part.core.open_op p turn.between turn.step_done

pub returns-clause-banks : goal.returns-clause-banks
returns-clause-banks g c fair m p q told turn = bank_report fair m p q told turn

pub returns-clause-moved : goal.returns-clause-moved
returns-clause-moved g c turn = (λ x. x, λ x. x)
