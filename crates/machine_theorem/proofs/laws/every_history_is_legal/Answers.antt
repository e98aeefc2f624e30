use Rattle.machine_table.specs.Opening.{at_start}
use Rattle.machine_table.specs.Runs.{after_all}
use Rattle.machine_theorem.proofs.Consistency.{consistent}
use Rattle.machine_theorem.proofs.Found.{delivery_found}
use Rattle.machine_theorem.proofs.FoundCases.{messages_find_cases}
use Rattle.machine_theorem.proofs.Events.{invariant}
use Rattle.machine_theorem.proofs.SetUps.{after_all_same}
use Rattle.machine_theorem.proofs.laws.every_history_is_legal.Goals as goal

pub returns-clause-consistent : goal.returns-clause-consistent
returns-clause-consistent c = λ config opening events good. consistent (after_all (at_start config opening) events)
    (invariant config opening events good)

pub returns-clause-opening : goal.returns-clause-opening
returns-clause-opening c = λ config opening events. (after_all_same (at_start config opening) events).opening

pub returns-clause-found : goal.returns-clause-found
returns-clause-found c = λ config opening events good number message found.
    let m = after_all (at_start config opening) events in
    delivery_found m number (messages_find_cases m (invariant config opening events good)) message found
