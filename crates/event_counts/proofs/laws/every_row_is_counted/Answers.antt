use Rattle.event_counts.proofs.CountedRows.{rows_counted, rows_number}
use Rattle.event_counts.proofs.laws.every_row_is_counted.Goals as goal

pub returns-clause-rows : goal.returns-clause-rows
returns-clause-rows c = λ config memory cores banks every events at some.
    rows_counted config memory cores banks every events some at

pub returns-clause-number : goal.returns-clause-number
returns-clause-number c = rows_number
