use Rattle.std.proofs.Common.{refl, arith}
use Rattle.machine_table.specs.Opening.{at_start}
use Rattle.event_counts.specs.Counting.{no_counter}
use Rattle.event_counts.proofs.SentMessages.{all_counted, one_at_most}
use Rattle.event_counts.proofs.laws.every_message_is_counted.Goals as goal

pub returns-clause-one : goal.returns-clause-one
returns-clause-one c = one_at_most

pub returns-clause-all : goal.returns-clause-all
returns-clause-all c = λ config memory cores banks every events.
    all_counted (at_start config memory) events (no_counter cores banks every)
    (record { free = λ k later. refl; bound = omega arith }) refl
